use Rattle.std.proofs.Common.{sym, ◌∙◌}
use Rattle.trace_reading.proofs.Words.{item_goes_on, item_stops, items_end}
use Rattle.trace_reading.proofs.refused_items.items_cause.Goals as goal

pub returns-in-Some-item_cause : goal.returns-in-Some-item_cause
returns-in-Some-item_cause c =
    sym (item_stops c.args.config.now _ _ _ c.in-Some-item_cause.why _ c.in-Some.ensures.words (sym c.item_cause.ensures ∙ c.in-Some-item_cause.is) c.items.invariant)

pub items-smaller : goal.items-smaller
items-smaller c = c.in-Some.ensures.shorter

pub items-preserved : goal.items-preserved
items-preserved c = item_goes_on c.args.config.now _ _ _ _ c.in-Some.ensures.words (sym c.item_cause.ensures ∙ c.in_default-item_cause.is) c.items.invariant

pub returns : goal.returns
returns c = sym (items_end c.args.config.now _ _ c.in_default.ensures.words c.items.invariant)
