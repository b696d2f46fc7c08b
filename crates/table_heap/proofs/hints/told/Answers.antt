use Rattle.std.proofs.Common.{arith, ap, sym, ◌∙◌}
use lib.ListN.{get_or}
use Rattle.table_heap.proofs.Keeping.{tells_least, tells_greatest, least_below}
use Rattle.table_heap.proofs.hints.told.Goals as goal

pub push_as-requires-clause-pushes : goal.push_as-requires-clause-pushes
push_as-requires-clause-pushes c = tells_least _ _ _ c.in-Ok.ensures.4

pub push_as-requires-2-clause-pushes : goal.push_as-requires-2-clause-pushes
push_as-requires-2-clause-pushes c =
    let hints_told = c.in-Ok-push_as.ensures.rule.0 in
    let range = c.args.config.in_range in
    let least_is = sym (ap (λ numbers. get_or numbers 0 0) hints_told.0) ∙ c.region_words-least.ensures in
    tells_greatest _ _ _ hints_told.1 (least_below _ _ _ _ _ (omega (arith, range.least_regions)) (omega (arith, range.least_words)) least_is c.region_words.ensures c.heap_size.ensures.value)
