use Rattle.std.proofs.Common.{sym, ◌∙◌}
use Rattle.trace_reading.proofs.Words.{limits_go_on, limit_stops, limit_words_end, limits_end}
use Rattle.trace_reading.proofs.body.limits_cause.Goals as goal

pub returns-in_err-word : goal.returns-in_err-word
returns-in_err-word c = c.from_residual.ensures ∙ sym (limit_words_end c.args.limits.now c.loop-limit.limit-index _ _ c.loop-limit-test.true c.in_err-word.ensures.words c.loop-limit.invariant)

pub returns-in-Some : goal.returns-in-Some
returns-in-Some c =
    sym (limit_stops c.args.limits.now c.loop-limit.limit-index _ _ _ c.in-Some.why _ c.loop-limit-test.true c.in_ok-word.ensures.words (sym c.number_cause.ensures ∙ c.in-Some.is) c.loop-limit.invariant)

pub loop-limit-preserved : goal.loop-limit-preserved
loop-limit-preserved c =
    limits_go_on c.args.limits.now c.loop-limit.limit-index _ _ _ _ c.loop-limit-test.true c.in_ok-word.ensures.words (sym c.number_cause.ensures ∙ c.in_default.is) c.loop-limit.invariant

pub returns : goal.returns
returns c = sym (limits_end c.args.limits.now c.loop-limit.limit-index _ _ c.loop-limit-test.false c.loop-limit.invariant)
