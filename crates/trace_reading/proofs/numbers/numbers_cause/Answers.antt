use Rattle.std.proofs.Common.{sym, ◌∙◌}
use Rattle.trace_reading.proofs.Words.{numbers_go_on, number_stops, words_end, ranges_end}
use Rattle.trace_reading.proofs.numbers.numbers_cause.Goals as goal

pub returns-in_err-word : goal.returns-in_err-word
returns-in_err-word c = c.from_residual.ensures ∙ sym (words_end c.args.ranges.now c.loop-least.least-index (0, 0) _ _ c.loop-least-test.true c.in_err-word.ensures.words c.loop-least.invariant)

pub returns-in-Some : goal.returns-in-Some
returns-in-Some c =
    sym (number_stops c.args.ranges.now c.loop-least.least-index (0, 0) _ _ _ c.in-Some.why _ c.loop-least-test.true c.in_ok-word.ensures.words (sym c.number_cause.ensures ∙ c.in-Some.is) c.loop-least.invariant)

pub loop-least-preserved : goal.loop-least-preserved
loop-least-preserved c =
    numbers_go_on c.args.ranges.now c.loop-least.least-index (0, 0) _ _ _ _ c.loop-least-test.true c.in_ok-word.ensures.words (sym c.number_cause.ensures ∙ c.in_default.is) c.loop-least.invariant

pub returns : goal.returns
returns c = sym (ranges_end c.args.ranges.now c.loop-least.least-index _ _ c.loop-least-test.false c.loop-least.invariant)
