use Rattle.trace_reading.specs.Causes.{parts}
use Rattle.trace_reading.proofs.Words.{number_digits, second_word, no_second_word, not_regions, regions_small}
use Rattle.std.proofs.Common.{sym}
use Rattle.trace_reading.proofs.head.most_reserved.Goals as goal

pub returns-in_default : goal.returns-in_default
returns-in_default c = λ no_cause. absurd (no_second_word (parts 32 c.args.text.now) _ _ c.cut.ensures.parts c.in_default.ensures.words no_cause)

pub returns-then-not-is_number : goal.returns-then-not-is_number
returns-then-not-is_number c = λ no_cause.
    let words = parts 32 c.args.text.now in
    absurd (not_regions words c.in-Some.word.now (second_word words _ _ _ _ c.cut.ensures.parts c.in-Some.ensures.words) no_cause c.if-not-is_number.ensures)

pub value_of-requires : goal.value_of-requires
value_of-requires c = number_digits c.in-Some.word.now (sym c.if-not-is_number.ensures)

pub returns-in-None : goal.returns-in-None
returns-in-None c = λ no_cause.
    let words = parts 32 c.args.text.now in
    absurd (regions_small words c.in-Some.word.now (second_word words _ _ _ _ c.cut.ensures.parts c.in-Some.ensures.words) no_cause c.in-None.ensures)
