use Rattle.std.proofs.Common.{sym, ◌∙◌}
use Rattle.trace_reading.proofs.Words.{titled_words, other_title, other_count}
use Rattle.trace_reading.proofs.head.title_cause.Goals.{else-eq-via-then-eq+else-count_words-ranges, else-eq-via-else-eq}
use Rattle.trace_reading.proofs.head.title_cause.Goals as goal

pub returns-then-count_words-ranges : goal.returns-then-count_words-ranges
returns-then-count_words-ranges c =
    c.numbers_cause.ensures ∙ sym (titled_words c.args.title.now c.args.ranges.now _ _ _ c.cut.ensures.parts (sym c.if-eq.ensures) (sym c.count_words.ensures ∙ c.if-count_words-ranges.true))

pub returns-else-eq : goal.returns-else-eq
returns-else-eq c = elim c.else-eq.branch [
  | else-eq-via-then-eq+else-count_words-ranges w ↦ sym (other_count c.args.title.now c.args.ranges.now _ _ _ c.cut.ensures.parts (λ same_count. w.if-count_words-ranges.false (w.count_words.ensures ∙ same_count)))
  | else-eq-via-else-eq w ↦ sym (other_title c.args.title.now c.args.ranges.now _ _ _ c.cut.ensures.parts (sym w.if-eq.ensures))
]
