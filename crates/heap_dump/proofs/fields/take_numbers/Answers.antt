use Rattle.std.proofs.Common.{ℕ, ◌^◌, ◌<◌, ◌≤◌, List, length, ap, subst, inl, inr, ◌∙◌, arith}
use Rattle.shen_graph.specs.GraphText.{add_number}
use Rattle.shen_graph.proofs.RowLemmas.{length-change_last}
use Rattle.trace_reading.specs.Causes.{parts_behind}
use Rattle.trace_reading.proofs.Words.{number_digits}
use Rattle.heap_dump.proofs.TakenFields.{TakenNums, nums_more, nums_refused, no_number, is_number, number_is}
use Rattle.heap_dump.proofs.fields.take_numbers.Goals as goal
use Rattle.heap_dump.proofs.fields.take_numbers.Goals.{then-count-eq-MOST_FIELDS-via-then-count-eq-MOST_FIELDS, then-count-eq-MOST_FIELDS-via-else-count-eq-MOST_FIELDS+then-is_some}

pub returns-then-count-eq-MOST_FIELDS : goal.returns-then-count-eq-MOST_FIELDS
returns-then-count-eq-MOST_FIELDS c =
    let all_parts = parts_behind 32 c.args.words.now in
    let numbers_taken = subst (λ (any_words : List (List ℕ)). TakenNums all_parts any_words c.numbers.count c.args.graph.now c.numbers.graph) c.in-Some.ensures.words c.numbers.invariant in
    let refused = nums_refused all_parts (parts_behind 32 c.in-Some.behind.now) c.numbers.count c.args.graph.now c.numbers.graph c.in-Some.word.now numbers_taken in
    elim c.then-count-eq-MOST_FIELDS.branch [
      | then-count-eq-MOST_FIELDS-via-then-count-eq-MOST_FIELDS w ↦ refused (inl (omega (arith, w.if-count-eq-MOST_FIELDS.true)))
      | then-count-eq-MOST_FIELDS-via-else-count-eq-MOST_FIELDS+then-is_some w ↦ refused (inr (no_number c.in-Some.word.now w.number_cause.result w.number_cause.ensures w.if-is_some.ensures))
    ]

pub value_of-requires : goal.value_of-requires
value_of-requires c =
    number_digits c.in-Some.word.now (is_number c.in-Some.word.now c.number_cause.result c.number_cause.ensures c.if-is_some.ensures).0

pub returns-in_default-value_of : goal.returns-in_default-value_of
returns-in_default-value_of c =
    let number_facts = is_number c.in-Some.word.now c.number_cause.result c.number_cause.ensures c.if-is_some.ensures in
    let too_large : 2 ^ 64 ≤ _ = c.in_default-value_of.ensures in
    absurd (omega (arith, too_large, number_facts.1))

pub numbers-preserved : goal.numbers-preserved
numbers-preserved c =
    let all_parts = parts_behind 32 c.args.words.now in
    let numbers_taken = subst (λ (any_words : List (List ℕ)). TakenNums all_parts any_words c.numbers.count c.args.graph.now c.numbers.graph) c.in-Some.ensures.words c.numbers.invariant in
    let number_facts = is_number c.in-Some.word.now c.number_cause.result c.number_cause.ensures c.if-is_some.ensures in
    let value = c.in-Some-value_of.value in
    let value_fits : value < 2 ^ 64 = omega (arith, number_facts.1, c.in-Some-value_of.ensures) in
    nums_more all_parts (parts_behind 32 c.in-Some.behind.now) c.numbers.count c.args.graph.now c.numbers.graph c.number.new.self c.in-Some.word.now value numbers_taken
    (omega (arith, c.if-count-eq-MOST_FIELDS.false, c.numbers.invariant.few)) value_fits
    (number_is c.in-Some.word.now value number_facts.0 value_fits c.in-Some-value_of.ensures) c.number.ensures
    (ap (λ text. length text.rows) c.number.ensures ∙ length-change_last (add_number value) c.numbers.graph.rows)
