use Rattle.std.proofs.Common.{ℕ, List, eqb, length, sym, ap, map, ◌∙◌, arith}
use Rattle.std.specs.Prelude.{codes}
use Rattle.std.specs.Cmp.Lexicographic.{pointwise}
use Rattle.std.specs.String.{string_bytes}
use Rattle.std.proofs.lemmas.Bool.{false≢true}
use Rattle.std.proofs.lemmas.List.{length-map}
use Rattle.trace_runs.proofs.Words.{word_and_one, queue_named, first_word, queue_begins}
use Rattle.trace_runs.proofs.mode.count_of.Goals as goal

pub returns-in-len2 : goal.returns-in-len2
returns-in-len2 c =
    queue_named (map string_bytes c.args.words.now) (string_bytes c.count-item.result) c.number_in.result
    (word_and_one string_bytes c.args.words.now c.word-item.result c.count-item.result (codes "queue") c.in-len2.len_at_least c.in-len2.len_below
    c.word-item.is c.count-item.is (c.if-eq.ensures ∙ ap (λ (text : List ℕ). pointwise eqb text (codes "queue")) c.as_str.ensures.value))
    (rw (← c.as_bytes.ensures.value) c.number_in.ensures)

pub bounds-words-0 : goal.bounds-words-0
bounds-words-0 c = omega (arith, c.in-len2.len_at_least)

pub bounds-words-1 : goal.bounds-words-1
bounds-words-1 c = omega (arith, c.in-len2.len_at_least)

pub returns-in_default : goal.returns-in_default
returns-in_default c = λ asked. absurd (omega (arith, c.in_default.len_below, length-map c.args.words.now string_bytes, ap length asked.1.0))

pub returns-in_default-2 : goal.returns-in_default-2
returns-in_default-2 c = λ asked.
    false≢true (sym c.if-eq.false ∙ (first_word string_bytes c.args.words.now c.word-item.result (codes "queue") c.eq.result (omega (arith, c.in-len2.len_at_least)) c.word-item.is
    (c.eq.ensures ∙ ap (λ (text : List ℕ). pointwise eqb text (codes "queue")) c.as_str.ensures.value)).1 (queue_begins _ asked.0 asked.1))

pub returns-in_default-3 : goal.returns-in_default-3
returns-in_default-3 c = λ asked. absurd (omega (arith, c.in_default.len_at_least, length-map c.args.words.now string_bytes, ap length asked.1.0))
