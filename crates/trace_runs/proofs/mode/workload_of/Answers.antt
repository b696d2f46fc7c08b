use Rattle.std.proofs.Common.{ℕ, List, eqb, length, sym, ap, map, ◌∙◌, arith}
use Rattle.std.specs.Prelude.{codes}
use Rattle.std.specs.Cmp.Lexicographic.{pointwise}
use Rattle.std.specs.String.{string_bytes}
use Rattle.std.proofs.lemmas.Bool.{false≢true}
use Rattle.std.proofs.lemmas.List.{length-map}
use Rattle.trace_runs.proofs.Words.{word_and_two, is_churn, first_word, churn_begins}
use Rattle.trace_runs.proofs.mode.workload_of.Goals as goal

pub returns-in_ok-count-in-len3 : goal.returns-in_ok-count-in-len3
returns-in_ok-count-in-len3 c =
    is_churn (map string_bytes c.args.words.now) (string_bytes c.seed-item.result) (string_bytes c.count-item.result) c.in_ok-seed-in-len3.seed c.in_ok-count-in-len3.count
    (word_and_two string_bytes c.args.words.now c.word-item.result c.seed-item.result c.count-item.result (codes "churn") c.in-len3.len_at_least c.in-len3.len_below
    c.word-item.is c.seed-item.is c.count-item.is (c.if-eq.ensures ∙ ap (λ (text : List ℕ). pointwise eqb text (codes "churn")) c.as_str.ensures.value))
    (rw (← c.as_str-in-len3.ensures.value) c.in_ok-seed-in-len3.ensures)
    (rw (← c.as_bytes.ensures.value) c.in_ok-count-in-len3.ensures)

pub bounds-words-0 : goal.bounds-words-0
bounds-words-0 c = omega (arith, c.in-len3.len_at_least)

pub bounds-words-1 : goal.bounds-words-1
bounds-words-1 c = omega (arith, c.in-len3.len_at_least)

pub bounds-words-2 : goal.bounds-words-2
bounds-words-2 c = omega (arith, c.in-len3.len_at_least)

pub returns-in_default : goal.returns-in_default
returns-in_default c = λ asked. absurd (omega (arith, c.in_default.len_below, length-map c.args.words.now string_bytes, ap length asked.1.1.0))

pub returns-in_default-2 : goal.returns-in_default-2
returns-in_default-2 c = λ asked.
    false≢true (sym c.if-eq.false ∙ (first_word string_bytes c.args.words.now c.word-item.result (codes "churn") c.eq.result (omega (arith, c.in-len3.len_at_least)) c.word-item.is
    (c.eq.ensures ∙ ap (λ (text : List ℕ). pointwise eqb text (codes "churn")) c.as_str.ensures.value)).1 (churn_begins _ asked.0 asked.1.0 asked.1.1))

pub returns-in_default-3 : goal.returns-in_default-3
returns-in_default-3 c = λ asked. absurd (omega (arith, c.in_default.len_at_least, length-map c.args.words.now string_bytes, ap length asked.1.1.0))
