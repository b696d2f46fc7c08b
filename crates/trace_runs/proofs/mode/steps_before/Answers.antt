use Rattle.std.proofs.Common.{ℕ, List, eqb, ap, ◌-◌, ◌∙◌, length, rules, arith}
use Rattle.std.proofs.lemmas.Grind.{common_steps}
use Rattle.std.specs.Cmp.Lexicographic.{pointwise}
use Rattle.std.specs.String.{string_bytes}
use Rattle.trace_runs.proofs.Words.{then_by_front, then_other}
use Rattle.trace_runs.proofs.mode.steps_before.Goals as goal

pub returns-in-len1-up : goal.returns-in-len1-up
returns-in-len1-up c =
    then_by_front string_bytes c.args.words.now _ c.last-item.result c.args.last_word.now (length c.args.words.now - 1) c.steps_of.result (let words_length = c.in-len1-up.len_at_least in omega (arith, words_length)) c.last-item.is (first_of (search rules, grind (arith, common_steps)))
    (c.if-eq.ensures ∙ ap (λ (text : List ℕ). pointwise eqb text c.args.last_word.now) c.as_str.ensures.value) c.steps_of.ensures

pub returns-in_default-2 : goal.returns-in_default-2
returns-in_default-2 c = λ asked.
    then_other string_bytes c.args.words.now c.last-item.result c.args.last_word.now (length c.args.words.now - 1) c.eq.result (let words_length = c.in-len1-up.len_at_least in omega (arith, words_length)) c.last-item.is
    (c.eq.ensures ∙ ap (λ (text : List ℕ). pointwise eqb text c.args.last_word.now) c.as_str.ensures.value) c.if-eq.false asked.0 asked.1
