use Rattle.std.proofs.Common.{ℕ, List, eqb, ap, ◌∙◌}
use Rattle.std.specs.Prelude.{codes}
use Rattle.std.specs.Cmp.Lexicographic.{pointwise}
use Rattle.std.specs.String.{string_bytes}
use Rattle.trace_runs.proofs.Words.{one_word, decided}
use Rattle.trace_runs.proofs.mode.is_check.Goals as goal

pub returns-in-len1 : goal.returns-in-len1
returns-in-len1 c =
    decided _ _
    (one_word string_bytes c.args.words.now c.word-item.result (codes "check") c.eq.result c.in-len1.len_at_least c.in-len1.len_below c.word-item.is
    (c.eq.ensures ∙ ap (λ (text : List ℕ). pointwise eqb text (codes "check")) c.as_str.ensures.value))
