use Rattle.std.proofs.Common.{List, ℕ, map}
use Rattle.std.specs.String.{string_bytes}
use Rattle.trace_runs.specs.Words.{IsCheck}
use Rattle.trace_runs.proofs.Words.{none_asked}
use Rattle.trace_runs.proofs.mode.mode_of.Goals as goal

pub returns : goal.returns
returns c =
    let no_check : IsCheck (map string_bytes c.args.words.now) → ⊥ = rw c.if-is_check.false at c.is_check.ensures in
    none_asked (map string_bytes c.args.words.now) c.in_default.ensures c.in_default-steps_before.ensures c.in_default-steps_before-2.ensures c.in_default-resume_steps_of.ensures c.in_default-workers_of.ensures
    c.in_default-workload_of.ensures c.in_default-count_of.ensures no_check
