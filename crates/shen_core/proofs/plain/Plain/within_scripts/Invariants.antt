use Rattle.std.proofs.Common.{ℕ, ◌<◌, ◌≤◌, length}
use Rattle.shen_graph.specs.Work.{replies_of, script_in}
use Rattle.shen_core.proofs.plain.Plain.within_scripts.Given as goal

abbrev pub invariant-loop-mutator : goal.invariant-loop-mutator
invariant-loop-mutator l = (t : ℕ) → t < l.mutator → length (replies_of l.work t) ≤ length (script_in l.work t)
