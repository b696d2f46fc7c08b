use Rattle.std.proofs.Common.{ℕ, ◌≡◌, ◌<◌, None}
use Rattle.shen_graph.specs.Work.{next_of}
use Rattle.shen_check.proofs.judge.Judge.first_left.Given as goal

abbrev pub invariant-loop-mutator : goal.invariant-loop-mutator
invariant-loop-mutator loop = (mutator : ℕ) → mutator < loop.mutator → next_of loop.self.work mutator ≡ None
