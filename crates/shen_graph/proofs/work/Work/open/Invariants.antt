use Rattle.std.proofs.Common.{◌≡◌, ℕ, ◌<◌, length, get_or, take, None}
use Rattle.std.specs.Prelude.{slice_get, option_map}
use Rattle.shen_graph.specs.Work.{begun}
use Rattle.shen_graph.proofs.work.Work.open.Given as goal

abbrev pub invariant-loop-mutator : goal.invariant-loop-mutator
invariant-loop-mutator loop =
    (length loop.jobs ≡ 8) × ((index : ℕ) → index < 8 → get_or loop.jobs index None ≡ option_map begun (slice_get (take loop.mutator loop.scripts) index))
