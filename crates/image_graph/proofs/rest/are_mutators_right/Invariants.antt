use Rattle.std.proofs.Common.{ℕ, ◌<◌}
use Rattle.image_graph.specs.State.{memory_of}
use Rattle.image_graph.specs.Laid.{IsMutatorRight}
use Rattle.image_graph.proofs.rest.are_mutators_right.Given as goal

abbrev pub invariant-loop-mutator : goal.invariant-loop-mutator
invariant-loop-mutator loop = (mutator : ℕ) → mutator < loop.mutator → IsMutatorRight (memory_of loop.image) loop.objects mutator
