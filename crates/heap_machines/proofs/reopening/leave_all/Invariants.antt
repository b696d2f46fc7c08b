use Rattle.std.proofs.Common.{◌≡◌}
use Rattle.image_graph.specs.State.{config_of, memory_of}
use Rattle.heap_machines.specs.Reopened.{words_left_out}
use Rattle.heap_machines.proofs.reopening.leave_all.Given as goal

abbrev pub invariant-loop-seat : goal.invariant-loop-seat
invariant-loop-seat loop = (config_of loop.image ≡ loop.config) × (memory_of loop.image ≡ words_left_out loop.seat (memory_of loop.initial.image))
