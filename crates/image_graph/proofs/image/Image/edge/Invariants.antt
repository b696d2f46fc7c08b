use Rattle.std.proofs.Common.{◌≡◌}
use Rattle.image_graph.specs.Edge.{edge_below}
use Rattle.image_graph.specs.State.{config_of, memory_of}
use Rattle.image_graph.proofs.image.Image.edge.Given as goal

abbrev pub invariant-loop-seat : goal.invariant-loop-seat
invariant-loop-seat loop = loop.edge ≡ edge_below (config_of loop.self) (memory_of loop.self) loop.region loop.seat
