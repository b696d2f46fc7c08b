use Rattle.std.proofs.Common.{◌≡◌}
use Rattle.image_graph.specs.LetGo.{let_go_below}
use Rattle.image_graph.specs.State.{config_of, memory_of}
use Rattle.image_graph.proofs.image.Image.let_go.Given as goal

abbrev pub invariant-loop-seat : goal.invariant-loop-seat
invariant-loop-seat loop = record {
  config : config_of loop.self ≡ config_of loop.fn.self;
  words : memory_of loop.self ≡ let_go_below (config_of loop.fn.self) (memory_of loop.fn.self) loop.seat;
}
