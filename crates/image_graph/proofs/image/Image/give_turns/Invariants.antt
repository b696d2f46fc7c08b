use Rattle.std.proofs.Common.{◌≡◌}
use Rattle.image_graph.specs.Full.{served}
use Rattle.image_graph.specs.State.{config_of, memory_of}
use Rattle.image_graph.specs.Make.{AreWithin}
use Rattle.image_graph.proofs.Turns.{IsTold}
use Rattle.image_graph.proofs.image.Image.give_turns.Given as goal

abbrev pub invariant-loop-mutator : goal.invariant-loop-mutator
invariant-loop-mutator loop = record {
  config : config_of loop.self ≡ config_of loop.fn.self;
  words : memory_of loop.self ≡ served (config_of loop.fn.self) (memory_of loop.fn.self) loop.mutator;
  within : AreWithin (config_of loop.self) (memory_of loop.self);
  told : IsTold (config_of loop.fn.self) (memory_of loop.fn.self) loop.mutator loop.all;
}
