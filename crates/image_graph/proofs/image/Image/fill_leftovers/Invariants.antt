use Rattle.std.proofs.Common.{◌≡◌, ◌+◌, ◌-◌}
use Rattle.heap_words.specs.Words.{Heap}
use Rattle.regions.specs.Place.{base_of}
use Rattle.regions.specs.Walk.{start_of}
use Rattle.image_graph.specs.State.{config_of, memory_of, places_of, found_of, marks_of}
use Rattle.image_graph.specs.Leftovers.{is_left_over}
use Rattle.image_graph.proofs.LeftoversFilled.{filled_at, is_below}
use Rattle.image_graph.proofs.image.Image.fill_leftovers.Given as goal

abbrev pub invariant-loop-offset : goal.invariant-loop-offset
invariant-loop-offset loop = record {
  config : config_of loop.self ≡ config_of loop.fn.self;
  places : places_of loop.self ≡ places_of loop.fn.self;
  found : found_of loop.self ≡ found_of loop.fn.self;
  marks : marks_of loop.self ≡ marks_of loop.fn.self;
  words : memory_of loop.self ≡ filled_at (config_of loop.fn.self) (is_below (config_of loop.fn.self) loop.region loop.offset) (is_left_over (memory_of loop.fn.self) (found_of loop.fn.self) loop.left) (memory_of loop.fn.self);
  object : loop.object ≡ base_of (config_of loop.fn.self) loop.region + start_of (λ address. memory_of loop.fn.self (Heap address)) (base_of (config_of loop.fn.self) loop.region) (loop.offset - 1);
}
