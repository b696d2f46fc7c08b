use Rattle.std.proofs.Common.{◌≡◌, ℕ, take}
use Rattle.std.specs.Prelude.{if◌then◌else◌, slice_index}
use Rattle.heap_world.specs.Walk.{has}
use Rattle.image_graph.specs.State.{config_of}
use Rattle.control.specs.Clear.{IsClear}
use Rattle.control.specs.Image.{image_in}
use Rattle.control.proofs.starts.clear_starts.Given as goal

abbrev pub invariant-loop-number : goal.invariant-loop-number
invariant-loop-number loop = record {
  config : config_of loop.image ≡ config_of loop.initial.image;
  clear : IsClear loop.image;
  cleared : (index : ℕ) → slice_index (image_in loop.image) index ≡ (if has (take loop.number loop.starts) index then 0 else slice_index (image_in loop.initial.image) index);
}
