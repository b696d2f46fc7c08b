use Rattle.std.proofs.Common.{◌≡◌, ◌+◌, ◌<◌, ℕ, get_or}
use Rattle.heap_words.specs.Words.{image_start}
use Rattle.image_graph.specs.State.{config_of}
use Rattle.control.specs.Clear.{IsClear}
use Rattle.control.specs.Image.{image_in}
use Rattle.control.proofs.pause.load.Given as goal

abbrev pub invariant-loop-index : goal.invariant-loop-index
invariant-loop-index loop = record {
  config : config_of loop.image ≡ config_of loop.initial.image;
  clear : IsClear loop.image;
  loaded : (index : ℕ) → index < loop.index → get_or (image_in loop.image) index 0 ≡ get_or loop.words (image_start (config_of loop.initial.image) + index) 0;
}
