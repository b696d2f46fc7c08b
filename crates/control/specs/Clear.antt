-- The words of an image that a pause neither reads nor changes.
use Rattle.std.specs.Prelude.{ℕ, ◌≡◌, ◌<◌, slice_index}
use Rattle.heap_words.specs.Words.{image_start}
use Rattle.image_graph.specs.declared.image.Image.{Image}
use Rattle.image_graph.specs.State.{config_of, words_of}

-- the words before the image are 0
abbrev pub IsClear : Image → Type 0
IsClear image = (index : ℕ) → index < image_start (config_of image) → slice_index (words_of image) index ≡ 0
