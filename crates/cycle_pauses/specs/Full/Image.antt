-- A full collection as what a pause makes of the words of an image.
use Rattle.std.specs.Prelude.{ℕ, ◌+◌, List, map}
use Rattle.std.specs.List.{range_with_len}
use Rattle.heap_words.specs.declared.config.Config.{Config}
use Rattle.heap_words.specs.Words.{Word, image_start}
use Rattle.heap_words.specs.Rows.{name_of}
use Rattle.heap_world.specs.Change.{Change, image_words, image_view}
use Rattle.image_graph.specs.Full.{full}

-- the words of the image in a memory, in the order of their places
abbrev pub words_of_image : Config → (Word → ℕ) → List ℕ
words_of_image config memory = map (λ k. memory (name_of config (image_start config + k))) (range_with_len 0 (image_words config))

-- and those after a full collection
abbrev pub full_image : Change
full_image config image = words_of_image config (full config (image_view config image))
