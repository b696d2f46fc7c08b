-- Where the objects of a text go in a heap: in the order of their rows, which is that of their names, one behind the other, in regions
-- 0 upward, each within one region.
use Rattle.std.specs.Prelude.{ℕ, ◌+◌, ◌-◌, ◌≤◌, ◌==◌, if◌then◌else◌, length, zero, suc}
use Rattle.heap_words.specs.declared.config.Config.{Config}
use Rattle.regions.specs.Place.{base_of, region_with}
use Rattle.regions.specs.Places.{none_shut, end_before, new_place}
use Rattle.shen_graph.specs.GraphText.{Text, row_of}
use Rattle.image_graph.specs.Plot.{heap_end}

-- the words of the object in a row: header, shape, name, and one for each reference and each number
abbrev pub words_of_row : Text → ℕ → ℕ
words_of_row text index = 3 + length (row_of text index).refs + length (row_of text index).nums

-- the address of its object
abbrev pub address_of : Config → Text → ℕ → ℕ
address_of config text index = new_place config.region_words none_shut (words_of_row text) index

-- where the last object ends of the first so many rows
abbrev pub end_behind : Config → Text → ℕ → ℕ
end_behind config text rows = end_before config.region_words none_shut (words_of_row text) rows

-- all objects end within the heap: they need no more regions than it has
abbrev pub Fits : Config → Text → Type 0
Fits config text = end_behind config text (length text.rows) ≤ heap_end config

-- the words of a region that the objects of the first so many rows use: up to where the last one ends that is placed there
unfoldable pub used_words : Config → Text → ℕ → ℕ → ℕ
used_words config text zero region = 0
used_words config text (suc index) region = if region_with config (address_of config text index) == region then address_of config text index + words_of_row text index - base_of config region else used_words config text index region
