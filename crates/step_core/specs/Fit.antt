-- Which words the control can go on from as it reads an image.
use Rattle.std.specs.Prelude.{ℕ, ◌≡◌, false, List, length, slice_index}
use Rattle.heap_words.specs.declared.config.Config.{Config}
use Rattle.shen_graph.specs.Graph.{Graph}
use Rattle.heap_world.specs.Asking.{Asking}
use Rattle.heap_world.specs.Represents.{Represents}
use Rattle.heap_world.specs.Change.{image_view, image_words}
use Rattle.collector_rows.specs.declared.extent.Extent.{Extent}
use Rattle.collector_rows.specs.Extent.{extent_by, extent_after}
use Rattle.collector_rows.specs.ByParts.{IsImagePart}
use Rattle.collector_rows.specs.declared.control_spot.ControlSpot.{ControlSpot}
use Rattle.collector_rows.specs.declared.control_spot.ControlSpot.TheVariants.{LoadWord}
use Rattle.collector_rows.specs.ControlRows.{loads_more, loaded_all}

-- a part of an image was loaded, of the extent of its own words, and the image stands for some graph, with the requests of some threads
abbrev pub IsPartOfSome : Config → Extent → List ℕ → Type 0
IsPartOfSome config extent part =
    ∥ ((whole : List ℕ) × (graph : Graph) × (asking : ℕ → Asking) × (length whole ≡ image_words config) × IsImagePart config extent whole part × (extent ≡ extent_by config (slice_index part 0) part)
    × Represents config (image_view config whole) graph asking) ∥₁

-- the last word of an image was loaded: what was loaded is a part of one that stands for some graph
abbrev pub IsWholeImage : Config → ℕ → ControlSpot → List ℕ → ℕ → Type 0
IsWholeImage config phase (LoadWord index extent) image got = loads_more config phase index extent got ≡ false → IsPartOfSome config (extent_after phase index extent got) (loaded_all config image got)
IsWholeImage config phase _ image got = Unit {0}
