-- The words of the image that a control keeps.
use Rattle.std.specs.Prelude.{ℕ, ◌≡◌, ◌+◌, ◌-◌, ◌||◌, if◌then◌else◌, Bool, true, false, nat_lt, List, [], take, drop, map, length, slice_index}
use Rattle.std.specs.List.{range_with_len}
use Rattle.heap_words.specs.declared.config.Config.{Config}
use Rattle.heap_words.specs.Words.{image_start}
use Rattle.heap_world.specs.Walk.{has}
use Rattle.heap_world.specs.Change.{image_words}
use Rattle.image_graph.specs.declared.image.Image.{Image}
use Rattle.image_graph.specs.State.{config_of, words_of}
use Rattle.collector_rows.specs.declared.extent.Extent.{Extent}
use Rattle.collector_rows.specs.declared.extent.Extent.TheVariants.{Whole}
use Rattle.collector_rows.specs.Extent.{is_of_extent}
use Rattle.collector_rows.specs.declared.control_spot.ControlSpot.{ControlSpot}
use Rattle.collector_rows.specs.declared.control_spot.ControlSpot.TheVariants.{LoadWord, StoreWord}

-- the words of the image, without those before it
abbrev pub image_in : Image → List ℕ
image_in image = drop (image_start (config_of image)) (words_of image)

-- the words of a list whose indices pass a test, and 0 for each other one
abbrev pub shown_by : (ℕ → Bool) → List ℕ → List ℕ
shown_by test image = map (λ index. if test index then slice_index image index else 0) (range_with_len 0 (length image))

-- of an image the words of an extent. What it has at other indices does not matter
abbrev pub part_in : Config → Extent → List ℕ → List ℕ
part_in config Whole image = image
part_in config extent image = shown_by (is_of_extent config extent) image

-- a word of the new image is seen: it is of the extent, or the free words of a buffer began there
abbrev pub is_seen : Config → Extent → (starts : List ℕ) → ℕ → Bool
is_seen config extent starts index = is_of_extent config extent index || has starts index

-- the words of the new image
abbrev pub image_shown : Config → Extent → (starts image : List ℕ) → List ℕ
image_shown config Whole starts image = image
image_shown config extent starts image = shown_by (is_seen config extent starts) image

-- those of the image that have been loaded, or that are stored; outside pauses none
abbrev pub words_seen : Config → ControlSpot → (starts image : List ℕ) → List ℕ
words_seen config (LoadWord index extent) starts image = take index (part_in config extent image)
words_seen config (StoreWord index extent) starts image = image_shown config extent starts image
words_seen config _ starts image = []

-- whether the word that is loaded is of the extent, or the one that is stored is seen
abbrev pub sees_own : Config → ControlSpot → (starts : List ℕ) → Bool
sees_own config (LoadWord index extent) starts = is_of_extent config extent index
sees_own config (StoreWord index extent) starts = is_seen config extent starts index
sees_own config _ starts = true

-- it is
abbrev pub SeesOwn : Config → ControlSpot → (starts : List ℕ) → Type 0
SeesOwn config spot starts = sees_own config spot starts ≡ true

-- whether it stores words of a new image
abbrev pub is_storing : ControlSpot → Bool
is_storing (StoreWord index extent) = true
is_storing _ = false

-- whether its next step goes from a word of the image to the next one, in a pause of all of the image
abbrev pub is_inside_image : Config → ControlSpot → Bool
is_inside_image config (LoadWord index Whole) = nat_lt (index + 1) (image_words config)
is_inside_image config (StoreWord index Whole) = nat_lt (index + 1) (image_words config)
is_inside_image config _ = false

-- how many words it loads, or stores, before the last one in a pause of all of the image
abbrev pub loads_left : Config → ControlSpot → ℕ
loads_left config (LoadWord index Whole) = image_words config - (index + 1)
loads_left config _ = 0

abbrev pub stores_left : Config → ControlSpot → ℕ
stores_left config (StoreWord index Whole) = image_words config - (index + 1)
stores_left config _ = 0

-- the words of the image in a table
abbrev pub image_from : Config → List ℕ → List ℕ
image_from config words = drop (image_start config) words

-- no other words than those of this table were loaded, and none are stored
abbrev pub IsLoadedFrom : Config → List ℕ → ControlSpot → List ℕ → Type 0
IsLoadedFrom config table (LoadWord index extent) image = image ≡ take index (part_in config extent table)
IsLoadedFrom config table (StoreWord index extent) image = ⊥
IsLoadedFrom config table _ image = Unit {0}
