-- What callers know of an image.
use Rattle.std.specs.Prelude.{ℕ, ◌≡◌, ◌≢◌, ◌⊎◌, ◌+◌, ◌-◌, ◌<◌, Bool, List}
use Rattle.heap_words.specs.declared.config.Config.{Config}
use Rattle.heap_words.specs.Words.{Word, Current, Share, view}
use Rattle.heap_words.specs.Encoding.{end_in}
use Rattle.regions.specs.Place.{IsOf}
use Rattle.heap_words.specs.Ranges.{seat_count}
use Rattle.heap_world.specs.Walk.{IsMarked}
use Rattle.image_graph.specs.declared.image.Image.{Image}

-- its heap
abbrev pub config_of : Image → Config
config_of image = image.config

-- its words, in the order of their places
abbrev pub words_of : Image → List ℕ
words_of image = image.words.items

-- its words by name
abbrev pub memory_of : Image → Word → ℕ
memory_of image = view image.config image.words.items

-- all is as it was
pub record IsUnchanged (old new : Image) : Type 0 where
  pub config : config_of new ≡ config_of old
  pub words : words_of new ≡ words_of old

-- a seat has a buffer, whose last word is one of a region
abbrev pub EndsIn : Config → (Word → ℕ) → (seat region : ℕ) → Type 0
EndsIn config memory seat region = (memory (Current seat) ≢ 0) × IsOf config region (end_in (memory (Current seat)) - 1)

-- a region is current: it is the one that is shared, or some seat's buffer ends in it
abbrev pub IsSomeSeats : Config → (Word → ℕ) → ℕ → Type 0
IsSomeSeats config memory region = (memory Share ≡ region + 1) ⊎ ((seat : ℕ) × (seat < seat_count config.mutators config.helpers) × EndsIn config memory seat region)

-- a flag for each word of the heap: whether an object begins there that was found
abbrev pub marks_of : Image → List Bool
marks_of image = image.marks.items

-- the addresses of the objects that were found, in the order in which they were
abbrev pub found_of : Image → List ℕ
found_of image = image.addresses.items

-- a word for each word of the heap: the new place of what begins there, once the objects were packed
abbrev pub places_of : Image → List ℕ
places_of image = image.places.items

-- flags and list say the same
abbrev pub AreFound : Image → Type 0
AreFound image = IsMarked image.config.region_words image.marks.items image.addresses.items
