-- How much of the image a pause loads and stores. In a wide heap a pause for which no room is needed leaves out the words of the heap where it
-- begins marking, and all from the words of the mutators on where it begins or ends the updating of references.
use Rattle.std.specs.Prelude.{ℕ, ◌+◌, ◌-◌, ◌==◌, ◌&&◌, ◌||◌, not, nat_lt, nat_le, Bool, true, if◌then◌else◌, List, ◌++◌, length, replicate, slice_index, zero, suc}
use Rattle.std.specs.Int.{bit_at}
use Rattle.heap_words.specs.declared.config.Config.{Config}
use Rattle.heap_words.specs.Counter.{is_out_of_room}
use Rattle.heap_words.specs.Words.{heap_size, image_start, roots_start, heap_start}
use Rattle.heap_words.specs.Phases.{idle_phase, marking_phase, evacuation_phase}
use Rattle.heap_world.specs.Change.{image_words}
use Rattle.collector_rows.specs.declared.extent.Extent.{Extent}
use Rattle.collector_rows.specs.declared.extent.Extent.TheVariants.{Whole, OffHeap, Ahead}

-- a heap is wide: a region has more words than one of a trace
abbrev pub is_wide : Config → Bool
is_wide config = nat_lt 1024 config.region_words

-- where in the image the words of the mutators begin, and those of the heap
abbrev pub roots_index : Config → ℕ
roots_index config = roots_start config - image_start config

abbrev pub heap_index : Config → ℕ
heap_index config = heap_start config - image_start config

-- whether the word at an index of the image is of the extent
abbrev pub is_of_extent : Config → Extent → ℕ → Bool
is_of_extent config Whole index = true
is_of_extent config OffHeap index = nat_lt index (heap_index config) || nat_le (heap_index config + heap_size config) index
is_of_extent config Ahead index = nat_lt index (roots_index config)

-- the index of the next word of the extent behind another index; behind the last one that of the image's end
abbrev pub next_loaded : Config → Extent → ℕ → ℕ
next_loaded config Whole index = index + 1
next_loaded config OffHeap index = if nat_le (heap_index config) (index + 1) && nat_lt (index + 1) (heap_index config + heap_size config) then heap_index config + heap_size config else index + 1
next_loaded config Ahead index = if nat_lt (index + 1) (roots_index config) then index + 1 else image_words config

-- the extent with which a pause begins, by the phase before it
abbrev pub first_extent : Config → ℕ → Extent
first_extent config phase = if is_wide config then (if phase == idle_phase then OffHeap else (if phase == marking_phase then Whole else Ahead)) else Whole

-- A word that was loaded says that room is needed: that of the copiers, the fourth of the image, where one of them found none in phase 2; or that
-- of what is asked for, the sixth, where a mutator waits.
abbrev pub says_room : (phase index got : ℕ) → Bool
says_room phase index got = ((index == 3) && ((phase == evacuation_phase) && is_out_of_room got)) || ((index == 5) && (bit_at got 1 == 1))

-- the extent then
abbrev pub extent_after : (phase index : ℕ) → Extent → (got : ℕ) → Extent
extent_after phase index extent got = if says_room phase index got then Whole else extent

-- the extent by the words that were loaded; those that were not read 0
abbrev pub extent_by : Config → ℕ → List ℕ → Extent
extent_by config phase image = extent_after phase 5 (extent_after phase 3 (first_extent config phase) (slice_index image 3)) (slice_index image 5)

-- the words that were loaded, with 0 for each that was left out before an index
abbrev pub padded : ℕ → List ℕ → List ℕ
padded index image = image ++ replicate (index - length image) 0

-- A word of the new image counts: it is of the extent, or it is not 0, as is the header of free words that only fill from then on.
abbrev pub counts : Config → Extent → List ℕ → ℕ → Bool
counts config extent image index = is_of_extent config extent index || not (slice_index image index == 0)

-- the first index from one on, among so many, whose word counts; where there is none the one behind them
unfoldable pub first_counting : Config → Extent → List ℕ → (left : ℕ) → ℕ → ℕ
first_counting config extent image zero index = index
first_counting config extent image (suc left) index = if counts config extent image index then index else first_counting config extent image left (index + 1)

-- the index of the word that is stored after another; behind the last one that of the image's end
abbrev pub next_stored : Config → Extent → List ℕ → ℕ → ℕ
next_stored config extent image index = first_counting config extent image (image_words config - (index + 1)) (index + 1)

-- a new image while it is stored, with the extent of its pause
pub record Counting : Type 0 where
  pub extent : Extent
  pub image : List ℕ
