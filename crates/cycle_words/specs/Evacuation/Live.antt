-- How much of a region lives once the marks are closed, and which regions are candidates for evacuation.
use Rattle.std.specs.Prelude.{ℕ, ◌≡◌, ◌+◌, ◌-◌, ◌/◌, ◌≤◌, ◌==◌, ◌&&◌, nat_le, not, if◌then◌else◌, Bool, false}
use Rattle.std.specs.Int.{bit_at}
use Rattle.heap_words.specs.declared.config.Config.{Config}
use Rattle.heap_words.specs.Words.{Word, Free, Top, Tams, Heap}
use Rattle.heap_words.specs.Encoding.{object_words}
use Rattle.regions.specs.Place.{base_of}
use Rattle.regions.specs.Sets.{IsOutside}
use Rattle.regions.specs.Tops.{sum_below}
use Rattle.image_graph.specs.Pinned.{is_pinned}
use Rattle.image_graph.specs.State.{IsSomeSeats}
use Rattle.cycle_words.specs.Marking.Marks.{is_black}
use Rattle.cycle_words.specs.Marking.Final.{is_current}

-- the words of the object at an address
abbrev pub words_at : (Word → ℕ) → ℕ → ℕ
words_at memory address = object_words (memory (Heap (address + 1)))

-- the same if the object is marked, and 0 else
abbrev pub marked_words : Config → (Word → ℕ) → ℕ → ℕ
marked_words config memory address = if is_black config memory address then words_at memory address else 0

-- the words of the marked objects of a region
abbrev pub live_words : Config → (Word → ℕ) → ℕ → ℕ
live_words config memory region = sum_below (λ k. marked_words config memory (base_of config region + k)) config.region_words

-- the words of a region that are in use and not live
abbrev pub garbage : Config → (Word → ℕ) → ℕ → ℕ
garbage config memory region = memory (Top region) - live_words config memory region

-- A region is a candidate: it is in use, neither pinned nor current, nothing was allocated in it since marking began, and a quarter
-- of a region in it is garbage.
abbrev pub is_candidate : Config → (Word → ℕ) → ℕ → Bool
is_candidate config memory region =
    (bit_at (memory Free) region == 0) && not (is_pinned config memory region) && not (is_current config memory region) && (memory (Top region) == memory (Tams region)) && nat_le (config.region_words / 4) (garbage config memory region)

-- the same, as a relation
pub record IsCandidate (config : Config) (memory : Word → ℕ) (region : ℕ) : Type 0 where
  pub in_use : IsOutside (memory Free) region
  pub unpinned : is_pinned config memory region ≡ false
  pub nobodys : IsSomeSeats config memory region → ⊥
  pub no_new : memory (Top region) ≡ memory (Tams region)
  pub quarter : config.region_words / 4 ≤ garbage config memory region
