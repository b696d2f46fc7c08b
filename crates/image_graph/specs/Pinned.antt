-- Which regions are pinned, and what of them is left over: objects that nothing leads to there become words that only fill.
use Rattle.std.specs.Prelude.{ℕ, ◌≡◌, ◌+◌, ◌-◌, ◌*◌, ◌^◌, ◌<◌, ◌≤◌, ◌==◌, ◌&&◌, nat_le, nat_lt, if◌then◌else◌, Bool, List, [], ◌++◌, map, zero, suc}
use Rattle.std.specs.List.{range_with_len, list_any}
use Rattle.heap_words.specs.declared.config.Config.{Config}
use Rattle.heap_words.specs.Words.{Word, Top, Pin, Heap, write}
use Rattle.heap_words.specs.Encoding.{filler_header, object_words}
use Rattle.regions.specs.Place.{base_of, region_with}
use Rattle.regions.specs.Walk.{start_of, stride_at}
use Rattle.regions.specs.Places.{is_shut}

-- the 4 pin slots of each of so many mutators, counted from 0
abbrev pub pins_below : (Word → ℕ) → ℕ → List ℕ
pins_below memory zero = []
pins_below memory (suc mutator) = pins_below memory mutator ++ map (λ slot. memory (Pin mutator slot)) (range_with_len 0 4)

-- an address lies in a region
abbrev pub lies_in : Config → (region : ℕ) → ℕ → Bool
lies_in config region address = nat_le (base_of config region) address && nat_lt address (base_of config region + config.region_words)

-- a pin slot of a mutator holds an address of a region
abbrev pub has_pin : Config → (Word → ℕ) → (region mutator : ℕ) → Bool
has_pin config memory region mutator = list_any (λ slot. lies_in config region (memory (Pin mutator slot))) (range_with_len 0 4)

-- A region is pinned: some pin slot holds an address there. Its objects stay where they are.
abbrev pub is_pinned : Config → (Word → ℕ) → ℕ → Bool
is_pinned config memory region = list_any (has_pin config memory region) (range_with_len 0 config.mutators)

abbrev pub is_pinned_below : Config → (Word → ℕ) → (regions : ℕ) → ℕ → Bool
is_pinned_below config memory regions region = nat_lt region regions && is_pinned config memory region

-- the set of the first so many regions that pass a test
unfoldable pub set_of : (ℕ → Bool) → ℕ → ℕ
set_of test zero = 0
set_of test (suc region) = (if test region then 1 else 0) * 2 ^ region + set_of test region

-- the set of the pinned regions, and of a row of the heap whether its region is in it: rows are regions counted from 1
abbrev pub pinned_set : Config → (Word → ℕ) → ℕ
pinned_set config memory = set_of (is_pinned config memory) config.regions

abbrev pub is_row_pinned : Config → (Word → ℕ) → ℕ → Bool
is_row_pinned config memory = is_shut (pinned_set config memory)

-- where the object begins, or the words that only fill, that has a word of the heap
abbrev pub object_of : Config → (Word → ℕ) → ℕ → ℕ
object_of config memory address = base_of config (region_with config address) + start_of (λ a. memory (Heap a)) (base_of config (region_with config address)) (address - base_of config (region_with config address))

-- an address lies in the part in use of one of the heap's regions
abbrev pub is_in_use : Config → (Word → ℕ) → ℕ → Bool
is_in_use config memory address = nat_le config.region_words address && (nat_lt (region_with config address) config.regions && nat_lt (address - base_of config (region_with config address)) (memory (Top (region_with config address))))

-- an object begins there, or words that only fill
abbrev pub begins : Config → (Word → ℕ) → ℕ → Bool
begins config memory address = is_in_use config memory address && (object_of config memory address == address)

-- The words after the objects that pass a test, in the regions that pass another, became words that only fill. All other words stay.
abbrev pub filled_in : Config → (in_region : ℕ → Bool) (left : ℕ → Bool) → (Word → ℕ) → Word → ℕ
filled_in config in_region left memory (Heap address) =
    if in_region (region_with config address) && begins config memory address && left address then filler_header (object_words (memory (Heap (address + 1)))) else memory (Heap address)
filled_in config in_region left memory word = memory word

-- the words after one of them did, if it passes the test
abbrev pub is_filled_from : Config → (left : ℕ → Bool) → (address : ℕ) → (Word → ℕ) → Word → ℕ
is_filled_from config left start memory word = if left start then write memory (Heap start) (filler_header (object_words (memory (Heap (start + 1))))) word else memory word

-- An object begins at a distance behind the base of a region, or words that only fill: what is before it ends there.
abbrev pub BeginsAt : Config → (Word → ℕ) → (region : ℕ) → ℕ → Type 0
BeginsAt config memory region distance = start_of (λ address. memory (Heap address)) (base_of config region) distance ≡ distance

-- each object of a region ends at its top, or before, and so do words that only fill
abbrev pub EndInRegion : Config → (Word → ℕ) → (region : ℕ) → Type 0
EndInRegion config memory region = (distance : ℕ) → distance < memory (Top region) → BeginsAt config memory region distance → distance + stride_at (λ address. memory (Heap address)) (base_of config region + distance) ≤ memory (Top region)

-- what is left over of a region can be filled
pub record CanFill (config : Config) (memory : Word → ℕ) (region : ℕ) : Type 0 where
  pub within : memory (Top region) ≤ config.region_words
  pub ends : EndInRegion config memory region
