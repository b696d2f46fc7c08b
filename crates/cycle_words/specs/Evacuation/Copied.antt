-- What copying objects out of the collection set makes of the words of an image.
use Rattle.std.specs.Prelude.{ℕ, ◌≡◌, ◌≢◌, ◌+◌, ◌-◌, ◌%◌, ◌<◌, ◌≤◌, ◌⊎◌, ◌==◌, ◌&&◌, nat_lt, if◌then◌else◌, bit_and, List, slice_index, Option, Some, None, zero, suc, ⊤}
use Rattle.std.specs.Int.{bit_at}
use Rattle.heap_words.specs.declared.config.Config.{Config}
use Rattle.heap_words.specs.Words.{Word, Cset, Free, Top, Heap}
use Rattle.heap_words.specs.Encoding.{header_word, plain_header}
use Rattle.regions.specs.Place.{base_of, region_with}
use Rattle.regions.specs.Sets.{IsIn, IsOutside, all_but}
use Rattle.regions.specs.ServedRooms.{lowest_room}
use Rattle.image_graph.specs.Make.{AreWithin}
use Rattle.cycle_words.specs.Evacuation.Live.{words_at}
use Rattle.cycle_words.specs.Evacuation.Copying.{tops_outside}

-- the region to which an object is copied: the lowest one outside the collection set that has room
abbrev pub copy_room : Config → (Word → ℕ) → ℕ → Option ℕ
copy_room config memory address = lowest_room config.region_words (tops_outside config.region_words (memory Cset) (λ region. memory (Top region))) (words_at memory address) config.regions

-- An object can be copied out: it lies in one region, which is of the collection set, and no region uses more words than it
-- has.
pub record CanCopyOut (config : Config) (memory : Word → ℕ) (address : ℕ) : Type 0 where
  pub above : config.region_words ≤ address
  pub of_region : region_with config address < config.regions
  pub in_set : IsIn (memory Cset) (region_with config address)
  pub lies : address % config.region_words + words_at memory address ≤ config.region_words
  pub tops : AreWithin config memory

-- the address behind all that is in use in a region
abbrev pub top_address : Config → (Word → ℕ) → ℕ → ℕ
top_address config memory region = base_of config region + memory (Top region)

-- the address of the copy, if some region has room
abbrev pub copy_in : Config → (Word → ℕ) → Option ℕ → Option ℕ
copy_in config memory None = None
copy_in config memory (Some region) = Some (top_address config memory region)

abbrev pub copy_address : Config → (Word → ℕ) → ℕ → Option ℕ
copy_address config memory address = copy_in config memory (copy_room config memory address)

-- the word at an address after so many words were copied from one address to another; the header of the copy is plain
abbrev pub copied_word : (heap : ℕ → ℕ) (from to words : ℕ) → ℕ → ℕ
copied_word heap from to words address =
    if to == address then plain_header else (if nat_lt to address && nat_lt address (to + words) then heap (from + (address - to)) else heap address)

-- The words after an object was copied to the top of a region: its words stand there, the top has grown, the region is not
-- free, and the old copy is forwarded to the new one. All other words stay.
unfoldable pub copied_to : Config → (Word → ℕ) → (address region : ℕ) → Word → ℕ
copied_to config memory address region (Heap asked_address) = if address == asked_address then header_word (top_address config memory region) else copied_word (λ heap_address. memory (Heap heap_address)) address (top_address config memory region) (words_at memory address) asked_address
copied_to config memory address region (Top asked_region) = if region == asked_region then memory (Top region) + words_at memory address else memory (Top asked_region)
copied_to config memory address region Free = bit_and (memory Free) (all_but region)
copied_to config memory address region word = memory word

-- and where no region has room, as they were
abbrev pub copied_in : Config → (Word → ℕ) → ℕ → Option ℕ → Word → ℕ
copied_in config memory a None word = memory word
copied_in config memory address (Some region) word = copied_to config memory address region word

abbrev pub copied_out : Config → (Word → ℕ) → ℕ → Word → ℕ
copied_out config memory address = copied_in config memory address (copy_room config memory address)

-- the words of which copying may change some
abbrev pub MayChange : Word → Type 0
MayChange (Heap address) = ⊤
MayChange (Top region) = ⊤
MayChange Free = ⊤
MayChange word = ⊥

-- The same as a relation: an object was copied from an address to the top of a region.
pub record IsCopiedTo (config : Config) (before after : Word → ℕ) (address region : ℕ) : Type 0 where
  pub header : after (Heap (top_address config before region)) ≡ plain_header
  pub words : (k : ℕ) → 0 < k → k < words_at before address → after (Heap (top_address config before region + k)) ≡ before (Heap (address + k))
  pub forwarded : after (Heap address) ≡ header_word (top_address config before region)
  pub elsewhere : (other_address : ℕ) → other_address ≢ address → (other_address < top_address config before region) ⊎ (top_address config before region + words_at before address ≤ other_address) → after (Heap other_address) ≡ before (Heap other_address)
  pub top : after (Top region) ≡ before (Top region) + words_at before address
  pub other_tops : (other_region : ℕ) → other_region ≢ region → after (Top other_region) ≡ before (Top other_region)
  pub in_use : IsOutside (after Free) region
  pub others_free : (other_region : ℕ) → other_region < config.regions → other_region ≢ region → bit_at (after Free) other_region ≡ bit_at (before Free) other_region
  pub others : (word : Word) → (MayChange word → ⊥) → after word ≡ before word

-- the words after so many objects of a list were copied out, one after the other
unfoldable pub copied_by : Config → (Word → ℕ) → List ℕ → (turns : ℕ) → Word → ℕ
copied_by config memory objects zero word = memory word
copied_by config memory objects (suc turns) word = copied_out config (copied_by config memory objects turns) (slice_index objects turns) word

-- an object was copied out of the collection set, to a region outside
pub record IsCopiedOut (config : Config) (before after : Word → ℕ) (address : ℕ) : Type 0 where
  pub region : ℕ
  pub found : copy_room config before address ≡ Some region
  pub below : region < config.regions
  pub outside : IsOutside (before Cset) region
  pub room : before (Top region) + words_at before address ≤ config.region_words
  pub copied : IsCopiedTo config before after address region
