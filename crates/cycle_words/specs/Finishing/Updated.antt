-- What updating all references in one pause makes of the words of an image: none names an old copy afterwards.
use Rattle.std.specs.Prelude.{ℕ, ◌≡◌, ◌+◌, ◌-◌, ◌^◌, ◌<◌, ◌==◌, ◌&&◌, ◌||◌, nat_le, nat_lt, not, if◌then◌else◌, Bool, true}
use Rattle.std.specs.Int.{bit_at}
use Rattle.heap_words.specs.declared.config.Config.{Config}
use Rattle.heap_words.specs.Words.{Word, Cset, Tams, Root, Answer, Heap}
use Rattle.heap_words.specs.Encoding.{is_forwarded, refs_in}
use Rattle.regions.specs.Place.{base_of, region_with}
use Rattle.regions.specs.Walk.{is_filler}
use Rattle.image_graph.specs.Full.{now_in}
use Rattle.image_graph.specs.Pinned.{is_pinned, object_of, is_in_use, EndInRegion}
use Rattle.image_graph.specs.Make.{AreWithin}
use Rattle.cycle_words.specs.Marking.Marks.{is_black}
use Rattle.cycle_words.specs.Evacuation.Begun.{is_collected}

-- a word updated: the address of an object of the collection set that has moved becomes that of its copy
abbrev pub updated_word : Config → (Word → ℕ) → ℕ → ℕ
updated_word config memory word = if is_collected config memory word then now_in memory word else word

-- an object is kept: it is marked, or was allocated since marking began
abbrev pub is_kept : Config → (Word → ℕ) → ℕ → Bool
is_kept config memory address = is_black config memory address || nat_le (memory (Tams (region_with config address))) (address - base_of config (region_with config address))

-- .. and it has not moved: in a pinned region of the collection set some have
abbrev pub is_kept_here : Config → (Word → ℕ) → ℕ → Bool
is_kept_here config memory address = not (is_forwarded (memory (Heap address))) && is_kept config memory address

-- an address is that of a reference of the object at another one; words that only fill have none
abbrev pub is_reference : (Word → ℕ) → (object : ℕ) → ℕ → Bool
is_reference memory object address = not (is_filler (memory (Heap object))) && nat_le (object + 3) address && nat_lt address (object + 3 + refs_in (memory (Heap (object + 1))))

-- objects of a region stay: it is outside the collection set, or pinned
abbrev pub stays : Config → (Word → ℕ) → ℕ → Bool
stays config memory region = (bit_at (memory Cset) region == 0) || is_pinned config memory region

-- an address lies in the part in use of such a region
abbrev pub is_staying : Config → (Word → ℕ) → ℕ → Bool
is_staying config memory address = is_in_use config memory address && stays config memory (region_with config address)

-- an address is that of a reference of a kept object that stays
abbrev pub is_kept_field : Config → (Word → ℕ) → ℕ → Bool
is_kept_field config memory address = is_staying config memory address && is_kept_here config memory (object_of config memory address) && is_reference memory (object_of config memory address) address

-- The words after all references were updated: those of kept objects that stay, roots and answers. All other words stay.
abbrev pub all_updated : Config → (Word → ℕ) → Word → ℕ
all_updated config memory (Heap address) = if is_kept_field config memory address then updated_word config memory (memory (Heap address)) else memory (Heap address)
all_updated config memory (Root mutator index) = updated_word config memory (memory (Root mutator index))
all_updated config memory (Answer mutator) = updated_word config memory (memory (Answer mutator))
all_updated config memory word = memory word

-- References can be updated: the collection set has regions of the heap alone, no region uses more words than it has, and where objects
-- stay each ends at the top of its region, or before, and so do words that only fill.
pub record CanUpdateAll (config : Config) (memory : Word → ℕ) : Type 0 where
  pub set : memory Cset < 2 ^ config.regions
  pub within : AreWithin config memory
  pub objects : (region : ℕ) → region < config.regions → stays config memory region ≡ true → EndInRegion config memory region
