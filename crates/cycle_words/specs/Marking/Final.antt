-- What the end of marking makes of the words of an image: the marks are closed, and regions without a live object are freed.
use Rattle.std.specs.Prelude.{ℕ, ◌≡◌, ◌+◌, ◌==◌, ◌&&◌, ◌||◌, nat_lt, nat_le, if◌then◌else◌, Bool, false, not, Option, None}
use Rattle.std.specs.List.{range_with_len, list_any}
use Rattle.std.specs.Int.{bit_at}
use Rattle.std.specs.Int.RustNames.{bit_or}
use Rattle.heap_words.specs.declared.config.Config.{Config}
use Rattle.heap_words.specs.Words.{Word, Free, Top, Tams, Limit, Current, Share}
use Rattle.heap_words.specs.Ranges.{seat_count}
use Rattle.heap_words.specs.Encoding.{end_in}
use Rattle.regions.specs.Place.{base_of, region_with, IsOf}
use Rattle.regions.specs.Sets.{IsOutside}
use Rattle.heap_world.specs.World.{Plot}
use Rattle.image_graph.specs.Pinned.{is_pinned}
use Rattle.image_graph.specs.State.{IsSomeSeats}
use Rattle.cycle_words.specs.Marking.Marks.{is_black, bits_of}
use Rattle.cycle_words.specs.Marking.Close.{closed}

-- a seat has a buffer that ends in a region
abbrev pub ends_in : Config → (Word → ℕ) → (region seat : ℕ) → Bool
ends_in config memory region seat =
    not (memory (Current seat) == 0) && (nat_lt (base_of config region) (end_in (memory (Current seat))) && nat_le (end_in (memory (Current seat))) (base_of config region + config.region_words))

-- a region is current: it is the one that is shared, or some seat's buffer ends in it
abbrev pub is_current : Config → (Word → ℕ) → ℕ → Bool
is_current config memory region = (memory Share == region + 1) || list_any (ends_in config memory region) (range_with_len 0 (seat_count config.mutators config.helpers))

-- some address of a region is black
abbrev pub has_black : Config → (Word → ℕ) → ℕ → Bool
has_black config memory region = list_any (is_black config memory) (range_with_len (base_of config region) config.region_words)

-- A region is dead: it is in use, neither pinned nor current, nothing was allocated in it since marking began, and nothing in it is
-- marked.
abbrev pub is_dead : Config → (Word → ℕ) → ℕ → Bool
is_dead config memory region = (bit_at (memory Free) region == 0) && not (is_pinned config memory region) && not (is_current config memory region) && (memory (Top region) == memory (Tams region)) && not (has_black config memory region)

-- the same, as a relation
pub record IsDead (config : Config) (memory : Word → ℕ) (region : ℕ) : Type 0 where
  pub in_use : IsOutside (memory Free) region
  pub unpinned : is_pinned config memory region ≡ false
  pub nobodys : IsSomeSeats config memory region → ⊥
  pub no_new : memory (Top region) ≡ memory (Tams region)
  pub unmarked : (address : ℕ) → IsOf config region address → is_black config memory address ≡ false

-- Regions are freed: they are in the set of free regions besides, and no word of them is in use. All other words stay.
abbrev pub freed : Config → (ℕ → Bool) → (Word → ℕ) → Word → ℕ
freed config out memory Free = bit_or (memory Free) (bits_of out 0 config.regions)
freed config out memory (Top region) = if out region then 0 else memory (Top region)
freed config out memory (Tams region) = if out region then 0 else memory (Tams region)
freed config out memory (Limit region) = if out region then 0 else memory (Limit region)
freed config out memory word = memory word

-- the pieces that are left, and whose a region then is
abbrev pub freed_block : Config → (ℕ → Bool) → Plot → Plot
freed_block config out block address = if out (region_with config address) then None else block address

abbrev pub freed_owner : (ℕ → Bool) → (ℕ → Option ℕ) → ℕ → Option ℕ
freed_owner out owner region = if out region then None else owner region

-- the regions that the end of marking frees: those that are dead once the marks are closed
abbrev pub dead_in : Config → (Word → ℕ) → ℕ → Bool
dead_in config memory = is_dead config (closed config memory)

-- The marks are closed, and the dead regions freed.
abbrev pub final_marked : Config → (Word → ℕ) → Word → ℕ
final_marked config memory = freed config (dead_in config memory) (closed config memory)
