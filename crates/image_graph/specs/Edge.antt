-- Up to where a region has objects: its top, but for the free words of a buffer that ends there.
use Rattle.std.specs.Prelude.{ℕ, ◌-◌, ◌==◌, ◌&&◌, nat_lt, not, if◌then◌else◌, Bool, zero, suc}
use Rattle.heap_words.specs.declared.config.Config.{Config}
use Rattle.heap_words.specs.Ranges.{seat_count}
use Rattle.heap_words.specs.Words.{Word, Top, Current}
use Rattle.heap_words.specs.Encoding.{next_in}
use Rattle.regions.specs.Place.{base_of}
use Rattle.image_graph.specs.SeatBuffers.{buffer_region, is_last}

-- a seat has a buffer in a region that ends at its top
abbrev pub is_last_in : Config → (Word → ℕ) → (region seat : ℕ) → Bool
is_last_in config memory region seat = not (memory (Current seat) == 0) && (buffer_region config (memory (Current seat)) == region) && is_last config memory (memory (Current seat))

-- the lesser of a number, and of where the free words of so many seats begin that end at the top
unfoldable pub edge_below : Config → (Word → ℕ) → (region : ℕ) → ℕ → ℕ
edge_below config memory region zero = memory (Top region)
edge_below config memory region (suc seat) =
    if is_last_in config memory region seat && nat_lt (next_in (memory (Current seat)) - base_of config region) (edge_below config memory region seat)
    then next_in (memory (Current seat)) - base_of config region
    else edge_below config memory region seat

-- The words of a region from its base that are in use, but for the free words of a buffer that ends at its top: the least, where several do.
abbrev pub edge : Config → (Word → ℕ) → ℕ → ℕ
edge config memory region = edge_below config memory region (seat_count config.mutators config.helpers)
