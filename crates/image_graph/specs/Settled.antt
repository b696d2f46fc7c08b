-- What settling makes of the words of an image: a buffer stays that ends at the top of its region; each other one is gone.
use Rattle.std.specs.Prelude.{ℕ, ◌≡◌, ◌<◌, ◌⊎◌, ◌==◌, ◌||◌, if◌then◌else◌, true, zero, suc}
use Rattle.heap_words.specs.declared.config.Config.{Config}
use Rattle.heap_words.specs.Ranges.{seat_count}
use Rattle.heap_words.specs.Words.{Word, Current, write}
use Rattle.image_graph.specs.SeatBuffers.{is_last, filled_over}

-- the words after the turn of a seat
abbrev pub settled_at : Config → (Word → ℕ) → (seat : ℕ) → Word → ℕ
settled_at config memory seat =
    if (memory (Current seat) == 0) || is_last config memory (memory (Current seat)) then memory
    else write (filled_over memory (memory (Current seat))) (Current seat) 0

-- and after the turns of so many seats, in their order
unfoldable pub settled_below : Config → (Word → ℕ) → ℕ → Word → ℕ
settled_below config memory zero = memory
settled_below config memory (suc seat) = settled_at config (settled_below config memory seat) seat

-- The words after all seats had their turn.
abbrev pub buffers_settled : Config → (Word → ℕ) → Word → ℕ
buffers_settled config memory = settled_below config memory (seat_count config.mutators config.helpers)

-- each buffer ends at the top of its region
abbrev pub AreLast : Config → (Word → ℕ) → Type 0
AreLast config memory = (seat : ℕ) → seat < seat_count config.mutators config.helpers → (memory (Current seat) ≡ 0) ⊎ (is_last config memory (memory (Current seat)) ≡ true)
