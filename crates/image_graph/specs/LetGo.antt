-- What letting go makes of the words of an image: no seat has a buffer. The free words of one that ends at the top of its region are given
-- back; those of any other only fill. Who was asked before may have lowered the top.
use Rattle.std.specs.Prelude.{ℕ, ◌≡◌, ◌-◌, ◌<◌, ◌==◌, if◌then◌else◌, zero, suc}
use Rattle.heap_words.specs.declared.config.Config.{Config}
use Rattle.heap_words.specs.Ranges.{seat_count}
use Rattle.heap_words.specs.Words.{Word, Top, Current, write}
use Rattle.heap_words.specs.Encoding.{next_in}
use Rattle.regions.specs.Place.{base_of}
use Rattle.image_graph.specs.SeatBuffers.{buffer_region, is_last, filled_over}

-- the words after a buffer's free words, which end at the top, were given back
abbrev pub given_back : Config → (Word → ℕ) → ℕ → Word → ℕ
given_back config memory word = write memory (Top (buffer_region config word)) (next_in word - base_of config (buffer_region config word))

-- the words after the turn of a seat
abbrev pub let_go_at : Config → (Word → ℕ) → (seat : ℕ) → Word → ℕ
let_go_at config memory seat =
    if memory (Current seat) == 0 then memory
    else write (if is_last config memory (memory (Current seat)) then given_back config memory (memory (Current seat)) else filled_over memory (memory (Current seat))) (Current seat) 0

-- and after the turns of so many seats, in their order
unfoldable pub let_go_below : Config → (Word → ℕ) → ℕ → Word → ℕ
let_go_below config memory zero = memory
let_go_below config memory (suc seat) = let_go_at config (let_go_below config memory seat) seat

-- The words after all seats had their turn.
abbrev pub let_go : Config → (Word → ℕ) → Word → ℕ
let_go config memory = let_go_below config memory (seat_count config.mutators config.helpers)

-- no seat has a buffer
abbrev pub HasNoBuffers : Config → (Word → ℕ) → Type 0
HasNoBuffers config memory = (seat : ℕ) → seat < seat_count config.mutators config.helpers → memory (Current seat) ≡ 0
