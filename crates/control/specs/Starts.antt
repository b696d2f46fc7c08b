-- Where in the image the free words of buffers begin. A pause that leaves out the words of the heap writes no others of them.
use Rattle.std.specs.Prelude.{ℕ, ◌≡◌, ◌+◌, ◌-◌, ◌<◌, ◌≤◌, nat_lt, if◌then◌else◌, List, length, slice_index}
use Rattle.heap_words.specs.declared.config.Config.{Config}
use Rattle.heap_words.specs.Ranges.{seat_count}
use Rattle.heap_words.specs.Words.{Word, Current, Heap, word_at, image_start, heap_size}
use Rattle.heap_words.specs.Encoding.{next_in, end_in}
use Rattle.collector_rows.specs.Extent.{heap_index}

-- of a buffer, by its word; where it has no free words, where those of the heap begin
abbrev pub start_index : Config → ℕ → ℕ
start_index config word = if nat_lt (next_in word) (end_in word) then word_at config (Heap (next_in word)) - image_start config else heap_index config

-- of the buffer of each seat
pub record AreStarts (config : Config) (memory : Word → ℕ) (starts : List ℕ) : Type 0 where
  pub long : length starts ≡ 12
  pub of_seat : (seat : ℕ) → seat < seat_count config.mutators config.helpers → slice_index starts seat ≡ start_index config (memory (Current seat))

-- an index is one of a word of the heap
abbrev pub IsHeapIndex : Config → ℕ → Type 0
IsHeapIndex config index = (heap_index config ≤ index) × (index < heap_index config + heap_size config)

-- each of them is
abbrev pub AreHeapIndices : Config → List ℕ → Type 0
AreHeapIndices config starts = (index : ℕ) → index < length starts → IsHeapIndex config (slice_index starts index)
