-- The rows that objects are written as, by the words of the heap alone.
use Rattle.std.specs.Prelude.{ℕ, ◌+◌, ◌-◌, ◌*◌, ◌==◌, ◌&&◌, nat_le, nat_lt, List, [], ◌∷◌, ◌++◌, Some, None, map, slice_index, length, if◌then◌else◌}
use Rattle.std.specs.List.{range_with_len}
use Rattle.heap_words.specs.Encoding.{thread_in, count_in}
use Rattle.shen_graph.specs.declared.name.Name.{Name}
use Rattle.shen_graph.specs.Graph.{Reference}
use Rattle.shen_graph.specs.GraphText.{Row}
use Rattle.heap_world.specs.Walk.{refs_at, nums_at, current_at}

-- the name of the object whose header is the word at an index of the heap
abbrev pub name_in_heap : List ℕ → ℕ → Name
name_in_heap heap index = record { thread = thread_in (slice_index heap (index + 2)); count = count_in (slice_index heap (index + 2)) }

-- the reference that a word stands for, by the name of the current copy there
abbrev pub reference_in : ℕ → List ℕ → ℕ → Reference
reference_in first heap word = if word == 0 then None else Some (name_in_heap heap (current_at first heap word - first))

-- the row of the object at an address
abbrev pub row_in_heap : ℕ → List ℕ → ℕ → Row
row_in_heap first heap address = record {
  name = name_in_heap heap (address - first);
  refs = map (reference_in first heap) (refs_at heap (address - first));
  nums = nums_at heap (address - first);
}

-- the word of a cell of a thread, counted from 1, among the words of all threads, so many a thread; 0 where there is no such cell
abbrev pub cell_word : (cells : ℕ) → List ℕ → ℕ → ℕ → ℕ
cell_word cells words thread index =
    if nat_le 1 thread && nat_lt index cells then slice_index words (cells * (thread - 1) + index) else 0

-- the word of a root, 16 a thread, and that of a pin slot, 4 a thread
abbrev pub root_word : List ℕ → ℕ → ℕ → ℕ
root_word = cell_word 16

abbrev pub pin_word : List ℕ → ℕ → ℕ → ℕ
pin_word = cell_word 4

-- what the cells of the threads 1 to `threads` hold, so many each
abbrev pub cell_rows : (cells : ℕ) → (ℕ → ℕ → Reference) → ℕ → List (List Reference)
cell_rows cells held threads = map (λ thread. map (held thread) (range_with_len 0 cells)) (range_with_len 1 threads)

-- the roots of the threads, and what their pin slots hold
abbrev pub root_rows : (ℕ → ℕ → Reference) → ℕ → List (List Reference)
root_rows = cell_rows 16

abbrev pub pin_rows : (ℕ → ℕ → Reference) → ℕ → List (List Reference)
pin_rows = cell_rows 4
