-- Which objects are left over in regions where objects stay.
use Rattle.std.specs.Prelude.{ℕ, ◌&&◌, not, Bool, List}
use Rattle.heap_words.specs.Words.{Word, Heap}
use Rattle.heap_words.specs.Encoding.{is_forwarded}
use Rattle.regions.specs.Walk.{is_filler}
use Rattle.heap_world.specs.Walk.{has}
use Rattle.image_graph.specs.declared.leftovers.Leftover.{Leftover}
use Rattle.image_graph.specs.declared.leftovers.Leftover.TheVariants.{Moved, NotFound}

-- an object that has moved, or that was not found; words that only fill are none
abbrev pub is_left_over : (Word → ℕ) → (found : List ℕ) → Leftover → ℕ → Bool
is_left_over memory found Moved address = is_forwarded (memory (Heap address))
is_left_over memory found NotFound address = not (is_filler (memory (Heap address))) && not (has found address)
