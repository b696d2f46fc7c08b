-- A graph as it is to be written: rows of objects, rows of roots, and rows of what pin slots hold.
use Rattle.std.specs.Prelude.{ℕ, ◌≡◌, ◌+◌, ◌-◌, ◌≤◌, List, [], ◌∷◌, ◌++◌, map, replicate, length, None, Some, slice_index_or, slice_set}
use Rattle.std.specs.List.{IsDistinct}
use Rattle.shen_graph.specs.declared.name.Name.{Name}
use Rattle.shen_graph.specs.Graph.{Graph, Reference, hub, named, same_name}
use Rattle.shen_graph.specs.Reach.{IsReach}
use Rattle.shen_graph.specs.Step.{name_in}

-- an object: its name, its references and its numbers
pub record Row : Type 0 where
  pub name : Name
  pub refs : List Reference
  pub nums : List ℕ

-- the object of a name in a graph, as a row
abbrev pub row_in : Graph → Name → Row
row_in graph name = record { name = name; refs = (named graph (Some name)).refs; nums = (named graph (Some name)).nums }

-- the rows of objects, a row of 16 roots and one of 4 pin slots for each thread, the words of room that are left, and the words of room in all
pub record Text : Type 0 where
  pub rows : List Row
  pub roots : List (List Reference)
  pub pins : List (List Reference)
  pub spare : ℕ
  pub room : ℕ

-- no object yet, all roots null, all pin slots empty
abbrev pub empty : ℕ → ℕ → Text
empty words threads = record { rows = []; roots = replicate threads (replicate 16 None); pins = replicate threads (replicate 4 None); spare = words; room = words }

-- the same room, and nothing in it
abbrev pub cleared : Text → Text
cleared text = empty text.room (length text.roots)

-- an object without a field
abbrev pub bare : Name → Row
bare name = record { name = name; refs = []; nums = [] }

-- an object more, which takes 3 words
abbrev pub with_row : Text → Name → Text
with_row text name = record text { rows = text.rows ++ bare name ∷ []; spare = text.spare - 3 }

-- the last of a list is changed
abbrev pub change_last : {A : Type 0} → (A → A) → List A → List A
change_last f [] = []
change_last f (x ∷ []) = f x ∷ []
change_last f (x ∷ y ∷ xs) = x ∷ change_last f (y ∷ xs)

abbrev pub add_reference : Reference → Row → Row
add_reference reference row = record row { refs = row.refs ++ reference ∷ [] }

abbrev pub add_number : ℕ → Row → Row
add_number value row = record row { nums = row.nums ++ value ∷ [] }

-- the last object has a reference more, which takes 1 word
abbrev pub with_reference : Text → Reference → Text
with_reference text reference = record text { rows = change_last (add_reference reference) text.rows; spare = text.spare - 1 }

-- the last object has a number more, which takes 1 word
abbrev pub with_number : Text → ℕ → Text
with_number text value = record text { rows = change_last (add_number value) text.rows; spare = text.spare - 1 }

-- the text with these references in its last row too
abbrev pub with_references : Text → List Reference → Text
with_references text [] = text
with_references text (reference ∷ references) = with_references (with_reference text reference) references

-- the text with these numbers in its last row too
abbrev pub with_numbers : Text → List ℕ → Text
with_numbers text [] = text
with_numbers text (number ∷ numbers) = with_numbers (with_number text number) numbers

-- the text with a row more, which takes as many words as the object
abbrev pub with_whole_row : Text → Row → Text
with_whole_row text row = record text { rows = text.rows ++ row ∷ []; spare = text.spare - (3 + length row.refs + length row.nums) }

-- the roots of a thread, counted from 1
abbrev pub roots_of : Text → ℕ → List Reference
roots_of text thread = slice_index_or text.roots (thread - 1) []

abbrev pub root_of : Text → ℕ → ℕ → Reference
root_of text thread index = slice_index_or (roots_of text thread) index None

-- a root of a thread is another
abbrev pub with_root_of : Text → ℕ → ℕ → Reference → Text
with_root_of text thread index reference = record text { roots = slice_set text.roots (thread - 1) (slice_set (roots_of text thread) index reference) }

-- the pin slots of a thread, counted from 1: the name that each holds
abbrev pub pins_of : Text → ℕ → List Reference
pins_of text thread = slice_index_or text.pins (thread - 1) []

abbrev pub pin_of : Text → ℕ → ℕ → Reference
pin_of text thread slot = slice_index_or (pins_of text thread) slot None

-- a pin slot of a thread holds another
abbrev pub with_pin_of : Text → ℕ → ℕ → Reference → Text
with_pin_of text thread slot reference = record text { pins = slice_set text.pins (thread - 1) (slice_set (pins_of text thread) slot reference) }

-- the row with that number, counted from 0
abbrev pub row_of : Text → ℕ → Row
row_of text row = slice_index_or text.rows row (bare hub)

-- the names of the objects, in the order of their rows
abbrev pub names_of : Text → List Name
names_of text = map (λ r. r.name) text.rows

-- no name stands twice
abbrev pub NamesDiffer : Text → Type 0
NamesDiffer text = IsDistinct same_name (names_of text)

-- The text is that of a graph of so many threads: a row for each object that can be reached, in the order of names, and
-- the roots and the pin slots of each thread.
pub record IsTextOf (graph : Graph) (threads : ℕ) (text : Text) : Type 0 where
  pub reach : IsReach graph (names_of text)
  pub rows : text.rows ≡ map (row_in graph) (names_of text)
  pub each : length text.roots ≡ threads
  pub roots : (thread index : ℕ) → 1 ≤ thread → thread ≤ threads → root_of text thread index ≡ graph.root thread index
  pub pinned : length text.pins ≡ threads
  pub pins : (thread slot : ℕ) → 1 ≤ thread → thread ≤ threads → pin_of text thread slot ≡ name_in (graph.pin thread slot)
