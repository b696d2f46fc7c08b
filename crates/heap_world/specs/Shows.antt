-- When a text shows a graph.
use Rattle.std.specs.Prelude.{ℕ, ◌≡◌, ◌+◌, ◌-◌, Option, List, map, length, slice_index}
use Rattle.shen_graph.specs.declared.name.Name.{Name}
use Rattle.shen_graph.specs.Graph.{Graph}
use Rattle.shen_graph.specs.GraphText.{Text, row_in, names_of}
use Rattle.shen_graph.specs.Reach.{IsReach}
use Rattle.heap_world.specs.Stands.{Stands}
use Rattle.shen_graph.specs.Step.{name_in}
use Rattle.heap_world.specs.Rows.{root_word, root_rows, pin_word, pin_rows}

-- The text has the row of each object that can be reached, in the order of names, and no other row, and the roots and the pin slots of
-- each thread.
pub record ShowsGraph (text : Text) (threads : ℕ) (graph : Graph) : Type 0 where
  pub reach : IsReach graph (names_of text)
  pub rows : text.rows ≡ map (row_in graph) (names_of text)
  pub roots : text.roots ≡ root_rows graph.root threads
  pub pins : text.pins ≡ pin_rows (λ thread slot. name_in (graph.pin thread slot)) threads

-- The words of the addresses from `first` on, and the words of the roots, 16 for each thread, and of the pin slots, 4 for each, stand for
-- the graph.
abbrev pub WordsStand : (first : ℕ) (heap roots pins : List ℕ) → (ℕ → Option Name) → Graph → Type 0
WordsStand first heap roots pins at graph =
    Stands first (first + length heap) (λ a. slice_index heap (a - first)) (root_word roots) (pin_word pins) at graph

-- they stand for some graph
abbrev pub StandForSome : (first : ℕ) (heap roots pins : List ℕ) → Type 0
StandForSome first heap roots pins = ∥ ((at : ℕ → Option Name) × ((graph : Graph) × WordsStand first heap roots pins at graph)) ∥₁
