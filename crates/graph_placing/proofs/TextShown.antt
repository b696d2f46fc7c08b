-- A text that shows a graph, row by row and root by root.
use Rattle.std.proofs.Common.{◌≡◌, ℕ, ◌-◌, ◌<◌, suc, List, [], map, length, get_or, None, Contains, ap, ◌∙◌, subst, arith}
use Rattle.std.specs.List.{range_with_len}
use Rattle.std.proofs.lemmas.List.{get_or-map}
use Rattle.std.proofs.lemmas.List.Elements.{Contains-get_or}
use Rattle.std.proofs.lemmas.List.FromFn.{get_or-map-range_with_len}
use Rattle.shen_graph.specs.Graph.{Graph, Reference, hub}
use Rattle.shen_graph.specs.GraphText.{Text, Row, row_of, row_in, bare, names_of, root_of, pin_of}
use Rattle.shen_graph.specs.Step.{name_in}
use Rattle.heap_world.specs.Shows.{ShowsGraph}
use Rattle.graph_placing.proofs.Searching.{names_count, name_of_row}

-- each row has a name of the text
pub row_there : (text : Text) (index : ℕ) → index < length text.rows → Contains (names_of text) (row_of text index).name
row_there text index index_below = subst (Contains (names_of text)) (name_of_row text index hub index_below) (Contains-get_or (names_of text) index hub (omega (arith, index_below, names_count text)))

module _ (text : Text) (threads : ℕ) (graph : Graph) (shows : ShowsGraph text threads graph) where
  pub shown_row : (index : ℕ) → index < length text.rows → row_of text index ≡ row_in graph (row_of text index).name
  shown_row index index_below =
      ap (λ (rows : List Row). get_or rows index (bare hub)) shows.rows ∙ get_or-map (row_in graph) (names_of text) index hub (bare hub) (omega (arith, index_below, names_count text))
      ∙ ap (row_in graph) (name_of_row text index hub index_below)

  pub shown_root : (mutator index : ℕ) → mutator < threads → index < 16 → root_of text (suc mutator) index ≡ graph.root (suc mutator) index
  shown_root mutator index mutator_below index_below =
      let one_back : suc mutator - 1 ≡ mutator = omega arith in
      ap (λ (any_mutator : ℕ). get_or (get_or text.roots any_mutator []) index None) one_back
      ∙ ap (λ (rows : List (List Reference)). get_or (get_or rows mutator []) index None) shows.roots
      ∙ ap (λ (row : List Reference). get_or row index None) (get_or-map-range_with_len (λ thread. map (graph.root thread) (range_with_len 0 16)) 1 threads mutator (suc mutator) [] mutator_below (omega arith))
      ∙ get_or-map-range_with_len (graph.root (suc mutator)) 0 16 index index None index_below (omega arith)

  pub shown_pin : (mutator index : ℕ) → mutator < threads → index < 4 → pin_of text (suc mutator) index ≡ name_in (graph.pin (suc mutator) index)
  shown_pin mutator index mutator_below index_below =
      let one_back : suc mutator - 1 ≡ mutator = omega arith in
      ap (λ (any_mutator : ℕ). get_or (get_or text.pins any_mutator []) index None) one_back
      ∙ ap (λ (rows : List (List Reference)). get_or (get_or rows mutator []) index None) shows.pins
      ∙ ap (λ (row : List Reference). get_or row index None) (get_or-map-range_with_len (λ thread. map (λ slot. name_in (graph.pin thread slot)) (range_with_len 0 4)) 1 threads mutator (suc mutator) [] mutator_below (omega arith))
      ∙ get_or-map-range_with_len (λ slot. name_in (graph.pin (suc mutator) slot)) 0 4 index index None index_below (omega arith)
