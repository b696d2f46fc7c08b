-- What a walk that has ended gives: its rows fit, differ in their names, and in order show the graph.
use Rattle.std.proofs.Common.{ℕ, ◌≡◌, ◌+◌, ◌-◌, ◌<◌, ◌≤◌, true, false, Option, Some, List, ◌++◌, length, get_or, map, nat_eq, sum_by, All, Contains, arith, refl, ap, sym, ◌∙◌, subst}
use Rattle.std.specs.List.{IsDistinct}
use Rattle.std.specs.List.Sorted.{IsPermutation}
use Rattle.std.proofs.lemmas.List.{get_or-map, length-map, ext_get_or}
use Rattle.std.proofs.lemmas.List.Folds.{list_any_at}
use Rattle.std.proofs.lemmas.List.Elements.{All-map}
use Rattle.std.proofs.lemmas.List.Sorted.{All-permutation, Contains-permutation}
use Rattle.std.proofs.lemmas.Map.Keys.{IsDistinct-from_apart, apart_from_distinct}
use Rattle.std.proofs.lemmas.Map.Views.{All-from_any, Contains-from_any, exact_unsigned_eq}
use Rattle.std.proofs.lemmas.Bool.{eq-eqb, eqb-false, false_from_ne_true}
use Rattle.std.proofs.lemmas.Cmp.{nat_eq_equiv}
use Rattle.shen_graph.proofs.PlainLemmas.{same_name-true}
use Rattle.shen_graph.specs.declared.name.Name.{Name}
use Rattle.shen_graph.specs.Graph.{Graph, Reference, same_name}
use Rattle.shen_graph.specs.GraphText.{Text, Row, row_in, names_of}
use Rattle.shen_graph.specs.Reach.{IsReachable, InOrder}
use Rattle.shen_graph.specs.Step.{name_in}
use Rattle.heap_world.specs.Walk.{has, refs_at, size_at, IsNamed, IsWalkable, IsWalk}
use Rattle.heap_world.specs.Rows.{name_in_heap, reference_in, row_in_heap, root_word, root_rows, pin_word, pin_rows}
use Rattle.heap_world.specs.Shows.{ShowsGraph, WordsStand}
use Rattle.heap_world.proofs.Sizes.{sizes_fit, same_functions}
use Rattle.heap_world.proofs.Standing.{facts, led_name, name_led, reference_same, pin_same, row_same}
use Rattle.heap_world.proofs.TakenDown.{has-left, has-right}

-- what holds of each word that a list has
all_from-has : (P : ℕ → Type 0) (xs : List ℕ) → ((element : ℕ) → has xs element ≡ true → P element) → All P xs
all_from-has P xs all_hold = All-from_any nat_eq_equiv P xs all_hold

-- each element that is read is in its list
has-element : (xs : List ℕ) (index : ℕ) → index < length xs → has xs (get_or xs index 0) ≡ true
has-element xs index index_below = list_any_at (nat_eq (get_or xs index 0)) xs index 0 index_below (eq-eqb (get_or xs index 0) (get_or xs index 0) refl)

module _ (first_address : ℕ) (heap roots pins : List ℕ) (heap_walkable : IsWalkable first_address heap (roots ++ pins)) where
  pub roots_named : All (IsNamed first_address heap) roots
  roots_named = all_from-has (IsNamed first_address heap) roots (λ address listed. heap_walkable.roots_named address (has-left roots pins address listed))

  pub pins_named : All (IsNamed first_address heap) pins
  pins_named = all_from-has (IsNamed first_address heap) pins (λ address listed. heap_walkable.roots_named address (has-right roots pins address listed))

  module _ (order : List ℕ) (walk : IsWalk first_address heap (roots ++ pins) order) where
    pub all_above : All (λ address. first_address ≤ address) order
    all_above = all_from-has (λ address. first_address ≤ address) order (λ address listed. heap_walkable.above address (walk.led address listed))

    pub all_below : All (λ address. address + size_at heap (address - first_address) ≤ first_address + length heap) order
    all_below =
        all_from-has (λ address. address + size_at heap (address - first_address) ≤ first_address + length heap) order (λ address listed. heap_walkable.below address (walk.led address listed))

    pub all_named : All (λ any_address. All (IsNamed first_address heap) (refs_at heap (any_address - first_address))) order
    all_named =
        all_from-has (λ any_address. All (IsNamed first_address heap) (refs_at heap (any_address - first_address))) order
        (λ holder listed. all_from-has (IsNamed first_address heap) (refs_at heap (holder - first_address))
        (λ address field. heap_walkable.fields_named holder address (walk.led holder listed) field))

    -- the objects take at most all words
    pub all_fit : sum_by (λ address. size_at heap (address - first_address)) order ≤ length heap
    all_fit =
        sizes_fit (λ address. size_at heap (address - first_address)) order first_address (length heap) walk.once
        (λ address other_address first_listed second_listed. heap_walkable.apart address other_address (walk.led address first_listed) (walk.led other_address second_listed))
        (λ address listed. heap_walkable.above address (walk.led address listed)) (λ address listed. heap_walkable.below address (walk.led address listed))

-- what a function makes of an element is in the list that it makes of the whole
Contains-map : {A B : Type 0} (f : A → B) (xs : List A) (x : A) → Contains xs x → Contains (map f xs) (f x)
Contains-map f xs x contains =
    (contains.0, rw length-map contains.1, get_or-map f xs contains.0 x (f x) contains.1 ∙ ap f contains.2)

module _ (first_address : ℕ) (heap roots pins order : List ℕ) (name_at : ℕ → Option Name) (graph : Graph) (first_positive : 1 ≤ first_address)
    (words_stand : WordsStand first_address heap roots pins name_at graph) (walk : IsWalk first_address heap (roots ++ pins) order) where
  pub names_differ : IsDistinct same_name (map (λ any_row. any_row.name) (map (row_in_heap first_address heap) order))
  names_differ =
      IsDistinct-from_apart same_name (map (λ any_row. any_row.name) (map (row_in_heap first_address heap) order))
      (λ index other_index name before h.
      let same_count : length (map (λ (row : Row). row.name) (map (row_in_heap first_address heap) order)) ≡ length order =
      length-map (map (row_in_heap first_address heap) order) (λ (row : Row). row.name) ∙ length-map order (row_in_heap first_address heap) in
      let low : other_index < length order = omega (arith, same_count, h) in
      apart index other_index name before low)
    where
      read : (index : ℕ) (name : Name) → index < length order
          → get_or (map (λ (row : Row). row.name) (map (row_in_heap first_address heap) order)) index name ≡ name_in_heap heap (get_or order index 0 - first_address)
      read index name index_below =
          get_or-map (λ (row : Row). row.name) (map (row_in_heap first_address heap) order) index (row_in_heap first_address heap 0) name (rw length-map index_below)
          ∙ ap (λ (row : Row). row.name) (get_or-map (row_in_heap first_address heap) order index 0 (row_in_heap first_address heap 0) index_below)

      apart : (index other_index : ℕ) (name : Name) → index < other_index → other_index < length order
          → same_name (get_or (map (λ (row : Row). row.name) (map (row_in_heap first_address heap) order)) index name)
          (get_or (map (λ (row : Row). row.name) (map (row_in_heap first_address heap) order)) other_index name) ≡ false
      apart index other_index name index_before other_below =
          false_from_ne_true _ (λ names_equal.
          let earlier : index < length order = omega arith in
          let address = get_or order index 0 in
          let other_address = get_or order other_index 0 in
          let named = led_name first_address heap roots pins name_at graph first_positive words_stand address (walk.led address (has-element order index earlier)) in
          let other_named = led_name first_address heap roots pins name_at graph first_positive words_stand other_address (walk.led other_address (has-element order other_index other_below)) in
          let names_same : named.0 ≡ other_named.0 =
          sym (facts first_address heap roots pins name_at graph first_positive words_stand address named.0 named.1).name ∙ sym (read index name earlier)
          ∙ same_name-true _ _ names_equal ∙ read other_index name other_below ∙ (facts first_address heap roots pins name_at graph first_positive words_stand other_address other_named.0 other_named.1).name in
          let same_address : address ≡ other_address = sym named.1.1 ∙ words_stand.once address other_address other_named.0 (named.1.0 ∙ ap (λ any_name. Some any_name) names_same) other_named.1.0 ∙ other_named.1.1 in
          eqb-false address other_address (apart_from_distinct nat_eq order index other_index 0 walk.once index_before other_below) same_address)

  -- a row is that of an object of the walk
  abbrev IsFound : Row → Type 0
  IsFound row = (address : ℕ) × (name : Name) × (has order address ≡ true) × (name_at address ≡ Some name) × IsReachable graph name × (row ≡ row_in graph name)

  found : All IsFound (map (row_in_heap first_address heap) order)
  found =
      All-map IsFound (row_in_heap first_address heap) order
      (All-from_any nat_eq_equiv (λ address. IsFound (row_in_heap first_address heap address)) order
      (λ address listed. let named = led_name first_address heap roots pins name_at graph first_positive words_stand address (walk.led address listed) in
      (address, named.0, listed, named.1.0, named.2, row_same first_address heap roots pins name_at graph first_positive words_stand address named.0 named.1)))

  module _ (text : Text) (rows_permuted : IsPermutation (map (row_in_heap first_address heap) order) text.rows) where
    found_rows : All IsFound text.rows
    found_rows = All-permutation IsFound (map (row_in_heap first_address heap) order) text.rows rows_permuted found

    every : (name : Name) → IsReachable graph name → Contains (names_of text) name
    every name reach =
        let led_object = name_led first_address heap roots pins name_at graph first_positive words_stand name reach in
        let row = row_in_heap first_address heap led_object.0 in
        let walked = Contains-from_any exact_unsigned_eq led_object.0 order (walk.all led_object.0 led_object.2) in
        let has_row : Contains text.rows row =
        Contains-permutation (map (row_in_heap first_address heap) order) text.rows row rows_permuted (Contains-map (row_in_heap first_address heap) order led_object.0 walked) in
        subst (λ (name : Name). Contains (names_of text) name) (facts first_address heap roots pins name_at graph first_positive words_stand led_object.0 name led_object.1).name
        (Contains-map (λ (row : Row). row.name) text.rows row has_row)

    only : (name : Name) → Contains (names_of text) name → IsReachable graph name
    only name contains =
        let default_row = row_in_heap first_address heap 0 in
        let place_below : contains.0 < length text.rows = omega (arith, length-map text.rows (λ (row : Row). row.name), contains.1) in
        let found_row = found_rows contains.0 default_row place_below in
        let name_is : found_row.1 ≡ name =
        sym (ap (λ (row : Row). row.name) found_row.5) ∙ sym (get_or-map (λ (row : Row). row.name) text.rows contains.0 default_row name place_below) ∙ contains.2 in
        subst (λ (name : Name). IsReachable graph name) name_is found_row.4

    rows_same : text.rows ≡ map (row_in graph) (names_of text)
    rows_same =
        let default_row = row_in_heap first_address heap 0 in
        let names = names_of text in
        let same_count : length names ≡ length text.rows = length-map text.rows (λ (row : Row). row.name) in
        ext_get_or default_row text.rows (map (row_in graph) names) (sym (length-map names (row_in graph) ∙ same_count))
        (λ index index_below.
        let found_row = found_rows index default_row index_below in
        let row_below : index < length names = omega (arith, same_count, index_below) in
        found_row.5 ∙ ap (row_in graph) (sym (ap (λ (row : Row). row.name) found_row.5) ∙ sym (get_or-map (λ (row : Row). row.name) text.rows index default_row default_row.name index_below))
        ∙ sym (get_or-map (row_in graph) names index default_row.name default_row row_below))

    pub shows : (threads : ℕ) → InOrder (names_of text)
        → text.roots ≡ root_rows (λ any_thread i. reference_in first_address heap (root_word roots any_thread i)) threads
        → text.pins ≡ pin_rows (λ any_thread i. reference_in first_address heap (pin_word pins any_thread i)) threads → ShowsGraph text threads graph
    shows threads ordered rooted same_pins = record {
      reach = record { in_order = ordered; all = every; only = only };
      rows = rows_same;
      roots = (rooted
          ∙ ap (λ (root_of : ℕ → ℕ → Reference). root_rows root_of threads)
          (same_functions (λ any_thread i. reference_in first_address heap (root_word roots any_thread i)) graph.root
          (λ thread. same_functions (λ i. reference_in first_address heap (root_word roots thread i)) (graph.root thread)
          (λ index. reference_same first_address heap roots pins name_at graph first_positive words_stand (root_word roots thread index) (graph.root thread index) (words_stand.roots thread index)))));
      pins = (same_pins
          ∙ ap (λ (root_of : ℕ → ℕ → Reference). pin_rows root_of threads)
          (same_functions (λ any_thread i. reference_in first_address heap (pin_word pins any_thread i)) (λ thread slot. name_in (graph.pin thread slot))
          (λ thread. same_functions (λ i. reference_in first_address heap (pin_word pins thread i)) (λ slot. name_in (graph.pin thread slot))
          (λ slot. pin_same first_address heap roots pins name_at graph first_positive words_stand (pin_word pins thread slot) (graph.pin thread slot) (words_stand.pins thread slot)))));
    }
