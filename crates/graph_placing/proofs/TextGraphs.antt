-- The graph of a text is one that has its objects, roots and counts.
use Rattle.std.proofs.Common.{◌≡◌, ℕ, ◌+◌, ◌-◌, ◌<◌, ◌≤◌, zero, suc, true, false, List, [], ◌∷◌, length, get_or, map, Some, None, ⊎_elim, refl, sym, ap, ◌∙◌, subst, arith}
use Rattle.std.specs.Prelude.{slice_index, All}
use Rattle.std.proofs.lemmas.Bool.{cond-true, cond-false, cases_Bool, cases_lt, lt-ltb, le-leb, and_from, false≢true}
use Rattle.std.proofs.lemmas.List.{get_or-map, get_or_past}
use Rattle.std.proofs.lemmas.List.Elements.{All-get_or}
use Rattle.std.proofs.lemmas.Option.{none-some}
use Rattle.heap_words.specs.declared.config.Config.{Config}
use Rattle.shen_graph.specs.declared.name.Name.{Name}
use Rattle.shen_graph.specs.Graph.{Object, Reference, same_name, hub}
use Rattle.shen_graph.specs.PlainGraph.{object_in, root_in, graph_of}
use Rattle.shen_graph.specs.Reach.{InOrder}
use Rattle.shen_graph.specs.GraphText.{Text, Row, bare}
use Rattle.shen_graph.proofs.PlainLemmas.{same_name-true, same_name-itself}
use Rattle.shen_graph.proofs.OrderLemmas.{same_name-flip}
use Rattle.shen_graph.proofs.Distinct.{before_apart, order_rest}
use Rattle.heap_world.specs.World.{IsGiven}
use Rattle.graph_placing.specs.PlaceableText.{IsPlaceable}
use Rattle.graph_placing.specs.TextGraph.{row_object, text_graph, AreGiven, IsGraphOf}
use Rattle.graph_placing.proofs.Searching.{before_first}

-- of rows in order each name has its row's object
pub has_object : (rows : List Row) → InOrder (map (λ any_row. any_row.name) rows) → (index : ℕ) (row : Row) → index < length rows → object_in rows (get_or rows index row).name ≡ Some (row_object (get_or rows index row))
has_object [] order index row index_below = absurd (omega (arith, index_below))
has_object (first_row ∷ rest) order zero row index_below = cond-true (same_name first_row.name first_row.name) (Some (row_object first_row)) (object_in rest first_row.name) (same_name-itself first_row.name)
has_object (first_row ∷ rest) order (suc index) row index_below =
    let index_inside : index < length rest = omega (arith, index_below) in
    let name_there = get_or-map (λ (row : Row). row.name) rest index row first_row.name index_inside in
    let first_before = before_first first_row.name (map (λ (row : Row). row.name) rest) order index first_row.name (omega (arith, index_inside, length_is rest)) in
    let names_differ : same_name (get_or rest index row).name first_row.name ≡ false = same_name-flip (get_or rest index row).name first_row.name ∙ ap (same_name first_row.name) (sym name_there) ∙ before_apart first_row.name (get_or (map (λ (row : Row). row.name) rest) index first_row.name) first_before in
    cond-false (same_name (get_or rest index row).name first_row.name) (Some (row_object first_row)) (object_in rest (get_or rest index row).name) names_differ
    ∙ has_object rest (order_rest first_row.name (map (λ (row : Row). row.name) rest) order) index row index_inside
  where
    length_is : (xs : List Row) → length (map (λ (row : Row). row.name) xs) ≡ length xs
    length_is [] = refl
    length_is (x ∷ xs) = ap (λ count. suc count) (length_is xs)

-- an object is that of a row of its name
has_row : (rows : List Row) (name : Name) (object : Object) (row : Row) → object_in rows name ≡ Some object → (index : ℕ) × (index < length rows) × ((get_or rows index row).name ≡ name)
has_row [] name object row object_there = absurd (none-some object object_there)
has_row (first_row ∷ rs) name object row object_there = ⊎_elim
    (λ (is_first : same_name name first_row.name ≡ true). (0, omega arith, sym (same_name-true name first_row.name is_first)))
    (λ (not_first : same_name name first_row.name ≡ false).
    let later_row = has_row rs name object row (sym (cond-false (same_name name first_row.name) (Some (row_object first_row)) (object_in rs name) not_first) ∙ object_there) in
    (suc later_row.0, omega (arith, later_row.1), later_row.2))
    (cases_Bool (same_name name first_row.name))

-- a list of roots has no more than 16
no_root : (roots : List (List Reference)) (thread index : ℕ) → All (λ (row : List Reference). length row ≡ 16) roots → 16 ≤ index → root_in ([] ∷ roots) thread index ≡ None
no_root roots zero index all_sixteen index_large = refl
no_root roots (suc thread) index all_sixteen index_large = ⊎_elim
    (λ (thread_below : thread < length roots).
    let row = All-get_or (λ (row : List Reference). length row ≡ 16) roots thread [] thread_below all_sixteen in
    get_or_past (get_or roots thread []) index None (omega (arith, row, index_large)))
    (λ (thread_past : length roots ≤ thread). ap (λ (row : List Reference). get_or row index None) (get_or_past roots thread [] thread_past))
    (cases_lt thread (length roots))

-- a thread that is not there has none
no_thread : (roots : List (List Reference)) (thread index : ℕ) → (1 ≤ thread → length roots < thread) → root_in ([] ∷ roots) thread index ≡ None
no_thread roots zero index thread_beyond = refl
no_thread roots (suc thread) index thread_beyond =
    let thread_past = thread_beyond (omega arith) in
    ap (λ (row : List Reference). get_or row index None) (get_or_past roots thread [] (omega (arith, thread_past)))

pub is_graph : (config : Config) (text : Text) (counts : List ℕ) → IsPlaceable config text → AreGiven config text counts → IsGraphOf config text counts (text_graph text counts)
unfolding graph_of
is_graph config text counts text_placeable counts_given = record {
  objects = λ index in_range. has_object text.rows text_placeable.in_order index (bare hub) in_range;
  roots = λ root_mutator root_index in_range index_below.
      let next_thread : root_mutator + 1 ≡ suc root_mutator = omega arith in
      let one_back : root_mutator + 1 - 1 ≡ root_mutator = omega arith in
      ap (λ (place : ℕ). root_in ([] ∷ text.roots) place root_index) next_thread ∙ ap (λ (place : ℕ). get_or (get_or text.roots place []) root_index None) (sym one_back);
  no_more = λ thread index not_root. ⊎_elim
      (λ (index_below : index < 16). no_thread text.roots thread index (λ some_thread. ⊎_elim
      (λ (thread_past : length text.roots < thread). thread_past)
      (λ (thread_within : thread ≤ length text.roots).
      absurd (false≢true (sym not_root ∙ and_from _ _ (le-leb 1 thread some_thread) (and_from _ _ (le-leb thread config.mutators (omega (arith, text_placeable.threads, thread_within))) (lt-ltb index 16 index_below)))))
      (cases_lt (length text.roots) thread)))
      (λ (index_large : 16 ≤ index). no_root text.roots thread index text_placeable.sixteen index_large)
      (cases_lt index 16);
  no_pins = λ thread slot. refl;
  counts_are = λ mutator in_range. let next_thread : mutator + 1 ≡ suc mutator = omega arith in ap (λ (index : ℕ). slice_index (0 ∷ counts) index) next_thread;
  given = λ name found_object object_there.
      let row = has_row text.rows name found_object (bare hub) object_there in
      subst (IsGiven config (text_graph text counts).count) row.2 (counts_given row.0 row.1);
}
