-- Names in their order, and where among them a name is.
use Rattle.std.proofs.Common.{◌≡◌, ℕ, zero, suc, ◌<◌, ◌≤◌, true, false, List, [], ◌∷◌, length, get_or, Contains, ⊎_elim, inl, inr, sym, ap, ◌∙◌, subst, arith}
use Rattle.std.proofs.lemmas.Bool.{cases_Bool, cases_lt, cases_eq, cond-true, cond-false, false≢true}
use Rattle.std.proofs.lemmas.List.{get_or-map, length-map}
use Rattle.shen_graph.specs.declared.name.Name.{Name}
use Rattle.shen_graph.specs.Graph.{same_name, hub}
use Rattle.shen_graph.specs.GraphText.{Text, Row, row_of, bare, names_of}
use Rattle.shen_graph.specs.Reach.{IsBefore, InOrder}
use Rattle.shen_graph.proofs.PlainLemmas.{same_name-true, same_name-itself}
use Rattle.shen_graph.proofs.Distinct.{before_join, order_rest}
use Rattle.shen_graph.proofs.ReachLemmas.{Contains-cons_cases, Contains-nil}
use Rattle.graph_placing.specs.PlacedHeap.{place_among}

-- a name is not before itself
pub not_itself : (name : Name) → IsBefore name name → ⊥
not_itself name name_before = elim name_before [ inl thread_less ↦ omega (arith, thread_less) | inr count_less ↦ omega (arith, count_less.1) ]

-- the first of names in order is before each later one, ..
pub before_first : (name : Name) (names : List Name) → InOrder (name ∷ names) → (index : ℕ) (default_name : Name) → index < length names → IsBefore name (get_or names index default_name)
before_first name [] order index default_name index_below = absurd (omega (arith, index_below))
before_first name (first_name ∷ names) order zero default_name index_below = order.0
before_first name (first_name ∷ names) order (suc index) default_name index_below = before_join name first_name (get_or names index default_name) order.0 (before_first first_name names order.1 index default_name (omega (arith, index_below)))

-- .. and so is each
pub before_later : (names : List Name) → InOrder names → (index later_index : ℕ) (name : Name) → index < later_index → later_index < length names → IsBefore (get_or names index name) (get_or names later_index name)
before_later [] order index later_index name index_less later_below = absurd (omega (arith, later_below))
before_later (first_name ∷ names) order zero zero name index_less later_below = absurd (omega (arith, index_less))
before_later (first_name ∷ names) order zero (suc index) name index_less later_below = before_first first_name names order index name (omega (arith, later_below))
before_later (first_name ∷ names) order (suc index) zero name index_less later_below = absurd (omega (arith, index_less))
before_later (first_name ∷ names) order (suc index) (suc later_index) name index_less later_below = before_later names (order_rest first_name names order) index later_index name (omega (arith, index_less)) (omega (arith, later_below))

-- no name is there twice
pub one_place : (names : List Name) → InOrder names → (index other_index : ℕ) (name : Name) → index < length names → other_index < length names → get_or names index name ≡ get_or names other_index name → index ≡ other_index
one_place names order index other_index name below_j below_k names_same = ⊎_elim
    (λ (index_less : index < other_index). absurd (not_itself (get_or names other_index name) (subst (λ (any_name : Name). IsBefore any_name (get_or names other_index name)) names_same (before_later names order index other_index name index_less below_k))))
    (λ (index_not_less : other_index ≤ index). ⊎_elim
    (λ (same_index : other_index ≡ index). sym same_index)
    (λ (indexes_differ : other_index ≡ index → ⊥). absurd (not_itself (get_or names other_index name) (subst (λ (any_name : Name). IsBefore (get_or names other_index name) any_name) names_same (before_later names order other_index index name (omega (arith, index_not_less, indexes_differ)) below_j))))
    (cases_eq other_index index))
    (cases_lt index other_index)

-- a name that is there stands at its place
pub stands_there : (names : List Name) (name default_name : Name) → Contains names name → (place_among names name < length names) × (get_or names (place_among names name) default_name ≡ name)
stands_there [] name default_name name_there = absurd (Contains-nil name name_there)
stands_there (head_name ∷ names) name default_name name_there = ⊎_elim
    (λ (is_first : same_name head_name name ≡ true).
    let at_zero : place_among (head_name ∷ names) name ≡ 0 = cond-true (same_name head_name name) 0 (suc (place_among names name)) is_first in
    (omega (arith, at_zero), ap (λ index. get_or (head_name ∷ names) index default_name) at_zero ∙ same_name-true head_name name is_first))
    (λ (not_first : same_name head_name name ≡ false).
    let later : place_among (head_name ∷ names) name ≡ suc (place_among names name) = cond-false (same_name head_name name) 0 (suc (place_among names name)) not_first in
    let rest_contains : Contains names name = ⊎_elim
    (λ (first_is : head_name ≡ name). absurd (false≢true (sym not_first ∙ same_itself head_name name first_is)))
    (λ (in_rest : Contains names name). in_rest)
    (Contains-cons_cases head_name names name name_there) in
    let name_found = stands_there names name default_name rest_contains in
    (omega (arith, later, name_found.0), ap (λ index. get_or (head_name ∷ names) index default_name) later ∙ name_found.1))
    (cases_Bool (same_name head_name name))
  where
    same_itself : (first_name second_name : Name) → first_name ≡ second_name → same_name first_name second_name ≡ true
    same_itself first_name second_name names_equal = subst (λ (name : Name). same_name first_name name ≡ true) names_equal (same_name-itself first_name)

-- A name that is looked for comes before a place whose name is behind it, ..
pub is_before_place : (names : List Name) → InOrder names → (name : Name) → Contains names name → (index : ℕ) (found_name default_name : Name) → index < length names → get_or names index default_name ≡ found_name → IsBefore name found_name → place_among names name < index
is_before_place names order name name_there index found_name default_name index_below index_holds name_before =
    let place = place_among names name in
    let name_found = stands_there names name default_name name_there in
    ⊎_elim
    (λ (place_less : place < index). place_less)
    (λ (place_not_less : index ≤ place). ⊎_elim
    (λ (same_place : index ≡ place). absurd (not_itself name (subst (λ (found_name : Name). IsBefore name found_name) (sym index_holds ∙ ap (λ index. get_or names index default_name) same_place ∙ name_found.1) name_before)))
    (λ (places_differ : index ≡ place → ⊥).
    let later : IsBefore found_name name = subst (λ (name : Name). IsBefore found_name name) name_found.1 (subst (λ (name : Name). IsBefore name (get_or names place default_name)) index_holds (before_later names order index place default_name (omega (arith, place_not_less, places_differ)) name_found.0)) in
    absurd (not_itself name (before_join name found_name name name_before later)))
    (cases_eq index place))
    (cases_lt place index)

-- .. and at or behind any other
pub is_not_before_place : (names : List Name) → InOrder names → (name : Name) → Contains names name → (index : ℕ) (found_name default_name : Name) → index < length names → get_or names index default_name ≡ found_name → (IsBefore name found_name → ⊥) → index ≤ place_among names name
is_not_before_place names order name name_there index found_name default_name index_below index_holds not_before =
    let place = place_among names name in
    let name_found = stands_there names name default_name name_there in
    ⊎_elim
    (λ (place_less : place < index).
    absurd (not_before (subst (λ (found_name : Name). IsBefore name found_name) index_holds (subst (λ (name : Name). IsBefore name (get_or names index default_name)) name_found.1 (before_later names order place index default_name place_less index_below)))))
    (λ (place_not_less : index ≤ place). place_not_less)
    (cases_lt place index)

-- The names of a text are those of its rows.
pub names_count : (text : Text) → length (names_of text) ≡ length text.rows
names_count text = length-map text.rows (λ (row : Row). row.name)

pub name_of_row : (text : Text) (index : ℕ) (name : Name) → index < length text.rows → get_or (names_of text) index name ≡ (row_of text index).name
name_of_row text index name index_below = get_or-map (λ (row : Row). row.name) text.rows index (bare hub) name index_below
