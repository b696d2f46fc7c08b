-- A list of names in their order that has the same names as another list.
use Rattle.std.proofs.Common.{◌≡◌, ◌<◌, ◌⊎◌, inl, inr, ⊎_elim, List, [], ◌∷◌, sym, arith, refl, subst}
use Rattle.std.specs.Prelude.{Contains, ◌==◌}
use Rattle.std.proofs.lemmas.Bool.{cases_lt, and_from, eq-eqb}
use Rattle.std.proofs.lemmas.List.Elements.{Contains-append_right}
use Rattle.shen_graph.specs.declared.name.Name.{Name}
use Rattle.shen_graph.specs.Reach.{IsBefore, InOrder}
use Rattle.shen_graph.proofs.PlainLemmas.{same_name-true}
use Rattle.shen_graph.proofs.ReachLemmas.{Contains-cons_cases}

-- of two names that differ one is before the other
before_cases : (name other_name : Name) → (name ≡ other_name) ⊎ (IsBefore name other_name ⊎ IsBefore other_name name)
before_cases name other_name = ⊎_elim
    (λ (thread_less : name.thread < other_name.thread). inr (inl (inl thread_less)))
    (λ not_less. ⊎_elim
    (λ (thread_more : other_name.thread < name.thread). inr (inr (inl thread_more)))
    (λ not_more.
    let same_thread : name.thread ≡ other_name.thread = omega (arith, not_less, not_more) in
    ⊎_elim
    (λ (low : name.count < other_name.count). inr (inl (inr (same_thread, low))))
    (λ not_low. ⊎_elim
    (λ (high : other_name.count < name.count). inr (inr (inr (sym same_thread, high))))
    (λ not_high.
    let same_count : name.count ≡ other_name.count = omega (arith, not_low, not_high) in
    inl (same_name-true name other_name (and_from (name.thread == other_name.thread) (name.count == other_name.count) (eq-eqb name.thread other_name.thread same_thread) (eq-eqb name.count other_name.count same_count))))
    (cases_lt other_name.count name.count))
    (cases_lt name.count other_name.count))
    (cases_lt other_name.thread name.thread))
    (cases_lt name.thread other_name.thread)

-- a list has the names of another one and this name, and no others
pub record HasWith (name : Name) (old new : List Name) : Type 0 where
  pub here : Contains new name
  pub keeps : (other_name : Name) → Contains old other_name → Contains new other_name
  pub only : (other_name : Name) → Contains new other_name → (name ≡ other_name) ⊎ Contains old other_name

first : (name : Name) (names : List Name) → Contains (name ∷ names) name
first name names = (0, omega arith, refl)

later : (name : Name) (names : List Name) (asked_name : Name) → Contains names asked_name → Contains (name ∷ names) asked_name
later name names asked_name contained = Contains-append_right (name ∷ []) names asked_name contained

at_front : (name : Name) (names : List Name) → HasWith name names (name ∷ names)
at_front name names = record { here = first name names; keeps = later name names; only = Contains-cons_cases name names }

already : (name first_name : Name) (names : List Name) → name ≡ first_name → HasWith name (first_name ∷ names) (first_name ∷ names)
already name first_name names same_names = record {
  here = (0, omega arith, sym same_names);
  keeps = λ x contained. contained;
  only = λ x contained. inr contained;
}

behind : (name first_name : Name) (old new : List Name) → HasWith name old new → HasWith name (first_name ∷ old) (first_name ∷ new)
behind name first_name old new has_rest = record {
  here = later first_name new name has_rest.here;
  keeps = λ listed_name contained. ⊎_elim
      (λ (is_first : first_name ≡ listed_name). (0, omega arith, is_first))
      (λ (rest : Contains old listed_name). later first_name new listed_name (has_rest.keeps listed_name rest))
      (Contains-cons_cases first_name old listed_name contained);
  only = λ listed_name contained. ⊎_elim
      (λ (is_first : first_name ≡ listed_name). inr (0, omega arith, is_first))
      (λ (rest : Contains new listed_name). ⊎_elim
      (λ (is_first : name ≡ listed_name). inl is_first)
      (λ (old_one : Contains old listed_name). inr (later first_name old listed_name old_one))
      (has_rest.only listed_name rest))
      (Contains-cons_cases first_name new listed_name contained);
}

-- a name goes into its place behind another one
insert_behind : (name new_name : Name) (names : List Name) → IsBefore name new_name → InOrder (name ∷ names) → (result : List Name) × InOrder (name ∷ result) × HasWith new_name names result
insert_behind name new_name [] before order = (new_name ∷ [], (before, tt), at_front new_name [])
insert_behind name new_name (first_name ∷ names) before order = ⊎_elim
    (λ (same_names : new_name ≡ first_name). (first_name ∷ names, order, already new_name first_name names same_names))
    (λ (differ : IsBefore new_name first_name ⊎ IsBefore first_name new_name). ⊎_elim
    (λ (low : IsBefore new_name first_name). (new_name ∷ first_name ∷ names, (before, (low, order.1)), at_front new_name (first_name ∷ names)))
    (λ (high : IsBefore first_name new_name).
    let rest = insert_behind first_name new_name names high order.1 in
    (first_name ∷ rest.0, (order.0, rest.1), behind new_name first_name names rest.0 rest.2))
    differ)
    (before_cases new_name first_name)

inserted : (name : Name) (names : List Name) → InOrder names → (result : List Name) × InOrder result × HasWith name names result
inserted name [] order = (name ∷ [], tt, at_front name [])
inserted name (first_name ∷ names) order = ⊎_elim
    (λ (same_names : name ≡ first_name). (first_name ∷ names, order, already name first_name names same_names))
    (λ (differ : IsBefore name first_name ⊎ IsBefore first_name name). ⊎_elim
    (λ (low : IsBefore name first_name). (name ∷ first_name ∷ names, (low, order), at_front name (first_name ∷ names)))
    (λ (high : IsBefore first_name name).
    let rest = insert_behind first_name name names high order in
    (first_name ∷ rest.0, rest.1, behind name first_name names rest.0 rest.2))
    differ)
    (before_cases name first_name)

-- names in order, and the same ones
pub record IsSortOf (names sorted : List Name) : Type 0 where
  pub in_order : InOrder sorted
  pub all : (name : Name) → Contains names name → Contains sorted name
  pub only : (name : Name) → Contains sorted name → Contains names name

pub sorted_names : (names : List Name) → (sorted : List Name) × IsSortOf names sorted
sorted_names [] = ([], record { in_order = tt; all = λ listed_name contained. contained; only = λ listed_name contained. contained })
sorted_names (name ∷ names) =
    let rest = sorted_names names in
    let result = inserted name rest.0 rest.1.in_order in (
      result.0,
      record {
        in_order = result.1;
        all = λ listed_name contained. ⊎_elim
            (λ (is_first : name ≡ listed_name). subst (Contains result.0) is_first result.2.here)
            (λ (old : Contains names listed_name). result.2.keeps listed_name (rest.1.all listed_name old))
            (Contains-cons_cases name names listed_name contained);
        only = λ listed_name contained. ⊎_elim
            (λ (is_first : name ≡ listed_name). (0, omega arith, is_first))
            (λ (old : Contains rest.0 listed_name). later name names listed_name (rest.1.only listed_name old))
            (result.2.only listed_name contained);
      },
    )
