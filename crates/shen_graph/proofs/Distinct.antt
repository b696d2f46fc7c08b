-- Names in their order differ.
use Rattle.std.proofs.Common.{◌≡◌, Bool, true, false, List, [], ◌∷◌, refl, ◌∙◌, subst, inl, inr, arith}
use Rattle.std.specs.Prelude.{◌==◌}
use Rattle.std.specs.List.{AllByRecursion, IsDistinct}
use Rattle.std.proofs.lemmas.Bool.Decides.{Decides-eqb, Decides-and}
use Rattle.std.proofs.lemmas.Map.Keys.{IsDistinct-cons}
use Rattle.shen_graph.specs.declared.name.Name.{Name}
use Rattle.shen_graph.specs.Graph.{same_name}
use Rattle.shen_graph.specs.Reach.{IsBefore, InOrder}

-- two of them
pub before_apart : (name later_name : Name) → IsBefore name later_name → same_name name later_name ≡ false
before_apart name later_name before = at (same_name name later_name) refl
  where
    at : (holds : Bool) → same_name name later_name ≡ holds → holds ≡ false
    at false names_tested = refl
    at true names_tested =
        let same_parts = (Decides-and (name.thread == later_name.thread) (name.count == later_name.count) (Decides-eqb name.thread later_name.thread) (Decides-eqb name.count later_name.count)).0 names_tested in
        elim before [ inl less_thread ↦ absurd (omega (arith, less_thread, same_parts.0)) | inr less_count ↦ absurd (omega (arith, less_count.1, same_parts.1)) ]

-- the order goes on
pub before_join : (first_name second_name last_name : Name) → IsBefore first_name second_name → IsBefore second_name last_name → IsBefore first_name last_name
before_join name middle_name last_name first_before second_before =
    elim first_before [
      | inl first_less ↦ elim second_before [ inl second_less ↦ inl (omega (arith, first_less, second_less)) | inr second_less ↦ inl (omega (arith, first_less, second_less.0)) ]
      | inr first_less ↦ elim second_before [ inl second_less ↦ inl (omega (arith, first_less.0, second_less)) | inr second_less ↦ inr (first_less.0 ∙ second_less.0, omega (arith, first_less.1, second_less.1)) ]
    ]

-- what is before the first is none of them
pub before_all : (name : Name) (names : List Name) → ((head_name : Name) (rest_names : List Name) → names ≡ head_name ∷ rest_names → IsBefore name head_name) → InOrder names → AllByRecursion (λ y. same_name name y ≡ false) names
before_all name [] before_first order = tt
before_all name (head_name ∷ []) before_first order = (before_apart name head_name (before_first head_name [] refl), tt)
before_all name (first_name ∷ next_name ∷ later_names) before_first order =
    let name_before = before_first first_name (next_name ∷ later_names) refl in
    (before_apart name first_name name_before, before_all name (next_name ∷ later_names) (λ head_name tail_names same_list. let same_head : next_name ≡ head_name = cc in subst (IsBefore name) same_head (before_join name first_name next_name name_before order.0)) order.1)

none_distinct : IsDistinct same_name []
unfolding IsDistinct
none_distinct = tt

-- so no name is there twice
pub distinct : (names : List Name) → InOrder names → IsDistinct same_name names
distinct [] order = none_distinct
distinct (name ∷ []) order = IsDistinct-cons same_name name [] tt none_distinct
distinct (first_name ∷ next_name ∷ later_names) order =
    IsDistinct-cons same_name first_name (next_name ∷ later_names) (before_all first_name (next_name ∷ later_names) (λ head_name tail_names same_list. let same_head : next_name ≡ head_name = cc in subst (IsBefore first_name) same_head order.0) order.1) (distinct (next_name ∷ later_names) order.1)

-- a list in order without its first
pub order_rest : (name : Name) (names : List Name) → InOrder (name ∷ names) → InOrder names
order_rest name [] order = tt
order_rest name (first_name ∷ names) order = order.1

-- the first is none of the others
pub order_first : (name : Name) (names : List Name) → InOrder (name ∷ names) → AllByRecursion (λ y. same_name name y ≡ false) names
order_first name [] order = tt
order_first name (next_name ∷ names) order = before_all name (next_name ∷ names) (λ head_name tail_names same_list. let same_head : next_name ≡ head_name = cc in subst (IsBefore name) same_head order.0) order.1
