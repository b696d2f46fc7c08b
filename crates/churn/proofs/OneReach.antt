-- There is one list of the names that can be reached in a graph.
use Rattle.std.proofs.Common.{◌≡◌, List, [], ◌∷◌, refl, ap, ◌∙◌, sym, subst, inl, inr, arith}
use Rattle.std.specs.Prelude.{Contains}
use Rattle.std.proofs.lemmas.List.Elements.{Contains-append_right}
use Rattle.shen_graph.specs.declared.name.Name.{Name}
use Rattle.shen_graph.specs.Graph.{Graph}
use Rattle.shen_graph.specs.Reach.{IsBefore, InOrder, IsReach}
use Rattle.shen_graph.proofs.ReachLemmas.{Contains-nil, Contains-cons_cases}
use Rattle.shen_graph.proofs.Distinct.{before_join}

before_not : (name other_name : Name) → IsBefore name other_name → IsBefore other_name name → ⊥
before_not name other_name name_before other_before =
    elim name_before [
      | inl first_case ↦ elim other_before [ inl second_case ↦ omega (arith, first_case, second_case) | inr second_case ↦ omega (arith, first_case, second_case.0) ]
      | inr first_case ↦ elim other_before [ inl second_case ↦ omega (arith, first_case.0, second_case) | inr second_case ↦ omega (arith, first_case.1, second_case.1) ]
    ]

before_each : (name : Name) (names : List Name) (listed_name : Name) → InOrder (name ∷ names) → Contains names listed_name → IsBefore name listed_name
before_each name [] listed_name order listed = absurd (Contains-nil listed_name listed)
before_each name (head ∷ names) listed_name order listed =
    elim (Contains-cons_cases head names listed_name listed) [
      | inl is_head ↦ subst (IsBefore name) is_head order.0
      | inr later ↦ before_join name head listed_name order.0 (before_each head names listed_name order.1 later)
    ]

order_rest : (name : Name) (names : List Name) → InOrder (name ∷ names) → InOrder names
order_rest name [] order = tt
order_rest name (next_name ∷ names) order = order.1

abbrev pub AreAmong : List Name → List Name → Type 0
AreAmong names other_names = (name : Name) → Contains names name → Contains other_names name

among_rest : (name other_name : Name) (names other_names : List Name) → name ≡ other_name → InOrder (name ∷ names) → AreAmong (name ∷ names) (other_name ∷ other_names) → AreAmong names other_names
among_rest name other_name names other_names same_head order names_among listed_name listed =
    elim (Contains-cons_cases other_name other_names listed_name (names_among listed_name (Contains-append_right (name ∷ []) names listed_name listed))) [
      | inl is_head ↦ let before_itself : IsBefore name name = subst (IsBefore name) (sym (same_head ∙ is_head)) (before_each name names listed_name order listed) in absurd (before_not name name before_itself before_itself)
      | inr later ↦ later
    ]

same_heads : (name other_name : Name) (names other_names : List Name) → InOrder (name ∷ names) → InOrder (other_name ∷ other_names) → AreAmong (name ∷ names) (other_name ∷ other_names) → AreAmong (other_name ∷ other_names) (name ∷ names) → name ≡ other_name
same_heads name other_name names other_names order other_order names_among among_back =
    elim (Contains-cons_cases other_name other_names name (names_among name (0, omega arith, refl))) [
      | inl same_name ↦ sym same_name
      | inr later ↦ elim (Contains-cons_cases name names other_name (among_back other_name (0, omega arith, refl))) [
        | inl same_name ↦ same_name
        | inr other_later ↦ absurd (before_not name other_name (before_each name names other_name order other_later) (before_each other_name other_names name other_order later))
      ]
    ]

one_order : (names other_names : List Name) → InOrder names → InOrder other_names → AreAmong names other_names → AreAmong other_names names → names ≡ other_names
one_order [] [] order other_order names_among among_back = refl
one_order [] (name ∷ names) order other_order names_among among_back = absurd (Contains-nil name (among_back name (0, omega arith, refl)))
one_order (name ∷ names) [] order other_order names_among among_back = absurd (Contains-nil name (names_among name (0, omega arith, refl)))
one_order (name ∷ names) (other_name ∷ other_names) order other_order names_among among_back =
    let same_head = same_heads name other_name names other_names order other_order names_among among_back in
    let same_rest = one_order names other_names (order_rest name names order) (order_rest other_name other_names other_order) (among_rest name other_name names other_names same_head order names_among) (among_rest other_name name other_names names (sym same_head) other_order among_back) in
    ap (λ head_name. head_name ∷ names) same_head ∙ ap (λ later_names. other_name ∷ later_names) same_rest

pub one_reach : (graph : Graph) (names other_names : List Name) → IsReach graph names → IsReach graph other_names → names ≡ other_names
one_reach graph names other_names reach other_reach = one_order names other_names reach.in_order other_reach.in_order (λ name listed. other_reach.all name (reach.only name listed)) (λ name listed. reach.all name (other_reach.only name listed))
