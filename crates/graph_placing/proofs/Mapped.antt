-- Lists whose elements are mapped, and names among them.
use Rattle.std.proofs.Common.{◌≡◌, suc, true, false, List, [], ◌∷◌, map, Contains, ⊎_elim, refl, sym, ap, ◌∙◌, subst, arith}
use Rattle.std.proofs.lemmas.Bool.{cond-true, cond-false, cases_Bool, false≢true, false_from_ne_true}
use Rattle.std.proofs.lemmas.List.Elements.{Contains-append_right}
use Rattle.shen_graph.specs.declared.name.Name.{Name}
use Rattle.shen_graph.specs.Graph.{same_name}
use Rattle.shen_graph.specs.Reach.{IsBefore, InOrder}
use Rattle.shen_graph.proofs.PlainLemmas.{same_name-true, same_name-itself}
use Rattle.graph_placing.specs.PlacedHeap.{place_among}

pub there_first : {A : Type 0} (x : A) (xs : List A) → Contains (x ∷ xs) x
there_first x xs = (0, omega arith, refl)

pub there_later : {A : Type 0} (x : A) (xs : List A) (y : A) → Contains xs y → Contains (x ∷ xs) y
there_later x xs y rest_contains = Contains-append_right (x ∷ []) xs y rest_contains

-- names stay in order under a map that keeps it
pub in_order_mapped : (f : Name → Name) (names : List Name) → ((name first_name : Name) → Contains names name → Contains names first_name → IsBefore name first_name → IsBefore (f name) (f first_name)) → InOrder names → InOrder (map f names)
in_order_mapped f [] rises order = tt
in_order_mapped f (name ∷ []) rises order = tt
in_order_mapped f (first_name ∷ name ∷ later_names) rises order = (
  rises first_name name (there_first first_name (name ∷ later_names)) (there_later first_name (name ∷ later_names) name (there_first name later_names)) order.0,
  in_order_mapped f (name ∷ later_names) (λ earlier_name later_name in_a in_b. rises earlier_name later_name (there_later first_name (name ∷ later_names) earlier_name in_a) (there_later first_name (name ∷ later_names) later_name in_b)) order.1,
)

-- and at their places under one that is one to one
pub place_mapped : (f : Name → Name) (names : List Name) (name : Name) → ((other_name : Name) → Contains names other_name → f other_name ≡ f name → other_name ≡ name) → place_among (map f names) (f name) ≡ place_among names name
place_mapped f [] name one_to_one = refl
place_mapped f (first_name ∷ names) name one_to_one = ⊎_elim
    (λ (names_agree : same_name first_name name ≡ true).
    let mapped : f first_name ≡ f name = ap f (same_name-true first_name name names_agree) in
    let same_too : same_name (f first_name) (f name) ≡ true = subst (λ (name : Name). same_name (f first_name) name ≡ true) mapped (same_name-itself (f first_name)) in
    cond-true (same_name (f first_name) (f name)) 0 (suc (place_among (map f names) (f name))) same_too ∙ sym (cond-true (same_name first_name name) 0 (suc (place_among names name)) names_agree))
    (λ (names_differ : same_name first_name name ≡ false).
    let images_differ : same_name (f first_name) (f name) ≡ false =
    false_from_ne_true (same_name (f first_name) (f name)) (λ images_agree.
    let equal_names : first_name ≡ name = one_to_one first_name (there_first first_name names) (same_name-true (f first_name) (f name) images_agree) in
    false≢true (sym names_differ ∙ subst (λ (name : Name). same_name first_name name ≡ true) equal_names (same_name-itself first_name))) in
    cond-false (same_name (f first_name) (f name)) 0 (suc (place_among (map f names) (f name))) images_differ
    ∙ ap (λ place. suc place) (place_mapped f names name (λ other_name contained names_agree. one_to_one other_name (there_later first_name names other_name contained) names_agree))
    ∙ sym (cond-false (same_name first_name name) 0 (suc (place_among names name)) names_differ))
    (cases_Bool (same_name first_name name))
