-- How many words and how many regions are pinned is one number each: two lists in which nothing is there twice, and which have
-- the same elements, have one sum.
use Rattle.std.proofs.Common.{◌≡◌, ℕ, ◌+◌, ◌≤◌, Bool, true, false, List, [], ◌∷◌, ◌++◌, length, sum_by, Some, inl, inr, refl, sym, ap, subst, ◌∙◌, arith}
use Rattle.std.specs.Prelude.{Contains, ◌==◌}
use Rattle.std.specs.List.{IsDistinct}
use Rattle.std.proofs.lemmas.Bool.{false≢true}
use Rattle.std.proofs.lemmas.List.Elements.{All-contains, All-from_recursion, Contains-append_left, Contains-append_right, Contains-append_cases}
use Rattle.std.proofs.lemmas.List.Sums.{sum_by-append, sum_by-cons}
use Rattle.std.proofs.lemmas.Map.Keys.{IsDistinct-head, IsDistinct-tail}
use Rattle.shen_graph.proofs.Numbers.{equal_itself}
use Rattle.shen_graph.specs.declared.name.Name.{Name}
use Rattle.shen_graph.specs.Graph.{Graph, same_name, named}
use Rattle.shen_graph.specs.Reach.{size}
use Rattle.shen_graph.specs.Crowd.{ArePinned, Held, ArePinnedRegions, PinnedRegions}
use Rattle.shen_graph.proofs.PlainLemmas.{same_name-itself}
use Rattle.shen_graph.proofs.ReachLemmas.{Contains-cons_cases, Contains-nil}

-- ---- a list around one of its elements

record Around {K : Type 0} (ys : List K) (x : K) : Type 0 where
  front : List K
  behind : List K
  is : ys ≡ front ++ x ∷ behind

around : {K : Type 0} (ys : List K) (x : K) → Contains ys x → Around ys x
around [] x element_there = absurd (Contains-nil x element_there)
around {K} (y ∷ ys) contains element_there = elim (Contains-cons_cases y ys contains element_there) [
  | inl same_element ↦ record { front = []; behind = ys; is = ap (λ (z : K). z ∷ ys) same_element }
  | inr later ↦ (let later_around = around ys contains later in record { front = y ∷ later_around.front; behind = later_around.behind; is = ap (λ (zs : List K). y ∷ zs) later_around.is })
]

others : {K : Type 0} (front behind : List K) (x y : K) → Contains (front ++ x ∷ behind) y → (x ≡ y → ⊥) → Contains (front ++ behind) y
others front behind x y element_there other_element = elim (Contains-append_cases front (x ∷ behind) y element_there) [
  | inl before ↦ Contains-append_left front behind y before
  | inr from_it ↦ elim (Contains-cons_cases x behind y from_it) [
    | inl same_element ↦ absurd (other_element same_element)
    | inr later ↦ Contains-append_right front behind y later
  ]
]

sum_around : {K : Type 0} (f : K → ℕ) (front behind : List K) (x : K) → sum_by f (front ++ x ∷ behind) ≡ f x + sum_by f (front ++ behind)
sum_around f front behind x =
    let whole_sum = sum_by-append f front (x ∷ behind) in
    let first_sum = sum_by-cons f x behind in
    let joined_sum = sum_by-append f front behind in
    omega (arith, whole_sum, first_sum, joined_sum)

-- ---- a sum over some of the elements

apart : {K : Type 0} (eq : K → K → Bool) → ((x : K) → eq x x ≡ true) → (x : K) (xs : List K) → IsDistinct eq (x ∷ xs) → (y : K) → Contains xs y → x ≡ y → ⊥
apart eq itself x xs distinct y element_there same_element =
    let none_same = All-contains (λ z. eq x z ≡ false) xs y (All-from_recursion (λ z. eq x z ≡ false) xs (IsDistinct-head eq x xs distinct)) element_there in
    false≢true (sym none_same ∙ ap (eq x) (sym same_element) ∙ itself x)

pub sum_within : {K : Type 0} (eq : K → K → Bool) → ((x : K) → eq x x ≡ true) → (f : K → ℕ) (xs ys : List K) → IsDistinct eq xs → ((y : K) → Contains xs y → Contains ys y) → sum_by f xs ≤ sum_by f ys
sum_within eq itself f [] ys distinct inside = omega arith
sum_within {K} eq itself f (x ∷ xs) ys distinct inside =
    let found_around = around ys x (inside x (0, omega arith, refl)) in
    let rest = sum_within eq itself f xs (found_around.front ++ found_around.behind) (IsDistinct-tail eq x xs distinct) (λ y element_there.
    others found_around.front found_around.behind x y (subst (λ (zs : List K). Contains zs y) found_around.is (inside y (Contains-append_right (x ∷ []) xs y element_there))) (apart eq itself x xs distinct y element_there)) in
    let whole_sum = ap (sum_by f) found_around.is ∙ sum_around f found_around.front found_around.behind x in
    let first_sum = sum_by-cons f x xs in
    omega (arith, rest, whole_sum, first_sum)

pub one_sum : {K : Type 0} (eq : K → K → Bool) → ((x : K) → eq x x ≡ true) → (f : K → ℕ) (xs ys : List K) → IsDistinct eq xs → IsDistinct eq ys
    → ((y : K) → Contains xs y → Contains ys y) → ((y : K) → Contains ys y → Contains xs y) → sum_by f xs ≡ sum_by f ys
one_sum eq itself f xs ys distinct_xs distinct_ys all_inside from =
    let sum_at_most = sum_within eq itself f xs ys distinct_xs all_inside in
    let down = sum_within eq itself f ys xs distinct_ys from in
    omega (arith, sum_at_most, down)

-- each counts 1
ones : {K : Type 0} (xs : List K) → sum_by (λ _. 1) xs ≡ length xs
ones [] = refl
ones (x ∷ xs) = let others = ones xs in let first_sum = sum_by-cons (λ _. 1) x xs in omega (arith, others, first_sum)

-- ---- the words

names_within : (graph : Graph) (names other_names : List Name) → ArePinned graph names → ArePinned graph other_names → (name : Name) → Contains names name → Contains other_names name
names_within graph names other_names pinned other_pinned name name_there = let name_pin = pinned.only name name_there in subst (Contains other_names) name_pin.4 (other_pinned.all name_pin.0 name_pin.1 name_pin.2 name_pin.3)

pub held_once : (graph : Graph) (words other_words : ℕ) → Held graph words → Held graph other_words → words ≡ other_words
held_once graph words other_words held other_held =
    held.2
    ∙ one_sum same_name same_name-itself (λ (name : Name). size (named graph (Some name))) held.0 other_held.0 held.1.differ other_held.1.differ (names_within graph held.0 other_held.0 held.1 other_held.1) (names_within graph other_held.0 held.0 other_held.1 held.1)
    ∙ sym other_held.2

-- ---- the regions

regions_within : (region_words : ℕ) (graph : Graph) (regions other_regions : List ℕ) → ArePinnedRegions region_words graph regions → ArePinnedRegions region_words graph other_regions → (region : ℕ) → Contains regions region → Contains other_regions region
regions_within region_words graph regions region_list pinned_regions other_pinned region region_there = let region_pin = pinned_regions.only region region_there in subst (Contains region_list) region_pin.4 (other_pinned.all region_pin.0 region_pin.1 region_pin.2 region_pin.3)

pub regions_once : (region_words : ℕ) (graph : Graph) (count other_count : ℕ) → PinnedRegions region_words graph count → PinnedRegions region_words graph other_count → count ≡ other_count
regions_once region_words graph count other_count pinned_regions other_pinned =
    let same_count : sum_by (λ (_ : ℕ). 1) pinned_regions.0 ≡ sum_by (λ (_ : ℕ). 1) other_pinned.0 =
    one_sum (λ own_region other_region. own_region == other_region) equal_itself (λ (_ : ℕ). 1) pinned_regions.0 other_pinned.0 pinned_regions.1.differ other_pinned.1.differ (regions_within region_words graph pinned_regions.0 other_pinned.0 pinned_regions.1 other_pinned.1) (regions_within region_words graph other_pinned.0 pinned_regions.0 other_pinned.1 pinned_regions.1) in
    pinned_regions.2 ∙ sym (ones pinned_regions.0) ∙ same_count ∙ ones other_pinned.0 ∙ sym other_pinned.2
