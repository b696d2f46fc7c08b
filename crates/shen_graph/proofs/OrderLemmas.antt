-- Names in order.
use Rattle.std.proofs.Common.{ℕ, suc, ◌≡◌, ◌+◌, ◌<◌, false, List, [], ◌∷◌, map, length, get_or, arith, is_lt, nat_cmp, sym}
use Rattle.std.specs.Ordering.{ordering_then}
use Rattle.std.specs.declared.cmp.Ordering.{Ordering}
use Rattle.std.specs.List.{IsDistinct}
use Rattle.std.specs.List.Sorted.{IsSortedByKey, IsPermutation}
use Rattle.std.proofs.lemmas.List.{get_or-map, length-map}
use Rattle.std.proofs.lemmas.Map.Keys.{apart_from_distinct, IsDistinct-IsPermutation}
use Rattle.std.proofs.lemmas.Bool.Decides.{nat_tests, same_from_decides, Decides-eqb, Decides-like, Decides-and}
use Rattle.std.specs.Bool.{Decides}
use Rattle.std.specs.Prelude.{◌==◌}
use Rattle.shen_graph.specs.declared.name.Name.{Name}
use Rattle.shen_graph.specs.Graph.{same_name}
use Rattle.shen_graph.specs.Reach.{IsBefore, InOrder}

-- the order that a sort by names has
abbrev pub name_cmp : Name → Name → Ordering
name_cmp name other_name = ordering_then (nat_cmp name.thread other_name.thread) (nat_cmp name.count other_name.count)

-- what the test of two names tells
pub same_name-Decides : (name other_name : Name) → Decides (same_name name other_name) ((name.thread ≡ other_name.thread) × (name.count ≡ other_name.count))
same_name-Decides name other_name = Decides-and (name.thread == other_name.thread) (name.count == other_name.count) (Decides-eqb name.thread other_name.thread) (Decides-eqb name.count other_name.count)

pub same_name-flip : (name other_name : Name) → same_name name other_name ≡ same_name other_name name
same_name-flip name other_name =
    same_from_decides (same_name name other_name) (same_name other_name name) (same_name-Decides name other_name)
    (Decides-like (same_name other_name name) (λ same_parts. (sym same_parts.0, sym same_parts.1)) (λ same_parts. (sym same_parts.0, sym same_parts.1)) (same_name-Decides other_name name))

-- of two names that differ, the one that is not after the other is before it
pub IsBefore-from_sorted : (name later_name : Name) → is_lt (name_cmp later_name name) ≡ false → same_name name later_name ≡ false → IsBefore name later_name
IsBefore-from_sorted name later_name sorted names_differ = grind (arith, nat_tests)

pub InOrder-from_adjacent : (names : List Name) → ((index : ℕ) (name : Name) → index + 1 < length names → IsBefore (get_or names index name) (get_or names (index + 1) name)) → InOrder names
InOrder-from_adjacent [] each_before = tt
InOrder-from_adjacent (name ∷ []) each_before = tt
InOrder-from_adjacent (first_name ∷ next_name ∷ later_names) each_before =
    (each_before 0 first_name (omega arith), InOrder-from_adjacent (next_name ∷ later_names) (λ index name index_below. let same_index : suc index + 1 ≡ suc (index + 1) = omega arith in rw same_index at (each_before (suc index) name (omega arith))))

-- a list that is sorted by names which differ
pub InOrder-from_sorted : {X : Type 0} (key : X → Name) (xs : List X) → IsSortedByKey key name_cmp xs → IsDistinct same_name (map key xs) → InOrder (map key xs)
InOrder-from_sorted key [] sorted distinct = tt
InOrder-from_sorted key (x ∷ xs) sorted distinct =
    InOrder-from_adjacent (map key (x ∷ xs)) (λ index default index_below.
    let inside : index + 1 < length (x ∷ xs) = omega (arith, length-map (x ∷ xs) key) in
    let first_key = get_or-map key (x ∷ xs) index x default (omega arith) in
    let second = get_or-map key (x ∷ xs) (index + 1) x default inside in
    let keys_differ = apart_from_distinct same_name (map key (x ∷ xs)) index (index + 1) default distinct (omega arith) index_below in
    rw (first_key, second) (IsBefore-from_sorted (key (get_or (x ∷ xs) index x)) (key (get_or (x ∷ xs) (index + 1) x)) (sorted index x (omega arith) inside) (rw (first_key, second) at keys_differ)))

-- names that differ, in another order
pub IsDistinct-permutation : (names permuted_names : List Name) → IsPermutation names permuted_names → IsDistinct same_name names → IsDistinct same_name permuted_names
IsDistinct-permutation names permuted_names moved distinct = IsDistinct-IsPermutation same_name same_name-flip names permuted_names moved distinct
