-- The list of what is found by so many turns: it has exactly what roots and fields lead to, once the turns are as many as
-- there are addresses.
use Rattle.std.proofs.Common.{◌≡◌, ◌≢◌, ℕ, ◌+◌, ◌<◌, ◌≤◌, ◌==◌, ◌||◌, true, zero, suc, List, [], ◌∷◌, ◌++◌, length, slice_get, map, nat_eq, Option, Some, None, ⊎_elim, refl, sym, ap, ◌∙◌, subst, arith, length-append}
use Rattle.std.specs.List.{range_with_len, IsDistinct}
use Rattle.std.proofs.lemmas.Bool.{cond_both, cases_lt, cases_eq, or_cases, or_left, or_right, or_parts, eqb-true, eq-eqb, false≢true}
use Rattle.std.proofs.lemmas.Cmp.{nat_eq_equiv}
use Rattle.std.proofs.lemmas.List.{append-nil}
use Rattle.std.proofs.lemmas.List.FromFn.{length-range_with_len}
use Rattle.std.proofs.lemmas.Map.Keys.{IsDistinct-push, IsDistinct-from_apart}
use Rattle.std.proofs.lemmas.Map.Made.{length-le_from_is_member}
use Rattle.std.proofs.lemmas.Option.{slice_get_within, none-some, same_Some}
use Rattle.heap_world.specs.Walk.{has, with_address, with_addresses}
use Rattle.heap_world.proofs.TakenDown.{has-range, kept, new, only, prefix}
use Rattle.image_graph.specs.Held.{with_fields, found_in}

-- one step of the recursion
found_next : (fields : ℕ → List ℕ) (roots : List ℕ) (index : ℕ) → found_in fields roots (suc index) ≡ with_fields fields (found_in fields roots index) (slice_get (found_in fields roots index) index)
unfolding found_in
found_next fields roots index = refl

found_first : (fields : ℕ → List ℕ) (roots : List ℕ) → found_in fields roots 0 ≡ with_addresses [] roots
unfolding found_in
found_first fields roots = refl

-- what a list has is at an index of it
pub index_of : (xs : List ℕ) (asked : ℕ) → has xs asked ≡ true → (index : ℕ) × (index < length xs) × (slice_get xs index ≡ Some asked)
index_of [] asked asked_there = absurd (false≢true asked_there)
index_of (x ∷ xs) asked asked_there = ⊎_elim
    (λ (asked_first : nat_eq asked x ≡ true). (0, omega arith, ap Some (sym (eqb-true asked x asked_first))))
    (λ (later : has xs asked ≡ true). let found_later = index_of xs asked later in (suc found_later.0, omega (arith, found_later.1), found_later.2))
    (or_cases (nat_eq asked x) (has xs asked) asked_there)

-- and what is at an index it has
pub has_at : (xs : List ℕ) (index asked : ℕ) → slice_get xs index ≡ Some asked → has xs asked ≡ true
has_at [] index asked asked_at = absurd (none-some asked asked_at)
has_at (x ∷ xs) zero asked asked_at = or_left (nat_eq asked x) (has xs asked) (eq-eqb asked x (sym (same_Some x asked asked_at)))
has_at (x ∷ xs) (suc index) asked asked_at = or_right (nat_eq asked x) (has xs asked) (has_at xs index asked asked_at)

-- a list whose elements are each another one's image
pub has_map : (f : ℕ → ℕ) (xs : List ℕ) (image : ℕ) → has (map f xs) image ≡ true → (x : ℕ) × (has xs x ≡ true) × (f x ≡ image)
has_map f [] image image_there = absurd (false≢true image_there)
has_map f (x ∷ xs) image image_there = ⊎_elim
    (λ (image_first : nat_eq image (f x) ≡ true). (x, or_left (nat_eq x x) (has xs x) (eq-eqb x x refl), sym (eqb-true image (f x) image_first)))
    (λ (later : has (map f xs) image ≡ true). let found_later = has_map f xs image later in (found_later.0, or_right (nat_eq found_later.0 x) (has xs found_later.0) found_later.1, found_later.2))
    (or_cases (nat_eq image (f x)) (has (map f xs) image) image_there)

pub map_has : (f : ℕ → ℕ) (xs : List ℕ) (x : ℕ) → has xs x ≡ true → has (map f xs) (f x) ≡ true
map_has f [] x element_there = absurd (false≢true element_there)
map_has f (y ∷ xs) x element_there = ⊎_elim
    (λ (element_first : nat_eq x y ≡ true). or_left (nat_eq (f x) (f y)) (has (map f xs) (f x)) (eq-eqb (f x) (f y) (ap f (eqb-true x y element_first))))
    (λ (later : has xs x ≡ true). or_right (nat_eq (f x) (f y)) (has (map f xs) (f x)) (map_has f xs x later))
    (or_cases (nat_eq x y) (has xs x) element_there)

-- a number of a range is in it
pub range_has : (first count asked : ℕ) → has (range_with_len first count) asked ≡ true → (first ≤ asked) × (asked < first + count)
range_has first zero asked asked_there = absurd (false≢true asked_there)
range_has first (suc count) asked asked_there = ⊎_elim
    (λ (asked_first : nat_eq asked first ≡ true). let same_number = eqb-true asked first asked_first in (omega (arith, same_number), omega (arith, same_number)))
    (λ (later : has (range_with_len (first + 1) count) asked ≡ true). let found_later = range_has (first + 1) count asked later in (omega (arith, found_later.0), omega (arith, found_later.1)))
    (or_cases (nat_eq asked first) (has (range_with_len (first + 1) count) asked) asked_there)

-- no address comes twice
distinct_one : (order : List ℕ) (address : ℕ) → IsDistinct nat_eq order → IsDistinct nat_eq (with_address order address)
distinct_one order address distinct =
    cond_both ((address == 0) || has order address) order (order ++ address ∷ []) (IsDistinct nat_eq) (λ _. distinct)
    (λ not_held. IsDistinct-push nat_eq_equiv order address distinct (or_parts (address == 0) (has order address) not_held).1)

distinct_all : (order words : List ℕ) → IsDistinct nat_eq order → IsDistinct nat_eq (with_addresses order words)
distinct_all order [] distinct = distinct
distinct_all order (address ∷ words) distinct = distinct_all (with_address order address) words (distinct_one order address distinct)

-- an element of the front of a list
front_get : (xs ys : List ℕ) (index : ℕ) → index < length xs → slice_get (xs ++ ys) index ≡ slice_get xs index
front_get [] ys index index_below = absurd (omega (arith, index_below))
front_get (x ∷ xs) ys zero index_below = refl
front_get (x ∷ xs) ys (suc index) index_below = front_get xs ys index (omega (arith, index_below))

-- past the end of a list there is nothing
get_none : (xs : List ℕ) (index : ℕ) → length xs ≤ index → slice_get xs index ≡ None
get_none [] index index_past = refl
get_none (x ∷ xs) zero index_past = absurd (omega (arith, index_past))
get_none (x ∷ xs) (suc index) index_past = get_none xs index (omega (arith, index_past))

module _ (fields : ℕ → List ℕ) (roots : List ℕ) where
  abbrev found : ℕ → List ℕ
  found = found_in fields roots

  abbrev grown : (turn : ℕ) → Option ℕ → List ℕ
  grown turn taken = with_fields fields (found turn) taken

  -- a turn takes no address away
  grown_keeps : (turn : ℕ) (taken : Option ℕ) (asked : ℕ) → has (found turn) asked ≡ true → has (grown turn taken) asked ≡ true
  grown_keeps turn None asked asked_there = asked_there
  grown_keeps turn (Some address) asked asked_there = kept (found turn) (fields address) asked asked_there

  found_keeps : (index asked : ℕ) → has (found index) asked ≡ true → has (found (suc index)) asked ≡ true
  found_keeps index asked asked_there = ap (λ xs. has xs asked) (found_next fields roots index) ∙ grown_keeps index (slice_get (found index) index) asked asked_there

  -- and moves none
  grown_prefix : (turn : ℕ) (taken : Option ℕ) → (added : List ℕ) × (grown turn taken ≡ found turn ++ added)
  grown_prefix turn None = ([], sym (append-nil (found turn)))
  grown_prefix turn (Some address) = prefix (found turn) (fields address)

  found_stays : (turn index : ℕ) → index < length (found turn) → slice_get (found (suc turn)) index ≡ slice_get (found turn) index
  found_stays turn index index_below =
      let added = grown_prefix turn (slice_get (found turn) turn) in
      ap (λ xs. slice_get xs index) (found_next fields roots turn ∙ added.1) ∙ front_get (found turn) added.0 index index_below

  found_longer : (index : ℕ) → length (found index) ≤ length (found (suc index))
  found_longer index =
      let added = grown_prefix index (slice_get (found index) index) in
      omega (arith, ap length (found_next fields roots index ∙ added.1), length-append (found index) added.0)

  -- the roots are found from the start
  pub roots_found : (turn asked : ℕ) → asked ≢ 0 → has roots asked ≡ true → has (found turn) asked ≡ true
  roots_found zero asked not_null asked_there = ap (λ xs. has xs asked) (found_first fields roots) ∙ new [] roots asked not_null asked_there
  roots_found (suc index) asked not_null asked_there = found_keeps index asked (roots_found index asked not_null asked_there)

  -- no address twice
  once_grown : (turn : ℕ) (taken : Option ℕ) → IsDistinct nat_eq (found turn) → IsDistinct nat_eq (grown turn taken)
  once_grown turn None distinct = distinct
  once_grown turn (Some address) distinct = distinct_all (found turn) (fields address) distinct

  found_once : (index : ℕ) → IsDistinct nat_eq (found index)
  found_once zero = subst (IsDistinct nat_eq) (sym (found_first fields roots)) (distinct_all [] roots (IsDistinct-from_apart nat_eq [] (λ i j d _ h. absurd (omega arith))))
  found_once (suc index) = subst (IsDistinct nat_eq) (sym (found_next fields roots index)) (once_grown index (slice_get (found index) index) (found_once index))

  module _ (Held : ℕ → Type 0) (root_held : (target : ℕ) → target ≢ 0 → has roots target ≡ true → Held target) (field_held : (holder target : ℕ) → Held holder → target ≢ 0 → has (fields holder) target ≡ true → Held target) where
    -- a turn finds only what is held
    held_grown : (index : ℕ) (taken : Option ℕ) → slice_get (found index) index ≡ taken → ((asked : ℕ) → has (found index) asked ≡ true → Held asked) → (asked : ℕ) → has (grown index taken) asked ≡ true → Held asked
    held_grown index None taken_at before asked asked_there = before asked asked_there
    held_grown index (Some address) taken_at before asked asked_there = ⊎_elim
        (λ (old : has (found index) asked ≡ true). before asked old)
        (λ (field : (asked ≢ 0) × (has (fields address) asked ≡ true)). field_held address asked (before address (has_at (found index) index address taken_at)) field.0 field.1)
        (only (found index) (fields address) asked asked_there)

    -- nothing else is found
    pub found_held : (index asked : ℕ) → has (found index) asked ≡ true → Held asked
    found_held zero asked asked_there = ⊎_elim
        (λ (none_there : has [] asked ≡ true). absurd (false≢true none_there))
        (λ (root : (asked ≢ 0) × (has roots asked ≡ true)). root_held asked root.0 root.1)
        (only [] roots asked (sym (ap (λ xs. has xs asked) (found_first fields roots)) ∙ asked_there))
    found_held (suc index) asked asked_there = held_grown index (slice_get (found index) index) refl (found_held index) asked (sym (ap (λ xs. has xs asked) (found_next fields roots index)) ∙ asked_there)

    module _ (first size : ℕ) (inside : (asked : ℕ) → Held asked → (first ≤ asked) × (asked < first + size)) where
      -- so there are at most as many as the heap has addresses
      found_few : (index : ℕ) → length (found index) ≤ size
      found_few index =
          let few : length (found index) ≤ length (range_with_len first size) =
          length-le_from_is_member nat_eq_equiv (found index) (range_with_len first size) (found_once index)
          (λ asked asked_there. let inside_heap = inside asked (found_held index asked asked_there) in has-range first size asked inside_heap.0 inside_heap.1) in
          omega (arith, few, length-range_with_len first size)

      -- once every address had its turn, no turn changes anything
      past : (index : ℕ) → length (found index) ≤ index → found (suc index) ≡ found index
      past index short = found_next fields roots index ∙ ap (grown index) (get_none (found index) index short)

      -- the fields of what had its turn are found
      turned : (now_turn index address asked : ℕ) → index < now_turn → slice_get (found now_turn) index ≡ Some address → asked ≢ 0 → has (fields address) asked ≡ true → has (found now_turn) asked ≡ true
      turned zero index address asked index_below address_at not_null field = absurd (omega (arith, index_below))
      turned (suc now_turn) index address asked index_below address_at not_null field = ⊎_elim
          (λ (within : index < length (found now_turn)).
          let address_before : slice_get (found now_turn) index ≡ Some address = sym (found_stays now_turn index within) ∙ address_at in
          ⊎_elim
          (λ (this_turn : index ≡ now_turn).
          let turn : slice_get (found now_turn) now_turn ≡ Some address = ap (slice_get (found now_turn)) (sym this_turn) ∙ address_before in
          ap (λ xs. has xs asked) (found_next fields roots now_turn ∙ ap (grown now_turn) turn) ∙ new (found now_turn) (fields address) asked not_null field)
          (λ (earlier : index ≢ now_turn). found_keeps now_turn asked (turned now_turn index address asked (omega (arith, index_below, earlier)) address_before not_null field))
          (cases_eq index now_turn))
          (λ (list_ended : length (found now_turn) ≤ index).
          let same_found = past now_turn (omega (arith, list_ended, index_below)) in
          absurd (let within = slice_get_within (found now_turn) index address (sym (ap (λ xs. slice_get xs index) same_found) ∙ address_at) in omega (arith, within, list_ended)))
          (cases_lt index (length (found now_turn)))

      -- after as many turns as there are addresses, the fields of each address that was found are found
      pub found_closed : (address asked : ℕ) → has (found size) address ≡ true → asked ≢ 0 → has (fields address) asked ≡ true → has (found size) asked ≡ true
      found_closed address asked address_there not_null field =
          let found_index = index_of (found size) address address_there in
          turned size found_index.0 address asked (omega (arith, found_index.1, found_few size)) found_index.2 not_null field
