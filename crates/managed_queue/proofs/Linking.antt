-- What a link makes of the chain, and that others may rely on it.
use Rattle.std.proofs.Common.{ℕ, zero, suc, ◌≡◌, ◌⊎◌, Some, None, List, [], ◌∷◌, ◌++◌, length, slice_get, refl, sym, ap, ◌∙◌, inl, inr, arith, length-append}
use Rattle.std.specs.Prelude.{◌≢◌, if◌then◌else◌}
use Rattle.shen_graph.specs.declared.name.Name.{Name}
use Rattle.shen_graph.specs.Graph.{hub, same_name}
use Rattle.shen_graph.proofs.PlainLemmas.{same_name-itself}
use Rattle.managed_queue.proofs.Facts.{Objects, anchor, cell, Chain, IsLinked, IsChain, Rely}
use Rattle.managed_queue.proofs.Facts.IsLinked.{inner, end}
use Rattle.managed_queue.proofs.Moves.{but, but_here, but_there, by_name, apart_by_tag, next_apart, places_apart, made_but}

-- numbers with one more at their end

pub kept_number : (xs ys : List ℕ) (index value : ℕ) → slice_get xs index ≡ Some value → slice_get (xs ++ ys) index ≡ Some value
kept_number [] ys index value value_there = let never : None ≡ Some value = value_there in absurd cc
kept_number (x ∷ xs) ys zero value value_there = value_there
kept_number (x ∷ xs) ys (suc index) value value_there = kept_number xs ys index value value_there

pub last_number : (xs : List ℕ) (index value : ℕ) → length xs ≡ index → slice_get (xs ++ value ∷ []) index ≡ Some value
last_number [] zero value same_length = refl
last_number [] (suc index) value same_length = let never : 0 ≡ suc index = same_length in absurd (omega (arith, never))
last_number (x ∷ xs) zero value same_length = absurd (omega (arith, same_length))
last_number (x ∷ xs) (suc index) value same_length = last_number xs index value (omega (arith, same_length))

-- a name is behind the last
abbrev pub with_last : Chain → Name → ℕ → Chain
with_last chain name value = record chain {
  place = λ asked_name. if same_name asked_name name then Some (suc chain.last) else chain.place asked_name;
  numbers = chain.numbers ++ value ∷ [];
  last = suc chain.last;
}

-- what has a place is the new one, or had it
was_placed : (chain : Chain) (name : Name) (value : ℕ) (asked_name : Name) (place : ℕ) → (with_last chain name value).place asked_name ≡ Some place → ((asked_name ≡ name) × (place ≡ suc chain.last)) ⊎ (chain.place asked_name ≡ Some place)
was_placed chain name value asked_name place =
    by_name (λ found_place. found_place ≡ Some place → ((asked_name ≡ name) × (place ≡ suc chain.last)) ⊎ (chain.place asked_name ≡ Some place)) asked_name name (Some (suc chain.last)) (chain.place asked_name) (λ same_names has_place. inl (same_names, cc)) (λ names_differ has_place. inr has_place)

still_placed : (chain : Chain) (name : Name) (value : ℕ) (asked_name : Name) (place : ℕ) → chain.place name ≡ None → chain.place asked_name ≡ Some place → (with_last chain name value).place asked_name ≡ Some place
still_placed chain name value asked_name place no_place place_found = by_name (λ found_place. found_place ≡ Some place) asked_name name (Some (suc chain.last)) (chain.place asked_name) (λ names_equal. absurd (places_apart chain asked_name name place place_found no_place names_equal)) (λ _. place_found)

now_placed : (chain : Chain) (name : Name) (value : ℕ) → (with_last chain name value).place name ≡ Some (suc chain.last)
now_placed chain name value = ap (λ is_same. if is_same then Some (suc chain.last) else chain.place name) (same_name-itself name)

abbrev linking : Objects → Name → Name → ℕ → Objects
linking object name new_name value = but object name (cell (Some new_name) value)

-- Node n is the last, and m, which is off the chain, is linked behind it.
pub record CanLink (object : Objects) (chain : Chain) (name other_name : Name) (old value : ℕ) : Type 0 where
  pub at : chain.place name ≡ Some chain.last
  pub whole : object name ≡ Some (cell None old)
  pub number : slice_get chain.numbers chain.last ≡ Some old
  pub none : chain.place other_name ≡ None
  pub fresh : object other_name ≡ Some (cell None value)

links_on : (object : Objects) (count : ℕ → ℕ) (chain : Chain) (last_name new_name : Name) (old value : ℕ) → IsChain object count chain → CanLink object chain last_name new_name old value → (asked_name : Name) (index : ℕ) → chain.place asked_name ≡ Some index
    → IsLinked object chain.place chain.numbers chain.last asked_name index
    → IsLinked (linking object last_name new_name old) (with_last chain new_name value).place (with_last chain new_name value).numbers (suc chain.last) asked_name index
links_on object count given_chain name linked_name old value chain can_link asked_name index index_found (inner next_name node_value has_cell next_at number) =
    inner next_name node_value (but_there object name _ asked_name _ (next_apart object asked_name name next_name node_value old has_cell can_link.whole) has_cell) (still_placed given_chain linked_name value next_name (suc index) can_link.none next_at) (kept_number given_chain.numbers _ index node_value number)
links_on object count given_chain name linked_name old value chain can_link asked_name index index_found (end end_value has_cell at_last number) =
    let placed_last : given_chain.place asked_name ≡ Some given_chain.last = index_found ∙ ap Some at_last in
    let same_names : asked_name ≡ name = chain.once asked_name name given_chain.last placed_last can_link.at in
    let number_kept : slice_get given_chain.numbers index ≡ Some old = ap (slice_get given_chain.numbers) at_last ∙ can_link.number in
    inner linked_name old (ap (linking object name linked_name old) same_names ∙ but_here object name _) (now_placed given_chain linked_name value ∙ ap (λ place. Some (suc place)) (sym at_last)) (kept_number given_chain.numbers _ index old number_kept)

linked_new : (object : Objects) (count : ℕ → ℕ) (chain : Chain) (last_name new_name : Name) (old value : ℕ) → IsChain object count chain → CanLink object chain last_name new_name old value → (asked_name : Name) (index : ℕ) → asked_name ≡ new_name → index ≡ suc chain.last
    → IsLinked (linking object last_name new_name old) (with_last chain new_name value).place (with_last chain new_name value).numbers (suc chain.last) asked_name index
linked_new object count given_chain name linked_name old value chain can_link asked_name index same_names at_last =
    let names_differ : linked_name ≢ name = λ names_equal. places_apart given_chain name linked_name given_chain.last can_link.at can_link.none (sym names_equal) in
    end value (ap (linking object name linked_name old) same_names ∙ but_there object name _ linked_name _ names_differ can_link.fresh) at_last (last_number given_chain.numbers index value (chain.size ∙ sym at_last))

pub link_chain : (object : Objects) (count : ℕ → ℕ) (chain : Chain) (name new_name : Name) (old value : ℕ) → IsChain object count chain → CanLink object chain name new_name old value → IsChain (linking object name new_name old) count (with_last chain new_name value)
link_chain object count given_chain name new_name old value chain can_link = record {
  hub_is = but_there object name _ hub _ (apart_by_tag object hub name _ _ chain.hub_is can_link.whole (λ (same_size : 16 ≡ 1). omega (arith, same_size))) chain.hub_is;
  anchor_is = but_there object name _ anchor _ (apart_by_tag object anchor name _ _ chain.anchor_is can_link.whole (λ (same_size : 2 ≡ 1). omega (arith, same_size))) chain.anchor_is;
  front_at = still_placed given_chain new_name value given_chain.front given_chain.head can_link.none chain.front_at;
  back_at = still_placed given_chain new_name value given_chain.back given_chain.tail can_link.none chain.back_at;
  order = chain.order;
  size = length-append given_chain.numbers (value ∷ []) ∙ omega (arith, chain.size);
  within = λ any_name node_place has_place. elim (was_placed given_chain new_name value any_name node_place has_place) [ inl new ↦ omega (arith, new.1) | inr old ↦ let node_within = chain.within any_name node_place old in omega (arith, node_within) ];
  once = λ any_name other_name node_place name_placed other_placed. one_name any_name other_name node_place (was_placed given_chain new_name value any_name node_place name_placed) (was_placed given_chain new_name value other_name node_place other_placed);
  linked = λ any_name index has_place. elim (was_placed given_chain new_name value any_name index has_place) [
    | inl new ↦ linked_new object count given_chain name new_name old value chain can_link any_name index new.0 new.1
    | inr placed_before ↦ links_on object count given_chain name new_name old value chain can_link any_name index placed_before (chain.linked any_name index placed_before)
  ];
  made = made_but object count name _ _ chain.made can_link.whole;
}
  where
    one_name : (first_name second_name : Name) (place : ℕ) → ((first_name ≡ new_name) × (place ≡ suc given_chain.last)) ⊎ (given_chain.place first_name ≡ Some place) → ((second_name ≡ new_name) × (place ≡ suc given_chain.last)) ⊎ (given_chain.place second_name ≡ Some place) → first_name ≡ second_name
    one_name first_name second_name place (inl first_placed) (inl second_placed) = first_placed.0 ∙ sym second_placed.0
    one_name first_name second_name place (inl first_placed) (inr second_placed) = let place_within = chain.within second_name place second_placed in absurd (omega (arith, place_within, first_placed.1))
    one_name first_name second_name place (inr first_placed) (inl second_placed) = let place_within = chain.within first_name place first_placed in absurd (omega (arith, place_within, second_placed.1))
    one_name first_name second_name place (inr first_placed) (inr second_placed) = chain.once first_name second_name place first_placed second_placed

pub link_rely : (user : ℕ) (object : Objects) (count : ℕ → ℕ) (chain : Chain) (name new_name : Name) (old value : ℕ) → IsChain object count chain → CanLink object chain name new_name old value → new_name.thread ≢ user → Rely user object chain (linking object name new_name old) (with_last chain new_name value)
link_rely user object count given_chain name new_name old value chain can_link other_user = record {
  places = λ asked_name place has_place. still_placed given_chain new_name value asked_name place can_link.none has_place;
  numbers = λ index value was_there. kept_number given_chain.numbers _ index value was_there;
  inner = λ new_name next_name place held_value has_place was_there. but_there object name _ new_name _ (next_apart object new_name name next_name held_value old was_there can_link.whole) was_there;
  own = λ asked_name held_value name_mine no_place was_there. but_there object name _ asked_name _ (λ same_names. places_apart given_chain name asked_name given_chain.last can_link.at no_place (sym same_names)) was_there;
  apart = λ asked_name held_value name_mine no_place was_there. by_name (λ place_found. place_found ≡ None) asked_name new_name (Some (suc given_chain.last)) (given_chain.place asked_name) (λ same_names. absurd (other_user (ap (λ (name : Name). name.thread) (sym same_names) ∙ name_mine))) (λ _. no_place);
  heads = omega arith;
  tails = omega arith;
}

-- where the new node is
pub link_edge : (object : Objects) (chain : Chain) (name new_name : Name) (old value : ℕ) → CanLink object chain name new_name old value
    → ((with_last chain new_name value).place name ≡ Some chain.last) × ((with_last chain new_name value).place new_name ≡ Some (suc chain.last)) × (linking object name new_name old name ≡ Some (cell (Some new_name) old))
link_edge object chain name new_name old value can_link = (still_placed chain new_name value name chain.last can_link.none can_link.at, now_placed chain new_name value, but_here object name _)
