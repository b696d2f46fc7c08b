-- What the kinds of steps make of the chain, and that others may rely on it.
use Rattle.std.proofs.Common.{ℕ, ◌≡◌, ◌≤◌, ◌⊎◌, true, false, Option, Some, None, length, get_or, refl, sym, ap, ◌∙◌, inl, inr, arith}
use Rattle.std.specs.Prelude.{◌≢◌, Bool, if◌then◌else◌}
use Rattle.std.proofs.lemmas.Bool.{false≢true}
use Rattle.shen_graph.specs.declared.name.Name.{Name}
use Rattle.shen_graph.specs.Graph.{Object, Reference, hub, same_name}
use Rattle.shen_graph.proofs.PlainLemmas.{same_name-true, same_name-itself}
use Rattle.managed_queue.proofs.Facts.{Objects, anchor, cell, ends, Chain, IsLinked, IsChain, AreMade, Rely}
use Rattle.managed_queue.proofs.Facts.IsLinked.{inner, end}

-- one object is another
abbrev pub but : Objects → Name → Object → Objects
but object name new_object = λ asked_name. if same_name asked_name name then Some new_object else object asked_name

pub same_or_not : (name other_name : Name) → (name ≡ other_name) ⊎ (name ≢ other_name)
same_or_not name other_name = at (same_name name other_name) refl
  where
    at : (holds : Bool) → same_name name other_name ≡ holds → (name ≡ other_name) ⊎ (name ≢ other_name)
    at true name_tested = inl (same_name-true name other_name name_tested)
    at false name_tested = inr (λ names_equal. false≢true (sym name_tested ∙ ap (λ x. same_name x other_name) names_equal ∙ same_name-itself other_name))

-- by which name it is
pub by_name : {A : Type 0} (P : A → Type 0) (name other_name : Name) (same_value other_value : A) → (name ≡ other_name → P same_value) → (name ≢ other_name → P other_value) → P (if same_name name other_name then same_value else other_value)
by_name {A} P name compared_name same_value other_value if_same if_other = at (same_name name compared_name) refl
  where
    at : (holds : Bool) → same_name name compared_name ≡ holds → P (if holds then same_value else other_value)
    at true name_tested = if_same (same_name-true name compared_name name_tested)
    at false name_tested = if_other (λ names_equal. false≢true (sym name_tested ∙ ap (λ x. same_name x compared_name) names_equal ∙ same_name-itself compared_name))

pub but_here : (object : Objects) (name : Name) (new_object : Object) → but object name new_object name ≡ Some new_object
but_here object name new_object = ap (λ is_same. if is_same then Some new_object else object name) (same_name-itself name)

pub but_there : (object : Objects) (name : Name) (new_object : Object) (other_name : Name) (found : Option Object) → other_name ≢ name → object other_name ≡ found → but object name new_object other_name ≡ found
but_there object name new_object other_name found names_differ object_there = by_name (λ y. y ≡ found) other_name name (Some new_object) (object other_name) (λ names_equal. absurd (names_differ names_equal)) (λ _. object_there)

-- how many fields: nodes, the anchor and the hub are apart by it
abbrev pub tag : Option Object → ℕ
tag None = 0
tag (Some object) = length object.refs

pub apart_by_tag : (object : Objects) (name other_name : Name) (first_object second_object : Object) → object name ≡ Some first_object → object other_name ≡ Some second_object → length first_object.refs ≢ length second_object.refs → name ≢ other_name
apart_by_tag object name other_name first_object second_object has_first has_second differ same_names = differ (ap tag (sym has_first) ∙ ap (λ name. tag (object name)) same_names ∙ ap tag has_second)

-- what the first field names
abbrev pub next_in : Option Object → Reference
next_in None = None
next_in (Some object) = get_or object.refs 0 None

pub next_apart : (object : Objects) (name other_name next_name : Name) (first_value second_value : ℕ) → object name ≡ Some (cell (Some next_name) first_value) → object other_name ≡ Some (cell None second_value) → name ≢ other_name
next_apart object name other_name next_name first_value second_value has_first has_second same_names = let never : Some next_name ≡ None = ap next_in (sym has_first) ∙ ap (λ name. next_in (object name)) same_names ∙ ap next_in has_second in absurd cc

-- the same place or none
pub places_apart : (chain : Chain) (name other_name : Name) (place : ℕ) → chain.place name ≡ Some place → chain.place other_name ≡ None → name ≢ other_name
places_apart chain name other_name place has_place no_place same_names = let never : Some place ≡ None = sym has_place ∙ ap chain.place same_names ∙ no_place in absurd cc

pub same_place : (chain : Chain) (name other_name : Name) (first_place second_place : ℕ) → chain.place name ≡ Some first_place → chain.place other_name ≡ Some second_place → name ≡ other_name → first_place ≡ second_place
same_place chain name other_name first_place second_place m_at n_at same_names = let places_found : Some first_place ≡ Some second_place = sym m_at ∙ ap chain.place same_names ∙ n_at in cc

-- nothing changes
pub stays : (user : ℕ) (object : Objects) (chain : Chain) → Rely user object chain object chain
stays user object chain = record {
  places = λ name place was_there. was_there;
  numbers = λ place value was_there. was_there;
  inner = λ name next_name place value has_place was_there. was_there;
  own = λ name value mine no_place was_there. was_there;
  apart = λ name value mine no_place was_there. no_place;
  heads = omega arith;
  tails = omega arith;
}

-- an object off the chain is made or filled

linked_but : (object : Objects) (chain : Chain) (name : Name) (new_object : Object) (other_name : Name) (index : ℕ) → other_name ≢ name → IsLinked object chain.place chain.numbers chain.last other_name index → IsLinked (but object name new_object) chain.place chain.numbers chain.last other_name index
linked_but object chain name new_object other_name index names_differ (inner next_name value has_cell at_place number) = inner next_name value (but_there object name new_object other_name _ names_differ has_cell) at_place number
linked_but object chain name new_object other_name index names_differ (end value has_cell at_place number) = end value (but_there object name new_object other_name _ names_differ has_cell) at_place number

pub chain_but : (object : Objects) (count new_count : ℕ → ℕ) (chain : Chain) (name : Name) (new_object : Object) → IsChain object count chain → chain.place name ≡ None → hub ≢ name → anchor ≢ name → AreMade (but object name new_object) new_count
    → IsChain (but object name new_object) new_count chain
chain_but object count new_count given_chain name new_object chain no_place not_hub not_anchor names_made = record {
  hub_is = but_there object name new_object hub _ not_hub chain.hub_is;
  anchor_is = but_there object name new_object anchor _ not_anchor chain.anchor_is;
  front_at = chain.front_at;
  back_at = chain.back_at;
  order = chain.order;
  size = chain.size;
  within = chain.within;
  once = chain.once;
  linked = λ linked_name index has_place. linked_but object given_chain name new_object linked_name index (places_apart given_chain linked_name name index has_place no_place) (chain.linked linked_name index has_place);
  made = names_made;
}

pub rely_but : (user : ℕ) (object : Objects) (chain : Chain) (name : Name) (new_object : Object) → chain.place name ≡ None → name.thread ≢ user → Rely user object chain (but object name new_object) chain
rely_but user object chain name new_object no_place other_user = record {
  places = λ any_name place was_there. was_there;
  numbers = λ place value was_there. was_there;
  inner = λ linked_name next_name place value has_place was_there. but_there object name new_object linked_name _ (places_apart chain linked_name name place has_place no_place) was_there;
  own = λ any_name value mine unplaced was_there. but_there object name new_object any_name _ (λ names_equal. other_user (ap (λ (name : Name). name.thread) (sym names_equal) ∙ mine)) was_there;
  apart = λ any_name value mine unplaced was_there. unplaced;
  heads = omega arith;
  tails = omega arith;
}

-- an object is another, and all was made before
pub made_but : (object : Objects) (count : ℕ → ℕ) (name : Name) (new_object old : Object) → AreMade object count → object name ≡ Some old → AreMade (but object name new_object) count
made_but object count name new_object old names_made object_there asked_name made_object = by_name (λ held_object. held_object ≡ Some made_object → (asked_name ≡ hub) ⊎ (asked_name.count ≤ count asked_name.thread)) asked_name name (Some new_object) (object asked_name) (λ names_equal _. names_made asked_name old (ap object names_equal ∙ object_there)) (λ _ object_here. names_made asked_name made_object object_here)

-- the anchor names other nodes

abbrev pub with_ends : Chain → ℕ → ℕ → Name → Name → Chain
with_ends chain head tail front back = record chain { head = head; tail = tail; front = front; back = back }

pub ends_chain : (object : Objects) (count : ℕ → ℕ) (chain : Chain) (head tail : ℕ) (front back : Name) → IsChain object count chain → chain.place front ≡ Some head → chain.place back ≡ Some tail → head ≤ tail
    → IsChain (but object anchor (ends (Some front) (Some back))) count (with_ends chain head tail front back)
ends_chain object count given_chain head tail front back chain front_at back_at ends_ordered = record {
  hub_is = but_there object anchor (ends (Some front) (Some back)) hub _ (λ names_equal. let never : 0 ≡ 1 = ap (λ (name : Name). name.thread) names_equal in omega (arith, never)) chain.hub_is;
  anchor_is = but_here object anchor (ends (Some front) (Some back));
  front_at = front_at;
  back_at = back_at;
  order = ends_ordered;
  size = chain.size;
  within = chain.within;
  once = chain.once;
  linked = λ name index has_place. linked_but object given_chain anchor (ends (Some front) (Some back)) name index (node_apart name index (chain.linked name index has_place)) (chain.linked name index has_place);
  made = made_but object count anchor (ends (Some front) (Some back)) _ chain.made chain.anchor_is;
}
  where
    node_apart : (name : Name) (index : ℕ) → IsLinked object given_chain.place given_chain.numbers given_chain.last name index → name ≢ anchor
    node_apart name index (inner next_name value has_cell at_place number) = apart_by_tag object name anchor _ _ has_cell chain.anchor_is (λ (same_length : 1 ≡ 2). omega (arith, same_length))
    node_apart name index (end value has_cell at_place number) = apart_by_tag object name anchor _ _ has_cell chain.anchor_is (λ (same_length : 1 ≡ 2). omega (arith, same_length))

pub ends_rely : (user : ℕ) (object : Objects) (count : ℕ → ℕ) (chain : Chain) (head tail : ℕ) (front back : Name) → IsChain object count chain → chain.head ≤ head → chain.tail ≤ tail
    → Rely user object chain (but object anchor (ends (Some front) (Some back))) (with_ends chain head tail front back)
ends_rely user object count given_chain head tail front back chain heads tails = record {
  places = λ any_name place was_there. was_there;
  numbers = λ place value was_there. was_there;
  inner = λ name next_name place value has_place was_there. but_there object anchor (ends (Some front) (Some back)) name _ (apart_by_tag object name anchor _ _ was_there chain.anchor_is (λ (same_length : 1 ≡ 2). omega (arith, same_length))) was_there;
  own = λ name value mine no_place was_there. but_there object anchor (ends (Some front) (Some back)) name _ (apart_by_tag object name anchor _ _ was_there chain.anchor_is (λ (same_length : 1 ≡ 2). omega (arith, same_length))) was_there;
  apart = λ any_name value mine no_place was_there. no_place;
  heads = heads;
  tails = tails;
}
