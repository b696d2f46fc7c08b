-- What holds of the chain of nodes, and what each user knows at its spot.
use Rattle.std.proofs.Common.{ℕ, zero, suc, ◌≡◌, ◌≤◌, ◌⊎◌, true, false, List, [], ◌∷◌, length, Option, Some, None, slice_get, slice_set, replicate}
use Rattle.std.specs.Prelude.{◌≢◌}
use Rattle.shen_graph.specs.declared.name.Name.{Name}
use Rattle.shen_graph.specs.Graph.{Object, Reference, hub}
use Rattle.managed_queue.specs.declared.spot.Spot.{Spot}
use Rattle.managed_queue.specs.declared.spot.Spot.TheVariants.{Joins, Rests, Fills, Looks, Follows, Links, Helps, Swings, Turns, TookHead, TookTail, Compares, Pushes, Reads, Unlinks}

abbrev pub Objects : Type 0
Objects = Name → Option Object

-- the anchor, and the first node: what thread 1 makes first
abbrev pub anchor : Name
anchor = record { thread = 1; count = 1 }

abbrev pub first : Name
first = record { thread = 1; count = 2 }

-- a node, the anchor, the hub that shows it

abbrev pub cell : Reference → ℕ → Object
cell next value = record { refs = next ∷ []; nums = value ∷ [] }

abbrev pub ends : Reference → Reference → Object
ends front referrer = record { refs = front ∷ referrer ∷ []; nums = [] }

abbrev pub shown_hub : Object
shown_hub = record { refs = slice_set (replicate 16 None) 0 (Some anchor); nums = [] }

-- Which nodes were ever linked and where, with their numbers in order; the places of head, tail and the last node; what the
-- anchor names. A name has one place for ever, so a place stands for a node where names would be compared.
pub record Chain : Type 0 where
  pub place : Name → Option ℕ
  pub numbers : List ℕ
  pub head : ℕ
  pub tail : ℕ
  pub last : ℕ
  pub front : Name
  pub back : Name

-- A node at a place: the next is at the next place, or it is the last.
pub data IsLinked (object : Objects) (place : Name → Option ℕ) (numbers : List ℕ) (last : ℕ) (name : Name) (index : ℕ) : Type 0 where
  inner : (next : Name) (value : ℕ) → object name ≡ Some (cell (Some next) value) → place next ≡ Some (suc index) → slice_get numbers index ≡ Some value
      → IsLinked object place numbers last name index
  end : (value : ℕ) → object name ≡ Some (cell None value) → index ≡ last → slice_get numbers index ≡ Some value → IsLinked object place numbers last name index

-- each name that has an object was given out
abbrev pub AreMade : Objects → (ℕ → ℕ) → Type 0
AreMade object count = (name : Name) (found_object : Object) → object name ≡ Some found_object → (name ≡ hub) ⊎ (name.count ≤ count name.thread)

pub record IsChain (object : Objects) (count : ℕ → ℕ) (chain : Chain) : Type 0 where
  pub hub_is : object hub ≡ Some shown_hub
  pub anchor_is : object anchor ≡ Some (ends (Some chain.front) (Some chain.back))
  pub front_at : chain.place chain.front ≡ Some chain.head
  pub back_at : chain.place chain.back ≡ Some chain.tail
  pub order : chain.head ≤ chain.tail
  pub size : length chain.numbers ≡ suc chain.last
  pub within : (name : Name) (i : ℕ) → chain.place name ≡ Some i → i ≤ chain.last
  pub once : (other_name name : Name) (i : ℕ) → chain.place other_name ≡ Some i → chain.place name ≡ Some i → other_name ≡ name
  pub linked : (name : Name) (index : ℕ) → chain.place name ≡ Some index → IsLinked object chain.place chain.numbers chain.last name index
  pub made : AreMade object count

-- What a user knows. Its roots are a function.

-- it has joined
pub record IsUser (t : ℕ) (root : ℕ → Reference) : Type 0 where
  pub some : t ≢ zero
  pub anchor_root : root 1 ≡ Some anchor
  pub null_root : root 7 ≡ None

-- it has not joined: it may have no roots at all
pub record IsJoining (t : ℕ) (root : ℕ → Reference) : Type 0 where
  pub hub_root : (root 0 ≡ None) ⊎ ((root 0 ≡ Some hub) × (t ≢ zero))
  pub null_root : root 7 ≡ None

-- root 3 names a node of its own, that is not linked
pub record IsOwn (t : ℕ) (object : Objects) (chain : Chain) (reference : Reference) (value : ℕ) : Type 0 where
  pub name : Name
  pub is : reference ≡ Some name
  pub mine : name.thread ≡ t
  pub apart : chain.place name ≡ None
  pub whole : object name ≡ Some (cell None value)

-- a root names a node, up to a place
pub record IsAt (chain : Chain) (reference : Reference) (bound : ℕ) : Type 0 where
  pub name : Name
  pub index : ℕ
  pub is : reference ≡ Some name
  pub at : chain.place name ≡ Some index
  pub low : index ≤ bound

-- a root names a node, and another the next one
pub record IsEdge (object : Objects) (chain : Chain) (reference other_reference : Reference) : Type 0 where
  pub from : Name
  pub to : Name
  pub index : ℕ
  pub value : ℕ
  pub from_is : reference ≡ Some from
  pub to_is : other_reference ≡ Some to
  pub at : chain.place from ≡ Some index
  pub next_at : chain.place to ≡ Some (suc index)
  pub whole : object from ≡ Some (cell (Some to) value)

-- a root names a node up to the head, and another one up to the tail that is not before it
pub record IsPair (chain : Chain) (reference other_reference : Reference) : Type 0 where
  pub front : IsAt chain reference chain.head
  pub back : IsAt chain other_reference chain.tail
  pub order : front.index ≤ back.index

abbrev pub Facts : ℕ → Objects → Chain → (ℕ → Reference) → Spot → Type 0
Facts thread object chain root Joins = IsJoining thread root
Facts thread object chain root Rests = IsUser thread root
Facts thread object chain root Turns = IsUser thread root
Facts thread object chain root Fills = IsUser thread root × (value : ℕ) × IsOwn thread object chain (root 3) value
Facts thread object chain root (Looks value) = IsUser thread root × IsOwn thread object chain (root 3) value
Facts thread object chain root (Follows value) = IsUser thread root × IsOwn thread object chain (root 3) value × IsAt chain (root 4) chain.tail
Facts thread object chain root (Links value) = IsUser thread root × IsOwn thread object chain (root 3) value × IsAt chain (root 4) chain.tail
Facts thread object chain root (Helps value) = IsUser thread root × IsOwn thread object chain (root 3) value × IsEdge object chain (root 4) (root 5)
Facts thread object chain root (Swings value) = IsUser thread root × IsEdge object chain (root 4) (root 3)
Facts thread object chain root TookHead = IsUser thread root × IsAt chain (root 4) chain.head
Facts thread object chain root TookTail = IsUser thread root × IsPair chain (root 4) (root 5)
Facts thread object chain root (Compares true) = IsUser thread root × (root 4 ≡ root 5)
Facts thread object chain root (Compares false) = IsUser thread root × IsPair chain (root 4) (root 5) × IsEdge object chain (root 4) (root 6)
Facts thread object chain root Pushes = IsUser thread root × IsEdge object chain (root 5) (root 6)
Facts thread object chain root Reads = IsUser thread root × (edge : IsEdge object chain (root 4) (root 6)) × (suc edge.index ≤ chain.tail)
Facts thread object chain root (Unlinks value) = IsUser thread root × (edge : IsEdge object chain (root 4) (root 6)) × (suc edge.index ≤ chain.tail) × (slice_get chain.numbers (suc edge.index) ≡ Some value)
Facts thread object chain root _ = ⊥

-- What a user relies on while another makes a step.
pub record Rely (u : ℕ) (object : Objects) (chain : Chain) (new_object : Objects) (new_chain : Chain) : Type 0 where
  pub places : (name : Name) (i : ℕ) → chain.place name ≡ Some i → new_chain.place name ≡ Some i
  pub numbers : (i value : ℕ) → slice_get chain.numbers i ≡ Some value → slice_get new_chain.numbers i ≡ Some value
  pub inner : (name next : Name) (i value : ℕ) → chain.place name ≡ Some i → object name ≡ Some (cell (Some next) value) → new_object name ≡ Some (cell (Some next) value)
  pub own : (name : Name) (value : ℕ) → name.thread ≡ u → chain.place name ≡ None → object name ≡ Some (cell None value) → new_object name ≡ Some (cell None value)
  pub apart : (name : Name) (value : ℕ) → name.thread ≡ u → chain.place name ≡ None → object name ≡ Some (cell None value) → new_chain.place name ≡ None
  pub heads : chain.head ≤ new_chain.head
  pub tails : chain.tail ≤ new_chain.tail
