-- What belongs to each thread of the workload: its roots, its objects, its field of the hub. The first object of a thread is
-- its box; the others are leaves, which hold no reference.
use Rattle.std.proofs.Common.{ℕ, ◌≡◌, ◌≤◌, List, [], length, get_or, Some, None, refl, ap, ◌∙◌, sym, subst}
use Rattle.std.specs.Prelude.{false, unwrap_or}
use Rattle.shen_graph.specs.declared.name.Name.{Name}
use Rattle.shen_graph.specs.Graph.{Graph, Object, Reference, named, hub, same_name}
use Rattle.shen_graph.specs.Reach.{size}
use Rattle.churn.specs.Script.{own_box}

abbrev pub IsThread : ℕ → Type 0
IsThread thread = (1 ≤ thread) × (thread ≤ 3)

-- the n-th object of a thread
abbrev pub own : ℕ → ℕ → Name
own thread count = record { thread = thread; count = count }

abbrev pub fields_of : Graph → Name → List Reference
fields_of graph name = (named graph (Some name)).refs

-- what a field holds; null where there is none
abbrev pub field_of : Graph → Name → ℕ → Reference
field_of graph name index = get_or (fields_of graph name) index None

-- null or an object of the thread
abbrev pub IsOf : ℕ → Reference → Type 0
IsOf thread None = Unit {0}
IsOf thread (Some name) = name.thread ≡ thread

-- null or the thread's box
abbrev pub IsBox : ℕ → Reference → Type 0
IsBox thread None = Unit {0}
IsBox thread (Some name) = (name.thread ≡ thread) × (name.count ≡ 1)

-- null or a leaf of the thread
abbrev pub IsLeaf : ℕ → Reference → Type 0
IsLeaf thread None = Unit {0}
IsLeaf thread (Some name) = (name.thread ≡ thread) × (2 ≤ name.count)

-- what that field of the hub may hold
abbrev pub IsLink : ℕ → Reference → Type 0
IsLink field None = Unit {0}
IsLink field (Some name) = (name.thread ≡ field) × (name.count ≡ 1) × IsThread field

-- what belongs to a thread is the same in two graphs
pub record Same (thread : ℕ) (graph other_graph : Graph) : Type 0 where
  pub root : (index : ℕ) → graph.root thread index ≡ other_graph.root thread index
  pub count : graph.count thread ≡ other_graph.count thread
  pub object : (n : ℕ) → graph.object (own thread n) ≡ other_graph.object (own thread n)
  pub link : field_of graph hub thread ≡ field_of other_graph hub thread

-- what a thread has is below the hub and its own, and is small
pub record IsTidyThread (graph : Graph) (thread : ℕ) : Type 0 where
  pub hub_root : graph.root thread 0 ≡ Some hub
  pub box_root : IsBox thread (graph.root thread own_box)
  pub leaf_root : (index : ℕ) → 2 ≤ index → IsLeaf thread (graph.root thread index)
  pub slots : (f : ℕ) → IsLeaf thread (field_of graph (own thread 1) f)
  pub slot_count : length (fields_of graph (own thread 1)) ≤ 16
  pub leaves : (n f : ℕ) → 2 ≤ n → field_of graph (own thread n) f ≡ None
  pub small : (n : ℕ) → size (named graph (Some (own thread n))) ≤ 19

-- the threads are apart, and what they have is small
pub record Tidy (graph : Graph) : Type 0 where
  pub hub_is : graph.object hub ≡ Some (named graph (Some hub))
  pub hub_size : length (fields_of graph hub) ≡ 16
  pub hub_nums : (named graph (Some hub)).nums ≡ []
  pub links : (f : ℕ) → IsLink f (field_of graph hub f)
  pub threads : (thread : ℕ) → IsThread thread → IsTidyThread graph thread
  pub high_root : (thread index : ℕ) → 5 ≤ index → graph.root thread index ≡ None
  pub no_root : (thread index : ℕ) → (IsThread thread → ⊥) → graph.root thread index ≡ None
  pub no_count : (thread : ℕ) → (IsThread thread → ⊥) → graph.count thread ≡ 0
  pub no_object : (name : Name) → (IsThread name.thread → ⊥) → same_name name hub ≡ false → graph.object name ≡ None
  pub no_pin : (thread slot : ℕ) → graph.pin thread slot ≡ None

-- what may be the n-th object of a thread
pub record Fits (t n : ℕ) (object : Object) : Type 0 where
  pub box : n ≡ 1 → (f : ℕ) → IsLeaf t (get_or object.refs f None)
  pub box_size : n ≡ 1 → length object.refs ≤ 16
  pub leaf : 2 ≤ n → (f : ℕ) → get_or object.refs f None ≡ None
  pub small : size object ≤ 19

pub Same-itself : (thread : ℕ) (graph : Graph) → Same thread graph graph
Same-itself thread graph = record { root = λ root_number. refl; count = refl; object = λ name. refl; link = refl }

pub Same-flip : {t : ℕ} {g h : Graph} → Same t g h → Same t h g
Same-flip same_thread = record { root = λ thread. sym (same_thread.root thread); count = sym same_thread.count; object = λ name. sym (same_thread.object name); link = sym same_thread.link }

pub Same-join : {t : ℕ} {g h k : Graph} → Same t g h → Same t h k → Same t g k
Same-join first_same second_same = record { root = λ thread. first_same.root thread ∙ second_same.root thread; count = first_same.count ∙ second_same.count; object = λ name. first_same.object name ∙ second_same.object name; link = first_same.link ∙ second_same.link }

pub box_of : (thread : ℕ) (reference : Reference) → IsBox thread reference → IsOf thread reference
box_of thread None is_box = tt
box_of thread (Some name) is_box = is_box.0

pub leaf_of : (thread : ℕ) (reference : Reference) → IsLeaf thread reference → IsOf thread reference
leaf_of thread None leaf = tt
leaf_of thread (Some name) leaf = leaf.0

pub name_of : (name : Name) (given_thread given_count : ℕ) → name.thread ≡ given_thread → name.count ≡ given_count → name ≡ own given_thread given_count
name_of name given_thread given_count same_thread count = λ point. record { thread = same_thread point; count = count point }

-- what a thread's references name is the same
pub named_same : (thread : ℕ) (graph other_graph : Graph) → Same thread graph other_graph → (reference : Reference) → IsOf thread reference → named graph reference ≡ named other_graph reference
named_same thread graph other_graph same_object None is_of = refl
named_same thread graph other_graph same_thread (Some name) is_of =
    let same_object : graph.object name ≡ other_graph.object name = subst (λ (number : ℕ). graph.object (own number name.count) ≡ other_graph.object (own number name.count)) (sym is_of) (same_thread.object name.count) in
    ap (λ found. unwrap_or found (record { refs = []; nums = [] })) same_object
