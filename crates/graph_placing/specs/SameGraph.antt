-- When two graphs are the same up to the names of their objects.
use Rattle.std.specs.Prelude.{ℕ, ◌≡◌, ◌≤◌, ◌<◌, map, Some}
use Rattle.shen_graph.specs.declared.name.Name.{Name}
use Rattle.shen_graph.specs.Graph.{Graph, Object, hub, named}
use Rattle.shen_graph.specs.Reach.{IsReachable, IsBefore}
use Rattle.graph_placing.specs.NamesAnew.{renamed}

-- an object whose references are renamed
abbrev pub object_renamed : (Name → Name) → Object → Object
object_renamed f object = record { refs = map (renamed f) object.refs; nums = object.nums }

-- A graph has the objects that can be reached in another, under new names, one to one, and no other; and the same roots, up to these names.
-- Each new name keeps its thread and its place in the order; a thread has made as many objects as have names of it, which are counted
-- from 1 without a gap; and the hub keeps its name.
pub record IsSameAnew (f : Name → Name) (threads : ℕ) (old new : Graph) : Type 0 where
  pub roots : (thread root : ℕ) → 1 ≤ thread → thread ≤ threads → root < 16 → new.root thread root ≡ renamed f (old.root thread root)
  pub objects : (name : Name) → IsReachable old name → new.object (f name) ≡ Some (object_renamed f (named old (Some name)))
  pub no_others : (name : Name) (object : Object) → new.object name ≡ Some object → (other_name : Name) × IsReachable old other_name × (f other_name ≡ name)
  pub one_to_one : (name other_name : Name) → IsReachable old name → IsReachable old other_name → f name ≡ f other_name → name ≡ other_name
  pub thread : (name : Name) → (f name).thread ≡ name.thread
  pub order : (name other_name : Name) → IsReachable old name → IsReachable old other_name → IsBefore name other_name → IsBefore (f name) (f other_name)
  pub counted : (name : Name) → IsReachable old name → 1 ≤ name.thread → (1 ≤ (f name).count) × ((f name).count ≤ new.count name.thread)
  pub no_gap : (thread count : ℕ) → 1 ≤ thread → thread ≤ threads → 1 ≤ count → count ≤ new.count thread
      → (name : Name) × IsReachable old name × (f name ≡ record { thread = thread; count = count })
  pub hub_stays : IsReachable old hub → f hub ≡ hub
