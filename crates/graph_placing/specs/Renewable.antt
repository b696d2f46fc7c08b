-- Graphs whose objects can be named anew.
use Rattle.std.specs.Prelude.{ℕ, ◌≡◌, ◌≤◌, ◌⊎◌, All, length, None, Some}
use Rattle.shen_graph.specs.declared.name.Name.{Name}
use Rattle.shen_graph.specs.Graph.{Graph, Object, Reference, hub}
use Rattle.shen_graph.specs.History.{Entry}
use Rattle.shen_graph.specs.Step.{name_in}
use Rattle.shen_graph.specs.Valid.{IsValid}

-- null, the hub, or the name of an object of one of so many threads
abbrev pub IsOfThreads : ℕ → Reference → Type 0
IsOfThreads threads None = Unit {0}
IsOfThreads threads (Some name) = (name ≡ hub) ⊎ ((1 ≤ name.thread) × (name.thread ≤ threads))

-- an object of few fields, whose references are so
pub record IsShortObject (threads : ℕ) (object : Object) : Type 0 where
  pub refs : All (IsOfThreads threads) object.refs
  pub few_refs : length object.refs ≤ 16
  pub few_nums : length object.nums ≤ 16

-- Each object has few fields, and what roots, references and pin slots name is the hub or was made by one of so many threads.
pub record IsRenewable (threads : ℕ) (graph : Graph) : Type 0 where
  pub root : (thread root : ℕ) → IsOfThreads threads (graph.root thread root)
  pub object : (name : Name) (o : Object) → graph.object name ≡ Some o → IsShortObject threads o
  pub pin : (thread slot : ℕ) → IsOfThreads threads (name_in (graph.pin thread slot))

-- an entry of one of so many threads, whose command is in range
pub record IsEntryOf (threads : ℕ) (entry : Entry) : Type 0 where
  pub from_first : 1 ≤ entry.thread
  pub to_last : entry.thread ≤ threads
  pub valid : IsValid entry.command
