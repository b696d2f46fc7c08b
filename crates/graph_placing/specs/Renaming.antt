-- What it means that names are counted anew.
use Rattle.std.specs.Prelude.{ℕ, ◌≡◌, ◌≤◌, ◌<◌, ◌+◌, List, length, Contains, slice_index}
use Rattle.shen_graph.specs.declared.name.Name.{Name}
use Rattle.shen_graph.specs.Graph.{hub}
use Rattle.shen_graph.specs.Reach.{IsBefore}
use Rattle.graph_placing.specs.NamesAnew.{names_by}

-- The names are those of the hub and of objects that some of these threads made, which are counted from 1.
pub record AreOfThreads (threads : ℕ) (names : List Name) : Type 0 where
  pub within : (name : Name) → Contains names name → name.thread ≤ threads
  pub hub_alone : (name : Name) → Contains names name → name.thread ≡ 0 → name ≡ hub

-- The new names are one to one. Each keeps its thread and its place in the order; those of a thread are counted from 1 without a gap.
pub record IsRenaming (names : List Name) (f : Name → Name) : Type 0 where
  pub thread : (name : Name) → (f name).thread ≡ name.thread
  pub one_to_one : (name other_name : Name) → Contains names name → Contains names other_name → f name ≡ f other_name → name ≡ other_name
  pub order : (name other_name : Name) → Contains names name → Contains names other_name → IsBefore name other_name → IsBefore (f name) (f other_name)
  pub counted : (name : Name) → Contains names name → (1 ≤ (f name).count) × ((f name).count ≤ names_by names name.thread)
  pub no_gap : (thread count : ℕ) → 1 ≤ count → count ≤ names_by names thread → (name : Name) × Contains names name × (f name ≡ record { thread = thread; count = count })

-- for each of so many threads, that of thread 1 first, how many of the names are its own
pub record AreCountsOf (names : List Name) (threads : ℕ) (counts : List ℕ) : Type 0 where
  pub long : length counts ≡ threads
  pub each : (index : ℕ) → index < threads → slice_index counts index ≡ names_by names (index + 1)
