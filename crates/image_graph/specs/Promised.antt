-- Objects that threads were given and have not taken yet: each is held by an answer, and is no object of the program's graph.
use Rattle.std.specs.Prelude.{ℕ, ◌≡◌, ◌+◌, ◌-◌, ◌/◌, ◌<◌, ◌≤◌, ◌==◌, ◌&&◌, Bool, true, nat_le, nat_lt, if◌then◌else◌, Some, None, List, sum_by}
use Rattle.heap_words.specs.declared.config.Config.{Config}
use Rattle.regions.specs.Tops.{sum_below}
use Rattle.regions.specs.Places.{open_kept}
use Rattle.shen_graph.specs.declared.name.Name.{Name}
use Rattle.shen_graph.specs.declared.pin.Pinned.{Pinned}
use Rattle.shen_graph.specs.Crowd.{Held}
use Rattle.shen_graph.specs.Graph.{Reference, Graph, named, blank, same_reference}
use Rattle.shen_graph.specs.Reach.{IsReachable, IsReach, size}
use Rattle.shen_graph.specs.Step.{name_in}
use Rattle.heap_world.specs.World.{Plot}
use Rattle.image_graph.specs.Held.{IsLedTo, IsAmong, AreHeldKept, HoldsGraph, IsCopy}

-- for each thread, counted from 1, the reference that its answer stands for, and the sizes of that object
pub record Promises : Type 0 where
  pub ref : ℕ → Reference
  pub refs : ℕ → ℕ
  pub nums : ℕ → ℕ

-- The graph with the promised objects: they are blank, and each thread has more roots, the promised object as its seventeenth, and what its
-- pin slots hold as the four behind. The name of a promised object says which thread it is of.
abbrev pub with_promised : Graph → Promises → Graph
with_promised graph promises = record graph {
  object = λ name. if same_reference (promises.ref name.thread) (Some name) then Some (blank (promises.refs name.thread) (promises.nums name.thread)) else graph.object name;
  root = λ thread index. if index == 16 then promises.ref thread else (if nat_le 17 index && nat_lt index 21 then name_in (graph.pin thread (index - 17)) else graph.root thread index);
  pin = λ t slot. None;
}

-- a thread is promised an object of its own name, which the graph does not reach
pub record AreFresh (threads : ℕ) (graph : Graph) (promises : Promises) : Type 0 where
  pub own : (t : ℕ) (name : Name) → promises.ref t ≡ Some name → name.thread ≡ t
  pub few : (t : ℕ) (name : Name) → promises.ref t ≡ Some name → t ≤ threads
  pub fresh : (t : ℕ) (name : Name) → promises.ref t ≡ Some name → IsReachable graph name → ⊥

-- so many words, if there is something
abbrev pub words_if : Reference → ℕ → ℕ
words_if None words = 0
words_if (Some name) words = words

-- the words of what a thread is promised
abbrev pub promised_words : Promises → ℕ → ℕ
promised_words promises thread = words_if (promises.ref thread) (3 + promises.refs thread + promises.nums thread)

-- What is kept has no more words than what the graph reaches, ..
abbrev pub KeptAreLive : Type 0
KeptAreLive = (config : Config) (top heap : ℕ → ℕ) (block : Plot) (now kept : ℕ → ℕ) (roots : List ℕ) (graph : Graph) (names : List Name)
    → HoldsGraph config top heap block now (IsAmong roots) graph → AreHeldKept heap (IsLedTo now heap (IsAmong roots)) kept → IsReach graph names
    → (end : ℕ) → sum_below kept end ≤ sum_by (λ name. size (named graph (Some name))) names

-- .. and where objects are promised, no more than that and what is promised.
abbrev pub KeptAreLiveOrPromised : Type 0
KeptAreLiveOrPromised = (config : Config) (top heap : ℕ → ℕ) (block : Plot) (now kept : ℕ → ℕ) (roots : List ℕ) (graph : Graph) (promises : Promises) (names : List Name)
    → HoldsGraph config top heap block now (IsAmong roots) (with_promised graph promises) → AreHeldKept heap (IsLedTo now heap (IsAmong roots)) kept
    → AreFresh config.mutators graph promises → IsReach graph names
    → (end : ℕ) → sum_below kept end ≤ sum_by (λ name. size (named graph (Some name))) names + sum_below (promised_words promises) (config.mutators + 1)

-- Where objects are pinned, each of these is kept in a region that is shut: so what is kept in open regions has no more words than what the
-- graph reaches and is not pinned, and what is promised.
abbrev pub OpenKeptAreFewer : Type 0
OpenKeptAreFewer = (config : Config) (shut : ℕ → Bool) (top heap : ℕ → ℕ) (block : Plot) (now kept : ℕ → ℕ) (roots : List ℕ) (graph : Graph) (promises : Promises) (names : List Name) (held : ℕ)
    → HoldsGraph config top heap block now (IsAmong roots) (with_promised graph promises) → AreHeldKept heap (IsLedTo now heap (IsAmong roots)) kept
    → AreFresh config.mutators graph promises → IsReach graph names → Held graph held
    → ((thread slot : ℕ) (pinned : Pinned) → graph.pin thread slot ≡ Some pinned → (0 < kept pinned.place) × (shut (pinned.place / config.region_words) ≡ true) × IsCopy block pinned.place pinned.name)
    → (end : ℕ) → sum_below (open_kept config.region_words shut kept) end
    ≤ sum_by (λ name. size (named graph (Some name))) names - held + sum_below (promised_words promises) (config.mutators + 1)
