-- What finishing a cycle in one pause leaves: the graph, who asked answered, and the collection set free, but for pinned regions.
use Rattle.std.specs.Prelude.{ℕ, ◌≡◌, ◌<◌, true, false, Option}
use Rattle.heap_words.specs.declared.config.Config.{Config}
use Rattle.heap_words.specs.Words.{Word, Cset}
use Rattle.regions.specs.Sets.{IsIn}
use Rattle.shen_graph.specs.Graph.{Graph}
use Rattle.heap_world.specs.World.{Plot}
use Rattle.heap_world.specs.Asking.{Asking, asks, given}
use Rattle.heap_world.specs.Represents.{Represents}
use Rattle.heap_world.specs.Change.{IsPaused}
use Rattle.image_graph.specs.LetGo.{let_go}
use Rattle.image_graph.specs.Full.{full}
use Rattle.image_graph.specs.Pinned.{is_pinned}
use Rattle.image_graph.specs.Promised.{Promises}
use Rattle.image_graph.specs.Holds.{HoldsBy, AreSized}
use Rattle.image_graph.specs.Buffers.{HasNoMoreSeats}
use Rattle.cycle_pauses.specs.Updating.Freed.{IsFreed}
use Rattle.cycle_words.specs.Finishing.Copies.{is_room_for_all}
use Rattle.cycle_words.specs.Finishing.Finish.{cycle_finished, finished, is_whole, CanFinish}

-- The pause did what it owes, and whoever asks is given what it asks for.
pub record IsWholePause (config : Config) (before after : Word → ℕ) (graph : Graph) (asking : ℕ → Asking) : Type 0 where
  pub paused : IsPaused config before after graph asking
  pub given_all : (mutator refs nums : ℕ) → mutator < config.mutators → asking mutator ≡ asks refs nums → paused.asked_then mutator ≡ given refs nums

-- Where each object that was left found room, and each request, finishing the cycle is such a pause, in whatever phase.
abbrev pub WholeIsPause : Type 0
WholeIsPause = (config : Config) (memory : Word → ℕ) (graph : Graph) (asking : ℕ → Asking) → Represents config memory graph asking → HasNoMoreSeats config memory → is_whole config memory ≡ true
    → IsWholePause config memory (finished config memory) graph asking

-- Else a full collection of the words that it leaves does what the pause owes: they hold the same graph still, by pieces each of which
-- says how many words it has.
pub record ShortHolds (config : Config) (memory : Word → ℕ) (graph : Graph) (asking : ℕ → Asking) : Type 0 where
  pub holds : (block : Plot) × (owner : ℕ → Option ℕ) × (promises : Promises) × HoldsBy config (finished config memory) block owner promises graph × AreSized (finished config memory) block
  pub paused : IsPaused config memory (full config (finished config memory)) graph asking

abbrev pub ShortIsPause : Type 0
ShortIsPause = (config : Config) (memory : Word → ℕ) (graph : Graph) (asking : ℕ → Asking) → Represents config memory graph asking → HasNoMoreSeats config memory → is_whole config memory ≡ false
    → ShortHolds config memory graph asking

-- Before requests are served, and once buffers were let go, each region of the collection set that is not pinned is free, where each object that
-- was left found room.
abbrev pub SetIsFree : Type 0
SetIsFree = (config : Config) (memory : Word → ℕ) (graph : Graph) (asking : ℕ → Asking) → Represents config memory graph asking → is_room_for_all config (let_go config memory) ≡ true
    → (region : ℕ) → region < config.regions → IsIn (memory Cset) region → is_pinned config memory region ≡ false → IsFreed (cycle_finished config (let_go config memory)) region

-- Words that represent a graph are such that a cycle can be finished.
abbrev pub RepresentingCanFinish : Type 0
RepresentingCanFinish = (config : Config) (memory : Word → ℕ) (graph : Graph) (asking : ℕ → Asking) → Represents config memory graph asking → HasNoMoreSeats config memory → CanFinish config memory
