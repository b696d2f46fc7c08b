-- What the pauses that begin and end marking leave of the words.
use Rattle.std.specs.Prelude.{ℕ, ◌≡◌, ◌<◌, Option}
use Rattle.heap_words.specs.declared.config.Config.{Config}
use Rattle.heap_words.specs.Words.{Word, Phase}
use Rattle.heap_words.specs.Phases.{idle_phase, marking_phase}
use Rattle.shen_graph.specs.Graph.{Graph}
use Rattle.heap_world.specs.World.{Plot, Ghost}
use Rattle.heap_world.specs.Asking.{Asking, asks}
use Rattle.heap_world.specs.Represents.{Represents}
use Rattle.image_graph.specs.Promised.{Promises}
use Rattle.image_graph.specs.Holds.{HoldsBy}
use Rattle.cycle_words.specs.Marking.Init.{init_marked}
use Rattle.cycle_words.specs.Marking.Close.{closed}
use Rattle.cycle_words.specs.Marking.Final.{final_marked}
use Rattle.image_graph.specs.Buffers.{HasNoMoreSeats}
use Rattle.cycle_words.specs.Marking.WhileMarking.{IsMarking, IsMarkedThrough}
use Rattle.cycle_pauses.specs.Marking.MarkedOut.{IsMarkedOut}

-- Words that represent a graph while objects are marked hold it, and marking comes to each object that can be reached.
abbrev pub MarkingStands : Type 0
MarkingStands = (config : Config) (memory : Word → ℕ) (graph : Graph) (asking : ℕ → Asking) → Represents config memory graph asking → memory Phase ≡ marking_phase
    → (block : Plot) × (owner : ℕ → Option ℕ) × (promises : Promises) × HoldsBy config memory block owner promises graph × IsMarking config memory block

-- So once the marks are closed, each object that can be reached is marked or has been allocated since mark start.
abbrev pub ReachableAreMarked : Type 0
ReachableAreMarked = (config : Config) (memory : Word → ℕ) (graph : Graph) (asking : ℕ → Asking) → Represents config memory graph asking → memory Phase ≡ marking_phase
    → (block : Plot) × (owner : ℕ → Option ℕ) × (promises : Promises) × HoldsBy config (closed config memory) block owner promises graph × IsMarkedThrough config (closed config memory) block

-- no mutator asks for an object
abbrev pub NobodyAsks : Config → (ℕ → Asking) → Type 0
NobodyAsks config asking = (mutator refs nums : ℕ) → mutator < config.mutators → asking mutator ≡ asks refs nums → ⊥

-- Where nothing runs and nobody asks, the beginning of marking keeps the graph.
abbrev pub BeginningRepresents : Type 0
BeginningRepresents = (config : Config) (memory : Word → ℕ) (graph : Graph) (asking : ℕ → Asking) → Represents config memory graph asking → memory Phase ≡ idle_phase → NobodyAsks config asking
    → Represents config (init_marked config memory) graph asking

-- The end of marking keeps the graph too, and each object is marked then, or was allocated since mark start.
abbrev pub EndGives : Type 0
EndGives = (config : Config) (memory : Word → ℕ) (graph : Graph) (asking : ℕ → Asking) → Represents config memory graph asking → memory Phase ≡ marking_phase → HasNoMoreSeats config memory
    → (block : Plot) × (ghost : Ghost) × IsMarkedOut config (final_marked config memory) block ghost graph asking
