-- What the pause that ends marking and begins evacuation leaves of the words.
use Rattle.std.specs.Prelude.{ℕ, ◌≡◌}
use Rattle.std.specs.Int.{bit_at}
use Rattle.heap_words.specs.declared.config.Config.{Config}
use Rattle.heap_words.specs.Words.{Word, Phase, Ask}
use Rattle.heap_words.specs.Phases.{marking_phase}
use Rattle.shen_graph.specs.Graph.{Graph}
use Rattle.heap_world.specs.World.{Plot, Ghost}
use Rattle.heap_world.specs.Asking.{Asking}
use Rattle.heap_world.specs.Represents.{Represents}
use Rattle.heap_world.specs.Change.{IsPaused}
use Rattle.image_graph.specs.Buffers.{HasNoMoreSeats}
use Rattle.cycle_words.specs.Evacuation.Choice.{chosen}
use Rattle.cycle_words.specs.Evacuation.Begun.{CanBegin, evac_begun}
use Rattle.cycle_pauses.specs.Marking.MarkedOut.{IsMarkedOut}
use Rattle.cycle_pauses.specs.Evacuation.Collect.{evac_next}

-- The words that it leaves represent the same graph, with what mutators have asked for, also where one of them waits.
abbrev pub EvacuationRepresents : Type 0
EvacuationRepresents = (config : Config) (memory : Word → ℕ) (graph : Graph) (asking : ℕ → Asking) → Represents config memory graph asking → memory Phase ≡ marking_phase → HasNoMoreSeats config memory
    → Represents config (evac_next config memory) graph asking

-- So do those that the beginning of evacuation leaves by itself, of any words that the end of marking may leave.
abbrev pub EvacuationAloneRepresents : Type 0
EvacuationAloneRepresents = (config : Config) (memory : Word → ℕ) (block : Plot) (ghost : Ghost) (graph : Graph) (asking : ℕ → Asking) → IsMarkedOut config memory block ghost graph asking
    → CanBegin config memory → Represents config (evac_begun config memory (chosen config memory)) graph asking

-- So it is what a pause owes, where no mutator waits.
abbrev pub EvacuationBegins : Type 0
EvacuationBegins = (config : Config) (memory : Word → ℕ) (graph : Graph) (asking : ℕ → Asking) → Represents config memory graph asking → memory Phase ≡ marking_phase → bit_at (memory Ask) 1 ≡ 0
    → HasNoMoreSeats config memory → IsPaused config memory (evac_next config memory) graph asking
