-- Heaps that begin from the words of an image, after some objects were made.
use Rattle.std.specs.Prelude.{ℕ, ◌≡◌, ◌+◌, ◌<◌, List, [], map, nat_lt, slice_index, if◌then◌else◌}
use Rattle.std.specs.List.{range_with_len}
use Rattle.heap_words.specs.declared.config.Config.{Config}
use Rattle.heap_words.specs.Ranges.{seat_count}
use Rattle.heap_words.specs.Words.{Word, Phase, Cset, Free, view}
use Rattle.heap_words.specs.Steps.{Stage}
use Rattle.shen_graph.specs.declared.command.Command.TheVariants.{Gc}
use Rattle.shen_graph.specs.Graph.{Graph}
use Rattle.mutator.specs.Rows.{mutator_after}
use Rattle.collector_rows.specs.declared.control_spot.ControlSpot.TheVariants.{LookLeft}
use Rattle.heap_world.specs.Asking.{nothing}
use Rattle.heap_world.specs.Represents.{Represents}
use Rattle.step_core.specs.Actor.{Machine, mutating, fresh_helper, controlling, Actor}
use Rattle.step_core.specs.Begins.{IsCalmOutside}

-- a control that knows the phase and the collection set of these words and has seen their free word
abbrev pub control_from : (Word → ℕ) → Machine
control_from memory = controlling (record { spot = LookLeft; seen = memory Free; phase = memory Phase; cset = memory Cset; image = []; hints = 0 })

-- The machine of a number in a heap of these words: the mutators come first, whose threads have made so many objects, then the
-- helpers, then the control.
abbrev pub machine_from : Config → List ℕ → (Word → ℕ) → ℕ → Machine
machine_from config counts memory number =
    if nat_lt number config.mutators then mutating (mutator_after number (slice_index counts number))
    else (if nat_lt number (config.mutators + config.helpers) then fresh_helper number else control_from memory)

abbrev pub actor_from : Config → List ℕ → (Word → ℕ) → ℕ → Actor
actor_from config counts memory number = record { machine = machine_from config counts memory number; command = Gc; calls = [] }

-- the stage of these words, before the first event
unfoldable pub stage_from : Config → List ℕ → List ℕ → Stage Actor
stage_from config words counts = record {
  words = words;
  machines = map (actor_from config counts (view config words)) (range_with_len 0 (seat_count config.mutators config.helpers));
}

-- The words stand for the graph, in which the threads have made so many objects; nobody waits, no pause is wanted, no machine
-- is inside, and no mutator has ended.
pub record CanBeginFrom (config : Config) (memory : Word → ℕ) (counts : List ℕ) (graph : Graph) : Type 0 where
  pub stands : Represents config memory graph (λ mutator. nothing)
  pub outside : IsCalmOutside config memory
  pub counts_are : (mutator : ℕ) → mutator < config.mutators → graph.count (mutator + 1) ≡ slice_index counts mutator
