-- Histories of runs from where a heap began, and that the calls of a mutator that rests are its part of one.
use Rattle.std.proofs.Common.{◌≡◌, ℕ, ◌+◌, true, List, Some, ap, ◌∙◌}
use Rattle.std.specs.Prelude.{slice_get}
use Rattle.std.proofs.Math.Logic.{∥∥₁_map}
use Rattle.heap_words.specs.declared.config.Config.{Config}
use Rattle.shen_graph.specs.declared.order.Order.{Order}
use Rattle.shen_graph.specs.Graph.{Graph}
use Rattle.heap_words.specs.Steps.{Stage, Event, HasReached}
use Rattle.heap_machines.specs.Pause.{pause_image}
use Rattle.heap_machines.proofs.Pauses.{heap_pauses}
use Rattle.heap_machines.proofs.RestedGraph.{entries_at_rest}
use Rattle.step_core.specs.Actor.{Actor}
use Rattle.step_core.specs.Begins.{Begins, Run, ending}
use Rattle.step_core.specs.Machines.{is_resting}
use Rattle.step_core.proofs.Theorem.EveryList.{run_sound}
use Rattle.table_heap.specs.Core.{heap_kind}
use Rattle.table_heap.proofs.Core.{run_from}
use Rattle.heap_seats.specs.Going.{ArePartOfHistory}
use Rattle.heap_seats.specs.Histories.{BeginsRenewable, IsLegalFrom}

pub run_is_legal : (config : Config) (start : Stage Actor) (first_graph : Graph) (begins : Begins config start first_graph) (events : List (Event Order)) → IsLegalFrom config start events first_graph
run_is_legal config start first_graph begins events =
    let sound_run = run_sound pause_image heap_pauses config (run_from config start first_graph begins events) in
    record { legal = sound_run.legal; crowded = sound_run.crowded }

calls_of_run : (config : Config) (start : Stage Actor) → ∥ BeginsRenewable config start ∥₁ → (number : ℕ) (actor : Actor) → HasReached (heap_kind config) start number actor → is_resting actor.machine ≡ true → ArePartOfHistory config start (number + 1) actor.calls
calls_of_run config start some_beginning number actor has_reached machine_rests = record {
  events = has_reached.reached.events;
  history = record {
    some = some_beginning;
    each = λ first_graph begins.
        let run : Run config = run_from config start first_graph begins has_reached.reached.events in
        let actor_there : slice_get (ending pause_image config run).machines number ≡ Some actor = ap (λ stage. slice_get stage.machines number) has_reached.reached.ends ∙ has_reached.here in
        record { legal = run_is_legal config start first_graph begins has_reached.reached.events; part = entries_at_rest config run number actor actor_there machine_rests };
  };
}

pub calls_are_part : (config : Config) (start : Stage Actor) → ∥ BeginsRenewable config start ∥₁ → (number : ℕ) (actor : Actor) → ∥ HasReached (heap_kind config) start number actor ∥₁ → is_resting actor.machine ≡ true → ∥ ArePartOfHistory config start (number + 1) actor.calls ∥₁
calls_are_part config start some_beginning number actor has_reached machine_rests = ∥∥₁_map has_reached (λ reached. calls_of_run config start some_beginning number actor reached machine_rests)
