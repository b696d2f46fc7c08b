-- All machines obey the handshake, and count.
use Rattle.std.proofs.Common.{◌≡◌, Bool, Some}
use Rattle.std.specs.Prelude.{slice_get}
use Rattle.heap_words.specs.declared.config.Config.{Config}
use Rattle.heap_words.specs.Steps.{Stage, Event}
use Rattle.shen_graph.specs.declared.order.Order.{Order}
use Rattle.heap_world.specs.Change.{Change}
use Rattle.handshake.specs.Standing.{Standing}
use Rattle.handshake.specs.Shaken.{EventObeys}
use Rattle.handshake.specs.Left.{EventCounts}
use Rattle.step_core.specs.Actor.{Actor}
use Rattle.step_core.specs.Machines.{HasNumber, kind, standing_of}
use Rattle.step_core.proofs.Machines.Roles.{CanGo, is_left_of, machine_obeys, machine_counts}

-- where an actor stands
abbrev pub standing : Actor → Standing
standing actor = standing_of actor.machine

-- whether it is a mutator that has not ended
abbrev pub is_left : Actor → Bool
is_left actor = is_left_of actor.machine

-- an event obeys, and counts, where each machine has its number and can make its access
module _ (change : Change) (config : Config) (stage : Stage Actor) (event : Event Order) where
  pub event_obeys : ((actor : Actor) → slice_get stage.machines event.number ≡ Some actor → HasNumber config event.number actor.machine) → ((actor : Actor) → slice_get stage.machines event.number ≡ Some actor → CanGo config actor.machine)
      → EventObeys config (kind change config) standing stage event
  unfolding kind
  event_obeys has_number may_go actor is = machine_obeys change config event.number event.order actor.machine (has_number actor is.here) is.takes (may_go actor is.here)

  pub event_counts : ((actor : Actor) → slice_get stage.machines event.number ≡ Some actor → CanGo config actor.machine) → EventCounts config (kind change config) is_left stage event
  unfolding kind
  event_counts may_go actor is = machine_counts change config event.number event.order actor.machine is.takes (may_go actor is.here)
