-- A heap at rest: its words represent the graph after the history, and nobody asks for anything.
use Rattle.std.proofs.Common.{◌≡◌, ℕ, ◌+◌, ◌<◌, true, false, List, Some, refl, sym, ap, ◌∙◌, subst, arith}
use Rattle.std.specs.Prelude.{slice_get}
use Rattle.heap_words.specs.declared.config.Config.{Config}
use Rattle.heap_words.specs.Words.{Answer, view}
use Rattle.heap_words.specs.Steps.{Stage}
use Rattle.shen_graph.specs.declared.command.Command.{Command}
use Rattle.shen_graph.specs.Graph.{Graph}
use Rattle.shen_graph.specs.History.{Entry, after, of_thread}
use Rattle.mutator.specs.declared.spot.Spot.{Spot}
use Rattle.mutator.specs.declared.spot.Spot.TheVariants.{Rest, Ended, Gone}
use Rattle.mutator.specs.Orders.{is_between_calls}
use Rattle.collector_rows.specs.declared.control_spot.ControlSpot.{ControlSpot}
use Rattle.collector_rows.specs.declared.control_spot.ControlSpot.TheVariants as control
use Rattle.collector_rows.specs.ControlRows.{Controlling}
use Rattle.heap_world.specs.World.{World, Shared}
use Rattle.heap_world.specs.Asking.{Asking, nothing, IsAsked}
use Rattle.heap_world.specs.Represents.{Represents}
use Rattle.step_core.specs.Actor.{controlling, Actor}
use Rattle.step_core.specs.AtRest.{IsAtRest}
use Rattle.step_core.specs.Machines.{image_read}
use Rattle.step_core.specs.Seats.{is_working}
use Rattle.step_core.specs.Settled.{settled, settled_by, image_of, control_number}
use Rattle.step_core.specs.Sound.{world_of}
use Rattle.step_core.proofs.Control.Asked.{asking_at}
use Rattle.step_core.proofs.Machines.Owed.{IsResting, ControlFacts, IsControl, IsMachine}
use Rattle.step_core.proofs.Theorem.Induction.{Goes}
use Rattle.step_core.proofs.Control.NewImageCounts.{asking, words_stand, mutator_asks}
use Rattle.step_core.proofs.Control.OutsideImage.{open_world}
use Rattle.step_core.proofs.Machines.Roles.{number_of, machine_there, mutator_there, control_of}

-- the control rests where it works on no unit
still_at : (config : Config) (world : World) (number : ℕ) (spot : ControlSpot) → is_working spot ≡ false → ControlFacts config world number spot → IsResting world number
still_at config world number (control.Working spot) spot_calm facts = absurd cc
still_at config world number control.LookFree spot_calm facts = facts.0
still_at config world number (control.Stopping spot) spot_calm facts = facts.0
still_at config world number (control.LoadWord index extent) spot_calm facts = facts.0
still_at config world number control.LookLeft spot_calm facts = facts
still_at config world number control.StoreEnd spot_calm facts = facts
still_at config world number control.LookAsked spot_calm facts = facts
still_at config world number (control.StoreWord index extent) spot_calm facts = facts
still_at config world number control.Go spot_calm facts = facts
still_at config world number control.Gone spot_calm facts = facts

-- a mutator between two calls asks for nothing
asks_nothing : (spot : Spot) (answer : ℕ) (command : Command) → is_between_calls spot ≡ true → asking_at spot answer command ≡ nothing
asks_nothing Rest answer command spot_rests = refl
asks_nothing (Ended reply) answer command spot_rests = refl
asks_nothing Gone answer command spot_rests = refl
asks_nothing _ answer command spot_rests = absurd cc

module _ (config : Config) (graph : Graph) (stage : Stage Actor) (past : List Entry) (history_goes : Goes config graph stage past) (stage_rests : IsAtRest config stage) where
  abbrev the_graph : Graph
  the_graph = after graph past

  abbrev the_world : World
  the_world = world_of config stage history_goes.follows.block history_goes.follows.ghost the_graph

  -- the control
  the_control : (actor : Actor) × (slice_get stage.machines (control_number config) ≡ Some actor)
  the_control = machine_there config stage.words the_world past stage.machines history_goes.follows.seats (control_number config) (omega arith)

  its_facts : IsMachine config stage.words the_world (of_thread past (control_number config + 1)) (control_number config) the_control.0 the_control.0.machine
  its_facts = history_goes.follows.machines (control_number config) the_control.0 the_control.1

  its_role : (control_machine : Controlling) × (the_control.0.machine ≡ controlling control_machine)
  its_role = control_of config (control_number config) the_control.0.machine (number_of config stage.words the_world (of_thread past (control_number config + 1)) (control_number config) the_control.0 the_control.0.machine its_facts) refl

  -- the words of the table count
  table_counts : settled config stage ≡ view config stage.words
  table_counts =
      ap (λ found. settled_by config stage.words (image_of found)) the_control.1 ∙ ap (λ machine. settled_by config stage.words (image_read machine)) its_role.1
      ∙ ap (settled_by config stage.words) (stage_rests.no_image (control_number config) the_control.0 its_role.0 the_control.1 its_role.1)

  abbrev table_world : World
  table_world = open_world config stage.words history_goes.follows.block history_goes.follows.ghost the_graph

  still : IsResting table_world (control_number config)
  still =
      let facts : IsControl config stage.words the_world (control_number config) its_role.0 =
      subst (λ any_machine. IsMachine config stage.words the_world (of_thread past (control_number config + 1)) (control_number config) the_control.0 any_machine) its_role.1 its_facts in
      still_at config the_world (control_number config) its_role.0.spot (stage_rests.no_unit (control_number config) the_control.0 its_role.0 the_control.1 its_role.1) facts.facts

  known : (number : ℕ) (actor : Actor) → slice_get stage.machines number ≡ Some actor → IsMachine config stage.words table_world (of_thread past (number + 1)) number actor actor.machine
  known number actor actor_there =
      subst (λ any_memory. IsMachine config stage.words (record { memory = any_memory; block = history_goes.follows.block; ghost = history_goes.follows.ghost; graph = the_graph }) (of_thread past (number + 1)) number actor actor.machine) table_counts
      (history_goes.follows.machines number actor actor_there)

  shared : Shared config table_world
  shared = subst (λ any_memory. Shared config (record { memory = any_memory; block = history_goes.follows.block; ghost = history_goes.follows.ghost; graph = the_graph })) table_counts history_goes.follows.shared

  abbrev asks : ℕ → Asking
  asks = asking config stage.words history_goes.follows.block history_goes.follows.ghost the_graph past stage.machines history_goes.follows.seats still

  stands : Represents config (view config stage.words) the_graph asks
  stands = words_stand config stage.words history_goes.follows.block history_goes.follows.ghost the_graph past stage.machines history_goes.follows.seats still shared history_goes.follows.promised_to history_goes.follows.no_more history_goes.follows.no_more_pins known stage_rests.outside

  -- nobody asks for anything
  none_asks : (mutator : ℕ) → mutator < config.mutators → asks mutator ≡ nothing
  none_asks mutator mutator_below =
      let mutator_found = mutator_there config stage.words table_world past stage.machines history_goes.follows.seats known mutator mutator_below in
      mutator_asks config stage.words history_goes.follows.block history_goes.follows.ghost the_graph past stage.machines history_goes.follows.seats still mutator mutator_found.0 mutator_found.1 mutator_found.2 mutator_found.3
      ∙ asks_nothing mutator_found.1.spot (view config stage.words (Answer mutator)) mutator_found.1.kept.command (stage_rests.calls mutator mutator_found.0 mutator_found.1 (record { here = mutator_found.2; is = mutator_found.3 }))

  pub at_rest : Represents config (settled config stage) the_graph (λ thread. nothing)
  at_rest = subst (λ any_memory. Represents config any_memory the_graph (λ thread. nothing)) (sym table_counts) (record {
    block = stands.block;
    ghost = stands.ghost;
    shared = stands.shared;
    roots = stands.roots;
    usable = stands.usable;
    none = stands.none;
    uncarved = stands.uncarved;
    asked = λ mutator mutator_below. subst (IsAsked (view config stage.words) stands.block the_graph.count mutator) (none_asks mutator mutator_below) (stands.asked mutator mutator_below);
    heard = λ thread refs nums mutator_below asks_something. absurd cc;
    promised_to = stands.promised_to;
    unmarking = stands.unmarking;
    uncopying = stands.uncopying;
    no_more = stands.no_more;
    no_more_pins = stands.no_more_pins;
  })
