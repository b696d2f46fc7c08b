-- A stage that begins a graph follows the empty history, and no machine is in the heap.
use Rattle.std.proofs.Common.{◌≡◌, ℕ, [], None, Some, refl, sym, ap, ◌∙◌, subst, arith}
use Rattle.std.specs.Prelude.{slice_get}
use Rattle.std.proofs.lemmas.List.Elements.{All-nil}
use Rattle.heap_words.specs.declared.config.Config.{Config}
use Rattle.heap_words.specs.Words.{Phase, Cset, view}
use Rattle.heap_words.specs.Steps.{Stage}
use Rattle.shen_graph.specs.Graph.{Graph}
use Rattle.heap_world.specs.World.{Shared}
use Rattle.step_core.specs.Actor.{Machine, controlling, Actor}
use Rattle.step_core.specs.Machines.{HasNumber, IsIdle}
use Rattle.step_core.specs.Settled.{stored_image, image_read, image_of, settled, settled_by, control_number}
use Rattle.step_core.specs.Threads.{IsSettled}
use Rattle.step_core.specs.Begins.{Begins}
use Rattle.step_core.specs.Sound.{world_of}
use Rattle.step_core.proofs.Machines.Owed.{IsMachine, Follows}
use Rattle.step_core.proofs.Handshake.Begins.{begins_shaken, begins_counted}
use Rattle.step_core.proofs.Theorem.Induction.{Goes}
use Rattle.step_core.proofs.Machines.Roles.{machine_there, machine_begins}
use Rattle.heap_world.proofs.Roomless.{only_spares}

-- an idle control holds no image
idle_holds : (config : Config) (phase cset : ℕ) (graph : Graph) (machine : Machine) → HasNumber config (control_number config) machine → IsIdle phase cset graph (control_number config) machine → image_read machine ≡ None
idle_holds config phase cset graph (controlling control) number machine_idle = ap (λ spot. stored_image spot control.image) machine_idle.0
idle_holds config phase cset graph _ number machine_idle = refl

-- What holds of a stage that begins a graph.
module _ (config : Config) (stage : Stage Actor) (graph : Graph) (begins : Begins config stage graph) where
  -- the control is there
  there : (actor : Actor) × (slice_get stage.machines (control_number config) ≡ Some actor)
  there = machine_there config stage.words (world_of config stage begins.stands.block begins.stands.ghost graph) [] stage.machines begins.seats (control_number config) (omega arith)

  -- no image counts
  pub whole_begins : settled config stage ≡ view config stage.words
  whole_begins =
      let new = begins.machines (control_number config) there.0 there.1 in
      ap (settled_by config stage.words) (ap image_of there.1 ∙ idle_holds config (view config stage.words Phase) (view config stage.words Cset) graph there.0.machine new.number_is new.idle)

  pub follows_begins : Follows config graph stage []
  follows_begins = record {
    block = begins.stands.block;
    ghost = begins.stands.ghost;
    words = begins.words;
    seats = begins.seats;
    legal = tt;
    entries = All-nil (IsSettled config.mutators);
    no_more = begins.stands.no_more;
    no_more_pins = begins.stands.no_more_pins;
    shared = subst (λ any_memory. Shared config (record { memory = any_memory; block = begins.stands.block; ghost = begins.stands.ghost; graph = graph })) (sym whole_begins) begins.stands.shared;
    promised_to = begins.stands.promised_to;
    machines = λ number actor actor_there.
        let new = begins.machines number actor actor_there in
        subst (λ any_memory. IsMachine config stage.words (record { memory = any_memory; block = begins.stands.block; ghost = begins.stands.ghost; graph = graph }) [] number actor actor.machine) (sym whole_begins)
        (machine_begins config stage.words (record { memory = view config stage.words; block = begins.stands.block; ghost = begins.stands.ghost; graph = graph }) number actor actor.machine refl new.number_is new.idle new.calls new.valid
        (record { roots = begins.stands.roots; spares = λ seat address. only_spares begins.stands.block begins.stands.none begins.stands.uncarved address seat; asked = begins.stands.asked; unmarking = begins.stands.unmarking; uncopying = begins.stands.uncopying; usable = begins.stands.usable }));
  }

  pub goes_begins : Goes config graph stage []
  goes_begins = record { follows = follows_begins; shaken = begins_shaken config stage graph begins; counted = begins_counted config stage graph begins }
