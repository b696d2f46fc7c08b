-- The handshake and the count where runs begin.
use Rattle.std.proofs.Common.{◌≡◌, ℕ, ◌<◌, ◌≤◌, true, false, refl, sym, ap, subst, arith}
use Rattle.heap_words.proofs.Lists.{element_at}
use Rattle.heap_words.specs.declared.config.Config.{Config}
use Rattle.heap_words.specs.Words.{Phase, Cset, view}
use Rattle.heap_words.specs.Steps.{Stage}
use Rattle.shen_graph.specs.Graph.{Graph}
use Rattle.handshake.specs.Standing.{idle, control_seat}
use Rattle.handshake.specs.Shaken.{IsShaken}
use Rattle.handshake.specs.Left.{AreLeftCounted}
use Rattle.handshake.proofs.Beginnings.{shaken_begins, counted_begins}
use Rattle.mutator.specs.declared.spot.Spot.{Spot}
use Rattle.mutator.specs.declared.spot.Spot.TheVariants.{Rest, Ended}
use Rattle.mutator.specs.Orders.{takes_commands}
use Rattle.step_core.specs.Actor.{Machine, mutating, Actor}
use Rattle.step_core.specs.Machines.{HasNumber, IsIdle, standing_of}
use Rattle.step_core.specs.Begins.{Begins}
use Rattle.step_core.specs.Standing.{control_standing}
use Rattle.step_core.proofs.Handshake.Mutator.{has_not_ended}
use Rattle.step_core.proofs.Handshake.Machines.{standing, is_left}
use Rattle.step_core.proofs.Machines.Roles.{is_left_of, mutator_of, control_of, idle_outside}

-- a mutator that takes commands has not ended
rests_left : (spot : Spot) → takes_commands spot ≡ true → has_not_ended spot ≡ true
rests_left Rest takes = refl
rests_left (Ended reply) takes = refl
rests_left _ takes = absurd (cc (takes))

-- the idle control is idle in the handshake
control_idle : (config : Config) (phase cset : ℕ) (graph : Graph) (number : ℕ) (machine : Machine) → HasNumber config number machine → IsIdle phase cset graph number machine → number ≡ control_seat config → standing_of machine ≡ idle
control_idle config phase cset graph number machine has_number idle_machine control_number =
    let role = control_of config number machine has_number control_number in
    subst (λ any_machine. IsIdle phase cset graph number any_machine → standing_of any_machine ≡ idle) (sym role.1) (λ calm_control. ap control_standing calm_control.0) idle_machine

-- the mutators have not ended, and no other machine is counted
mutator_left : (config : Config) (phase cset : ℕ) (graph : Graph) (number : ℕ) (machine : Machine) → HasNumber config number machine → IsIdle phase cset graph number machine → number < config.mutators → is_left_of machine ≡ true
mutator_left config phase cset graph number machine has_number idle_machine mutator_number =
    let role = mutator_of config number machine has_number mutator_number in
    subst (λ any_machine. IsIdle phase cset graph number any_machine → is_left_of any_machine ≡ true) (sym role.1) (λ calm_control. rests_left role.0.spot calm_control.1) idle_machine

other_left : (config : Config) (number : ℕ) (machine : Machine) → HasNumber config number machine → config.mutators ≤ number → is_left_of machine ≡ false
other_left config number (mutating mutator) has_number above_mutators = absurd (omega (arith, has_number.1, above_mutators))
other_left config number _ has_number above_mutators = refl

module _ (config : Config) (stage : Stage Actor) (graph : Graph) (begins : Begins config stage graph) where
  pub begins_shaken : IsShaken config standing stage
  begins_shaken =
      let control = element_at stage.machines (control_seat config) (omega (arith, begins.seats)) in
      shaken_begins config standing stage control.0 begins.words begins.seats control.1
      (let new = begins.machines (control_seat config) control.0 control.1 in control_idle config (view config stage.words Phase) (view config stage.words Cset) graph (control_seat config) (control.0).machine new.number_is new.idle refl)
      (λ seat actor seat_below actor_there. let new = begins.machines seat actor actor_there in idle_outside config (view config stage.words Phase) (view config stage.words Cset) graph seat actor.machine new.number_is new.idle seat_below)
      begins.outside.pause begins.outside.states

  pub begins_counted : AreLeftCounted config is_left stage
  begins_counted = counted_begins config is_left stage begins.words begins.seats
      (λ number actor number_below actor_there. let new = begins.machines number actor actor_there in mutator_left config (view config stage.words Phase) (view config stage.words Cset) graph number actor.machine new.number_is new.idle number_below)
      (λ number actor above_mutators actor_there. let new = begins.machines number actor actor_there in other_left config number actor.machine new.number_is above_mutators)
      begins.outside.left
