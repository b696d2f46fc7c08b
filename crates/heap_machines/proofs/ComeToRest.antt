-- A stage is at rest where each mutator is between two calls or has ended, and all others have ended.
use Rattle.std.proofs.Common.{◌≡◌, ◌⊎◌, inl, inr, ℕ, true, false, List, Some, None, refl, subst}
use Rattle.std.specs.Prelude.{slice_get, if◌then◌else◌}
use Rattle.heap_words.specs.declared.config.Config.{Config}
use Rattle.shen_graph.specs.declared.order.Order.TheVariants.{Nothing}
use Rattle.heap_words.specs.Steps.{Stage}
use Rattle.handshake.specs.Standing.{is_within}
use Rattle.mutator.specs.declared.spot.Spot.{Spot}
use Rattle.mutator.specs.declared.spot.Spot.TheVariants as spots
use Rattle.mutator.specs.Orders.{is_between_calls}
use Rattle.mutator.specs.Rows.{Mutating}
use Rattle.collector_rows.specs.declared.help_spot.HelpSpot.{HelpSpot}
use Rattle.collector_rows.specs.declared.help_spot.HelpSpot.TheVariants as helps
use Rattle.collector_rows.specs.HelperRows as help
use Rattle.collector_rows.specs.declared.control_spot.ControlSpot.{ControlSpot}
use Rattle.collector_rows.specs.declared.control_spot.ControlSpot.TheVariants as controls
use Rattle.collector_rows.specs.ControlRows.{Controlling, is_gone}
use Rattle.heap_machines.specs.Roles.{is_mutating}
use Rattle.step_core.specs.Actor.{Machine, mutating, helping, controlling, Actor}
use Rattle.step_core.specs.AtRest.{IsAtRest}
use Rattle.step_core.specs.Machines.{is_resting, takes_of, standing_of}
use Rattle.step_core.specs.Seats.{is_working}
use Rattle.step_core.specs.Settled.{stored_image}
use Rattle.step_core.specs.Standing.{standing_at, help_standing, control_standing}

-- a machine rests between two calls, or is no mutator and makes no step any more
abbrev pub HasComeToRest : Machine → Type 0
HasComeToRest machine = (is_resting machine ≡ true) ⊎ ((is_mutating machine ≡ false) × (takes_of machine Nothing ≡ false))

mutator_outside : (spot : Spot) → is_between_calls spot ≡ true → is_within (standing_at spot) ≡ false
mutator_outside spots.Rest spot_rests = refl
mutator_outside (spots.Ended reply) spot_rests = refl
mutator_outside spots.Gone spot_rests = refl
mutator_outside _ spot_rests = absurd cc

helper_outside : (spot : HelpSpot) → (if help.is_gone spot then false else true) ≡ false → is_within (help_standing spot) ≡ false
helper_outside helps.Gone has_gone = refl
helper_outside _ has_gone = absurd cc

control_outside : (spot : ControlSpot) → (if is_gone spot then false else true) ≡ false → is_within (control_standing spot) ≡ false
control_outside controls.Gone has_gone = refl
control_outside _ has_gone = absurd cc

control_free : (spot : ControlSpot) → (if is_gone spot then false else true) ≡ false → is_working spot ≡ false
control_free controls.Gone has_gone = refl
control_free _ has_gone = absurd cc

control_calm : (spot : ControlSpot) (image : List ℕ) → (if is_gone spot then false else true) ≡ false → stored_image spot image ≡ None
control_calm controls.Gone image has_gone = refl
control_calm _ image has_gone = absurd cc

between_calls : (mutator : Mutating) → HasComeToRest (mutating mutator) → is_between_calls mutator.spot ≡ true
between_calls mutator (inl mutator_rests) = mutator_rests
between_calls mutator (inr rest_facts) = absurd (let not_mutating = rest_facts.0 in cc)

is_outside : (machine : Machine) → HasComeToRest machine → is_within (standing_of machine) ≡ false
is_outside (mutating mutator) rests = mutator_outside mutator.spot (between_calls mutator rests)
is_outside (helping helper) (inl machine_rests) = absurd cc
is_outside (helping helper) (inr has_gone) = helper_outside helper.spot has_gone.1
is_outside (controlling control) (inl machine_rests) = absurd cc
is_outside (controlling control) (inr has_gone) = control_outside control.spot has_gone.1

has_ended : (control : Controlling) → HasComeToRest (controlling control) → (if is_gone control.spot then false else true) ≡ false
has_ended control (inl control_rests) = absurd cc
has_ended control (inr has_gone) = has_gone.1

pub all_at_rest : (config : Config) (stage : Stage Actor) → ((number : ℕ) (actor : Actor) → slice_get stage.machines number ≡ Some actor → HasComeToRest actor.machine) → IsAtRest config stage
all_at_rest config stage rests = record {
  calls = λ number actor other_mutator mutator_there. between_calls other_mutator (subst HasComeToRest mutator_there.is (rests number actor mutator_there.here));
  outside = λ number actor actor_there not_control. is_outside actor.machine (rests number actor actor_there);
  no_unit = λ number actor control actor_there control_is. control_free control.spot (has_ended control (subst HasComeToRest control_is (rests number actor actor_there)));
  no_image = λ number actor control actor_there control_is. control_calm control.spot control.image (has_ended control (subst HasComeToRest control_is (rests number actor actor_there)));
}
