-- Whether machines have a turn, by their roles.
use Rattle.std.proofs.Common.{◌≡◌, ℕ, Bool, true, false, not, ◌&&◌, Option, Some, None, refl, ap, ◌∙◌}
use Rattle.std.specs.Prelude.{if◌then◌else◌, is_some, slice_get, length, List}
use Rattle.heap_words.specs.declared.config.Config.{Config}
use Rattle.shen_graph.specs.declared.command.Command.{Command}
use Rattle.shen_graph.specs.declared.order.Order.{Order}
use Rattle.shen_graph.specs.declared.order.Order.TheVariants.{Nothing, Begin, End, Hint}
use Rattle.shen_graph.specs.Order.{is_nothing}
use Rattle.shen_graph.specs.History.{Entry}
use Rattle.mutator.specs.declared.spot.Spot.{Spot}
use Rattle.mutator.specs.declared.spot.Spot.TheVariants.{Rest, Ended, Gone}
use Rattle.heap_words.specs.declared.place.Place.{Place}
use Rattle.heap_words.specs.Place.{same_place}
use Rattle.mutator.specs.Rows.{Mutating, place_at}
use Rattle.mutator.specs.Orders.{is_between_calls, takes_commands, takes_at, is_pending}
use Rattle.heap_world.specs.Change.{Change}
use Rattle.step_core.specs.Actor.{Machine, mutating}
use Rattle.step_core.specs.Machines.{takes_of, machine_after, order_by, next_order, is_machine_at, is_resting, may_begin}
use Rattle.heap_machines.specs.Turn.{order_for}
use Rattle.heap_machines.specs.Roles.{is_mutating}
use Rattle.step_core.proofs.Machines.Roles.{turn_in_call}

-- a mutator makes a step under an order that may stand, but where it is idle
pub turn_idle : (spot : Spot) (made : ℕ) (order : Order) → is_pending spot made order ≡ true → takes_at spot made order ≡ not (is_between_calls spot && is_nothing order)
turn_idle Rest made Nothing pending = refl
turn_idle Rest made (Begin command) pending = pending
turn_idle Rest made End pending = refl
turn_idle Rest made (Hint address) pending = absurd cc
turn_idle (Ended reply) made Nothing pending = refl
turn_idle (Ended reply) made (Begin command) pending = pending
turn_idle (Ended reply) made End pending = refl
turn_idle (Ended reply) made (Hint address) pending = absurd cc
turn_idle Gone made Nothing pending = refl
turn_idle Gone made (Begin command) pending = absurd cc
turn_idle Gone made End pending = absurd cc
turn_idle Gone made (Hint address) pending = absurd cc
turn_idle _ made Nothing pending = refl
turn_idle _ made (Begin command) pending = absurd cc
turn_idle _ made End pending = absurd cc
turn_idle _ made (Hint address) pending = absurd cc

-- what is done by a script is what is done by its next command
pub order_of_script : (script : List Command) (calls : List Entry) (machine : Machine) → order_by script calls machine ≡ order_for (slice_get script (length calls)) machine
order_of_script script calls machine = refl

-- it keeps its role
pub role_stays : (change : Change) (config : Config) (order : Order) (got : ℕ) (machine : Machine) → is_mutating (machine_after change config order got machine) ≡ is_mutating machine
role_stays change config order got (mutating mutator) = refl
role_stays change config order got _ = refl

-- only a mutator rests between calls
pub rest_is_mutating : (machine : Machine) → is_resting machine ≡ true → is_mutating machine ≡ true
rest_is_mutating (mutating mutator) machine_rests = refl
rest_is_mutating _ machine_rests = absurd cc

-- whom no command is for does the same whatever would follow
pub order_alike : (machine : Machine) (found other_found : Option Command) → is_mutating machine ≡ false → order_for found machine ≡ order_for other_found machine
order_alike (mutating mutator) found other_found not_mutating = absurd cc
order_alike _ found other_found not_mutating = refl

-- who may be given a command rests
pub begins_at_rest : (machine : Machine) → may_begin machine ≡ true → is_resting machine ≡ true
begins_at_rest (mutating mutator) free_to_begin = by_spot mutator.spot free_to_begin
  where
    by_spot : (spot : Spot) → takes_commands spot ≡ true → is_between_calls spot ≡ true
    by_spot Rest free_to_begin = refl
    by_spot (Ended reply) free_to_begin = refl
    by_spot _ free_to_begin = absurd cc
begins_at_rest _ free_to_begin = absurd cc

-- whether it has a turn then
pub turn_is_some : (machine : Machine) (next : Option Command) (holds : Bool) → may_begin machine ≡ false → takes_of machine Nothing ≡ holds → is_some (order_for next machine) ≡ holds
turn_is_some machine next holds machine_busy takes = ap is_some (turn_in_call machine next machine_busy) ∙ by_takes (takes_of machine Nothing) ∙ takes
  where
    by_takes : (other_holds : Bool) → is_some (if◌then◌else◌ {A = Option Order} other_holds (Some Nothing) None) ≡ other_holds
    by_takes true = refl
    by_takes false = refl

pub turn_at_rest : (machine : Machine) (next : Option Command) → may_begin machine ≡ true → order_for next machine ≡ Some (next_order next)
turn_at_rest (mutating mutator) next machine_free = rw machine_free refl
turn_at_rest _ next machine_free = absurd cc

-- between two calls nothing is done without an order
pub rest_takes : (machine : Machine) → is_resting machine ≡ true → takes_of machine Nothing ≡ false
rest_takes (mutating mutator) machine_rests = by_spot mutator.spot machine_rests
  where
    by_spot : (spot : Spot) → is_between_calls spot ≡ true → takes_at spot mutator.made Nothing ≡ false
    by_spot Rest spot_rests = refl
    by_spot (Ended reply) spot_rests = refl
    by_spot Gone spot_rests = refl
    by_spot _ spot_rests = absurd cc
rest_takes _ machine_rests = absurd cc

-- a mutator in a call goes on with it
goes_on_in_call : (spot : Spot) (next : Option Command) → is_between_calls spot ≡ false
    → ◌≡◌ {A = Option Order} (if takes_commands spot then Some (next_order next) else (if is_between_calls spot then None else Some Nothing)) (Some Nothing)
goes_on_in_call Rest next spot_busy = absurd (cc (spot_busy))
goes_on_in_call (Ended reply) next spot_busy = absurd (cc (spot_busy))
goes_on_in_call Gone next spot_busy = absurd (cc (spot_busy))
goes_on_in_call _ next spot_busy = refl

-- where its next access stands
pub stands_in_call : (mutator : Mutating) (next : Option Command) (place : Place) → is_between_calls mutator.spot ≡ false → is_machine_at place (mutating mutator) (order_for next (mutating mutator)) ≡ same_place (place_at Nothing mutator.spot) place
stands_in_call mutator next place spot_busy = ap (is_machine_at place (mutating mutator)) (goes_on_in_call mutator.spot next spot_busy)

-- a mutator that is not idle and has no order is in a call
pub busy_without_order : (holds : Bool) (order : Order) → order ≡ Nothing → holds && is_nothing order ≡ false → holds ≡ false
busy_without_order true order no_order order_busy = absurd (let same_test : is_nothing order ≡ true = ap is_nothing no_order in cc)
busy_without_order false order no_order order_busy = refl
