-- Calls that make an object, and the names that are left for what calls to come may make.
use Rattle.std.specs.Prelude.{ℕ, ◌≡◌, ◌+◌, ◌<◌, Bool, true, false, if◌then◌else◌}
use Rattle.shen_graph.specs.declared.command.Command.{Command}
use Rattle.shen_graph.specs.declared.command.Command.TheVariants.{New, Gc}
use Rattle.shen_graph.specs.Valid.{most_objects}
use Rattle.mutator.specs.declared.spot.Spot.{Spot}
use Rattle.mutator.specs.declared.spot.Spot.TheVariants.{Rest, Ended, Entering, Making, Waiting, Gone}
use Rattle.mutator.specs.declared.spot.Entered.TheVariants.{Waited}
use Rattle.step_core.specs.Actor.{Machine, mutating}
use Rattle.step_core.specs.Machines.{is_resting, made_of_machine, at_hand_of}

-- whether a command makes an object
abbrev pub makes_object : Command → Bool
makes_object (New dst refs nums) = true
makes_object _ = false

-- whether a mutator in a call may stand there: only one that makes an object takes room for it, or waits for it
abbrev pub may_stand : Bool → Spot → Bool
may_stand makes Rest = false
may_stand makes (Ended reply) = false
may_stand makes Gone = false
may_stand makes (Entering spot Waited) = makes
may_stand makes (Making spot) = makes
may_stand makes (Waiting spot) = makes
may_stand makes _ = true

-- the command that a mutator has kept of its call
abbrev pub call_in : Machine → Command
call_in (mutating mutator) = mutator.kept.command
call_in _ = Gc

-- whether a machine stands where its call may, if it is a mutator
abbrev pub stands_in_its_call : Machine → Bool
stands_in_its_call (mutating mutator) = may_stand (makes_object mutator.kept.command) mutator.spot
stands_in_its_call _ = true

-- how many objects it has made in a call whose reply is at hand, at most
abbrev pub making_at_hand : Machine → ℕ
making_at_hand machine = if makes_object (call_in machine) then at_hand_of machine else 0

-- A mutator that is in a call stands where that call may. What it has made and the allocations to come are fewer than there are
-- names, where one whose reply is at hand was made already.
pub record HasNamesFor (to_come : ℕ) (machine : Machine) : Type 0 where
  pub call : is_resting machine ≡ false → stands_in_its_call machine ≡ true
  pub few : made_of_machine machine + to_come < most_objects + making_at_hand machine
