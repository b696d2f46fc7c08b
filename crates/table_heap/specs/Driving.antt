-- What is known of the mutators of a bundle, and of the drivers that give their commands: before they are driven, meanwhile and
-- after it.
use Rattle.std.specs.Prelude.{ℕ, zero, suc, ◌≡◌, ◌<◌, ◌≤◌, Bool, true, false, ◌&&◌, List, [], length, All, Option, Some, None, slice_get, slice_set, nat_lt, if◌then◌else◌}
use Rattle.std.specs.Option.{is_some}
use Rattle.shared_table.specs.Views.{machine_of}
use Rattle.shen_graph.specs.declared.command.Command.{Command}
use Rattle.shen_graph.specs.declared.command.Reply.{Reply}
use Rattle.table_heap.specs.Drivers.{IsDrivenFrom, driver_after}
use Rattle.shen_graph.specs.Step.{IsNew}
use Rattle.shen_graph.specs.Valid.{most_objects}
use Rattle.step_core.specs.Actor.{Actor}
use Rattle.step_core.specs.Machines.{is_resting, may_begin, made_of_machine}
use Rattle.table_heap.specs.Makes.{call_in, HasNamesFor}
use Rattle.table_heap.specs.declared.bundle.Bundle.{Bundle}
use Rattle.table_heap.specs.State.{config_in, view_of}
use Rattle.table_heap.specs.Running.{HasNoOrder, EachMutator}

-- how many of the numbers below pass a test
abbrev pub count_below : (ℕ → Bool) → ℕ → ℕ
count_below test zero = 0
count_below test (suc number) = if test number then suc (count_below test number) else count_below test number

-- whether the bundle has the machine, and it is a mutator
abbrev pub has_mutator : Bundle → ℕ → Bool
has_mutator bundle number = is_some (machine_of (view_of bundle) number) && nat_lt number (config_in bundle).mutators

-- how many mutators of the bundle have lower numbers
abbrev pub mutators_below : Bundle → ℕ → ℕ
mutators_below bundle number = count_below (has_mutator bundle) number

-- The driver of a mutator: there is one for each mutator of the bundle, in the order of their numbers.
abbrev pub driver_of : {D : Type 0} → Bundle → List D → ℕ → Option D
driver_of bundle drivers number = slice_get drivers (mutators_below bundle number)

abbrev pub AreDriversOf : {D : Type 0} → Bundle → List D → Type 0
AreDriversOf bundle drivers = length drivers ≡ mutators_below bundle (config_in bundle).mutators

-- a mutator has ended no call, made no object, and may begin a call
pub record HasNotBegun (actor : Actor) : Type 0 where
  pub calls : actor.calls ≡ []
  pub rest : is_resting actor.machine ≡ true
  pub free : may_begin actor.machine ≡ true
  pub made : made_of_machine actor.machine ≡ 0

-- A bundle and the drivers of its mutators, before these begin: no more allocations are to come of each driver than there are names
-- for what they make.
pub record CanDrive {D : Type 0} (to_come : D → ℕ) (bundle : Bundle) (drivers : List D) : Type 0 where
  pub orders : HasNoOrder bundle
  pub mutators : EachMutator (view_of bundle) (λ number actor. HasNotBegun actor)
  pub count : AreDriversOf bundle drivers
  pub few : All (λ driver. to_come driver < most_objects) drivers

-- what the driver at a place of the list gives next
abbrev pub given_by : {D : Type 0} → (D → Option Command) → Option D → Option Command
given_by next_of None = None
given_by next_of (Some driver) = next_of driver

-- the next command of a machine's driver, which only a mutator has
abbrev pub next_driven : {D : Type 0} → (D → Option Command) → Bundle → List D → ℕ → Option Command
next_driven next_of bundle drivers number = if nat_lt number (config_in bundle).mutators then given_by next_of (driver_of bundle drivers number) else None

-- A mutator whose driver began in one state and has come to another: its calls are the driver's, with the replies that it has
-- taken; a call in progress has its next command, and there is none where the mutator has ended; and names are left.
pub record IsDriving {D : Type 0} (next_of : D → Option Command) (replied : D → Reply → D) (to_come : D → ℕ) (first now : D) (actor : Actor) : Type 0 where
  pub driven : IsDrivenFrom next_of replied first actor.calls
  pub state : now ≡ driver_after replied first actor.calls
  pub doing : is_resting actor.machine ≡ false → next_of now ≡ Some actor.command
  pub kept : is_resting actor.machine ≡ false → call_in actor.machine ≡ actor.command
  pub ended : is_resting actor.machine ≡ true → may_begin actor.machine ≡ false → next_of now ≡ None
  pub names : HasNamesFor (to_come now) actor.machine

-- something holds of the drivers of a mutator, in both lists
abbrev pub OfDrivers : {D : Type 0} → Bundle → (firsts drivers : List D) → (D → D → Actor → Type 0) → ℕ → Actor → Type 0
OfDrivers {D} bundle firsts drivers P number actor = (first : D) × (now : D) × (driver_of bundle firsts number ≡ Some first) × (driver_of bundle drivers number ≡ Some now) × P first now actor

-- a bundle and the drivers of its mutators between two turns, with those as which the drivers began
pub record AreDriving {D : Type 0} (next_of : D → Option Command) (replied : D → Reply → D) (to_come : D → ℕ) (bundle : Bundle) (firsts drivers : List D) : Type 0 where
  pub orders : HasNoOrder bundle
  pub count : AreDriversOf bundle drivers
  pub mutators : EachMutator (view_of bundle) (OfDrivers bundle firsts drivers (IsDriving next_of replied to_come))

-- The mutator is between two calls. Each of its calls has the command that its driver gave next by the replies to those before it, the driver has
-- taken all replies, and it gives no command any more.
pub record HasDriven {D : Type 0} (next_of : D → Option Command) (replied : D → Reply → D) (first last : D) (actor : Actor) : Type 0 where
  pub rest : is_resting actor.machine ≡ true
  pub driven : IsDrivenFrom next_of replied first actor.calls
  pub state : last ≡ driver_after replied first actor.calls
  pub ended : next_of last ≡ None

-- so it is of each mutator of the bundle, where the first list has the drivers before and the second those after it
abbrev pub HaveDriven : {D : Type 0} → (D → Option Command) → (D → Reply → D) → Bundle → (firsts lasts : List D) → Type 0
HaveDriven next_of replied bundle firsts lasts = EachMutator (view_of bundle) (OfDrivers bundle firsts lasts (HasDriven next_of replied))

-- a driver has taken a reply at its place of the list, by what each driver promises of that
pub record HasTaken {D : Type 0} (next_of : D → Option Command) (replied : D → Reply → D) (to_come : D → ℕ) (driver : D) (reply : Reply) (old : List D) (place : ℕ) (new : List D) : Type 0 where
  pub taken : D
  pub list : new ≡ slice_set old place taken
  pub replied_is : taken ≡ replied driver reply
  pub falls : to_come taken ≤ to_come driver
  pub pays : (command : Command) → next_of driver ≡ Some command → IsNew command → to_come taken < to_come driver
