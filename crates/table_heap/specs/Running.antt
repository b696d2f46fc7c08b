-- What is known of the mutators of a bundle, and of the work for them, before a run of their scripts, during it and after it.
use Rattle.std.specs.Prelude.{ℕ, ◌≡◌, ◌+◌, ◌<◌, true, false, List, [], length, All, Option, Some, None, is_some, nat_lt, if◌then◌else◌}
use Rattle.heap_words.specs.declared.config.Config.{Config}
use Rattle.shared_table.specs.Views.{View, machine_of}
use Rattle.shen_graph.specs.declared.command.Command.{Command}
use Rattle.shen_graph.specs.declared.command.Reply.{Reply}
use Rattle.shen_graph.specs.declared.order.Order.{Order}
use Rattle.shen_graph.specs.declared.order.Order.TheVariants.{Nothing}
use Rattle.shen_graph.specs.History as history
use Rattle.shen_graph.specs.Valid.{IsValid, most_objects}
use Rattle.shen_graph.specs.Work.{Progress, HasScript, progress_of, script_in, replies_of, next_of}
use Rattle.step_core.specs.Actor.{Machine, Actor}
use Rattle.step_core.specs.Machines.{is_resting, may_begin, made_of_machine, at_hand_of}
use Rattle.heap_machines.specs.Roles.{is_mutating}
use Rattle.heap_machines.specs.Scripts.{IsOnScript, HasDoneScript}
use Rattle.heap_machines.specs.Turn.{order_for}
use Rattle.table_heap.specs.declared.bundle.Bundle.{Bundle}
use Rattle.table_heap.specs.State.{view_of, orders_of}

-- the work of the mutators, as contracts see it
abbrev pub Jobs : Type 0
Jobs = List (Option Progress)

-- no order is pending
abbrev pub HasNoOrder : Bundle → Type 0
HasNoOrder bundle = (number : ℕ) (order : Order) → machine_of (orders_of bundle) number ≡ Some order → order ≡ Nothing

-- something holds of each mutator of a bundle, and of its number
abbrev pub EachMutator : View Actor → (ℕ → Actor → Type 0) → Type 0
EachMutator view P = (number : ℕ) (actor : Actor) → machine_of view number ≡ Some actor → is_mutating actor.machine ≡ true → P number actor

-- the bundle has no mutator of this number
abbrev pub HasNoMutator : View Actor → ℕ → Type 0
HasNoMutator view number = (actor : Actor) → machine_of view number ≡ Some actor → is_mutating actor.machine ≡ false

-- A mutator has ended no call, made no object, and may begin a call. The work has a script for it, with no reply, whose commands
-- are in range, and no more than there are names for what they make.
pub record CanStartOn (jobs : Jobs) (number : ℕ) (actor : Actor) : Type 0 where
  pub calls : actor.calls ≡ []
  pub rest : is_resting actor.machine ≡ true
  pub free : may_begin actor.machine ≡ true
  pub made : made_of_machine actor.machine ≡ 0
  pub script : HasScript jobs number
  pub replies : replies_of jobs number ≡ []
  pub commands : All IsValid (script_in jobs number)
  pub few : length (script_in jobs number) < most_objects

-- a bundle and the work for its mutators, before they begin
pub record CanStart (bundle : Bundle) (jobs : Jobs) : Type 0 where
  pub orders : HasNoOrder bundle
  pub mutators : EachMutator (view_of bundle) (CanStartOn jobs)

-- A mutator with this much of its script behind it: the replies are those of its calls, and there are names left for what the
-- commands to come may make.
pub record IsAtWork (progress : Progress) (actor : Actor) : Type 0 where
  pub on : IsOnScript progress.script actor
  pub replies : progress.replies ≡ history.replies_of actor.calls
  pub commands : All IsValid progress.script
  pub made : made_of_machine actor.machine + length progress.script < most_objects + (length progress.replies + at_hand_of actor.machine)

abbrev pub IsAtWorkOn : Jobs → ℕ → Actor → Type 0
IsAtWorkOn jobs number actor = (progress : Progress) × (progress_of jobs number ≡ Some progress) × IsAtWork progress actor

-- a bundle and the work for its mutators, between two turns
pub record AreAtWork (bundle : Bundle) (jobs : Jobs) : Type 0 where
  pub orders : HasNoOrder bundle
  pub mutators : EachMutator (view_of bundle) (IsAtWorkOn jobs)

-- the next command of a machine's script, which only a mutator has
abbrev pub next_for : Config → Jobs → ℕ → Option Command
next_for config jobs number = if nat_lt number config.mutators then next_of jobs number else None

-- no command gives it a turn any more: it has made its last step
abbrev pub IsIdleForGood : Machine → Type 0
IsIdleForGood machine = (next_command : Option Command) → order_for next_command machine ≡ None

-- so it is of all machines of the bundle
abbrev pub AreIdleForGood : Bundle → Type 0
AreIdleForGood bundle = (number : ℕ) (actor : Actor) → machine_of (view_of bundle) number ≡ Some actor → IsIdleForGood actor.machine

-- the mutator has called its whole script, and these are the replies of its calls
pub record HasDone (script : List Command) (replies : List Reply) (actor : Actor) : Type 0 where
  pub whole : HasDoneScript script actor
  pub told : replies ≡ history.replies_of actor.calls

-- so has each mutator of the bundle, where the first work has the scripts and the second the replies
abbrev pub HaveDone : Bundle → Jobs → Jobs → Type 0
HaveDone bundle jobs later = EachMutator (view_of bundle) (λ number actor. HasDone (script_in jobs number) (replies_of later number) actor)

-- The work has the same scripts under the same numbers, and what it has for others than the bundle's mutators is as it was.
pub record AreSameJobs (view : View Actor) (jobs later : Jobs) : Type 0 where
  pub scripts : (number : ℕ) → script_in later number ≡ script_in jobs number
  pub numbers : (number : ℕ) → is_some (progress_of later number) ≡ is_some (progress_of jobs number)
  pub others : (number : ℕ) → HasNoMutator view number → progress_of later number ≡ progress_of jobs number
