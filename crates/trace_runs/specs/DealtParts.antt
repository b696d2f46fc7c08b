-- Parts of a heap's machines, each with what its mutators are run by.
use Rattle.std.specs.Prelude.{ℕ, ◌≡◌, ◌+◌, ◌-◌, ◌≤◌, ◌%◌, ◌&&◌, ◌++◌, Bool, nat_lt, nat_le, List, length, take, drop, All, Some, slice_get, MatchBool}
use Rattle.std.specs.Option.{is_some}
use Rattle.heap_words.specs.declared.config.Config.{Config}
use Rattle.heap_words.specs.Ranges.{seat_count}
use Rattle.shared_table.specs.Views.{View, machine_of, whole, dealt_to}
use Rattle.shen_graph.specs.Work as work
use Rattle.managed_queue.specs.Users.{Use, next_of, used, to_come}
use Rattle.shen_core.specs.Progress.{IsRunnable}
use Rattle.step_core.specs.Actor.{Actor}
use Rattle.step_core.specs.Schedule.{Scripts, nth_script}
use Rattle.table_heap.specs.Core.{heap_opening}
use Rattle.table_heap.specs.declared.bundle.Bundle.{Bundle}
use Rattle.table_heap.specs.declared.heap.Heap.{Heap}
use Rattle.table_heap.specs.State.{config_of, view_of, IsBundleOf, IsFresh, IsSameBundle}
use Rattle.table_heap.specs.Running.{Jobs, CanStart, EachMutator, AreIdleForGood, HasDone, HaveDone, AreSameJobs}
use Rattle.table_heap.specs.Driving.{CanDrive, HasDriven, HaveDriven}
use Rattle.trace_runs.specs.declared.load.Load.{Load}
use Rattle.trace_runs.specs.declared.load.Load.TheVariants.{Scripted, Driven}
use Rattle.trace_runs.specs.declared.parts.Part.{Part}
use Rattle.trace_runs.specs.declared.parts.Returned.{Returned}

-- What all mutators of a heap are run by: their scripts, or users as they begin, in the order of their numbers.
pub data Assigned : Type 0 where
  scripts : Scripts → Assigned
  users : List Use → Assigned

-- ---- loads

-- the mutators of a bundle can begin
abbrev pub CanBeRunBy : Bundle → Load → Type 0
CanBeRunBy bundle (Scripted jobs) = CanStart bundle jobs
CanBeRunBy bundle (Driven crew) = CanDrive to_come bundle crew.items

-- They have called their scripts, and the work has the replies; or their users have come to an end, by the replies of their calls.
abbrev pub HaveEnded : (before after : Bundle) → (first last : Load) → Type 0
HaveEnded before after (Scripted jobs) (Scripted later) = HaveDone after jobs later × AreSameJobs (view_of before) jobs later
HaveEnded before after (Driven crew) (Driven later) = (length later.items ≡ length crew.items) × HaveDriven next_of used after crew.items later.items
HaveEnded before after _ _ = ⊥

-- no mutator has a script in both, or there is room for the users of both
abbrev pub LoadsAreApart : Load → Load → Type 0
LoadsAreApart (Scripted jobs) (Scripted others) = (mutator : ℕ) → work.HasScript jobs mutator → work.HasScript others mutator → ⊥
LoadsAreApart (Driven crew) (Driven others) = length crew.items + length others.items ≤ 8
LoadsAreApart _ _ = ⊥

-- the scripts of both, or the users of the first and then those of the second
abbrev pub IsJoined : Load → Load → Load → Type 0
IsJoined (Scripted jobs) (Scripted others) (Scripted all) = all ≡ work.joined jobs others
IsJoined (Driven crew) (Driven others) (Driven all) = all.items ≡ crew.items ++ others.items
IsJoined _ _ _ = ⊥

-- ---- parts

-- machines of a heap that can be run
pub record PartCanRun (heap : Heap) (part : Part) : Type 0 where
  pub of : IsBundleOf part.bundle heap
  pub start : CanBeRunBy part.bundle part.load

-- all machines of the part are idle for good
pub record PartHasEnded (before after : Part) : Type 0 where
  pub same : IsSameBundle before.bundle after.bundle
  pub idle : AreIdleForGood after.bundle
  pub done : HaveEnded before.bundle after.bundle before.load after.load

-- a part comes back after its run, or as it was given
abbrev pub IsGivenBack : Part → Returned → Type 0
IsGivenBack given back = MatchBool back.ran (PartHasEnded given back.part) (back.part ≡ given)

-- whether a machine is in one of the bundles from the first of these on, and below the second, of so many: machines are dealt
-- in turn, as cards are
abbrev pub is_dealt : (workers first beyond number : ℕ) → Bool
is_dealt workers first beyond number = nat_le first (number % workers) && nat_lt (number % workers) beyond

-- The part has the machines that are dealt to these bundles.
pub record IsPart (heap : Heap) (workers first beyond : ℕ) (part : Part) : Type 0 where
  pub of : IsBundleOf part.bundle heap
  pub machines : (number : ℕ) → is_some (machine_of (view_of part.bundle) number) ≡ (nat_lt number (seat_count (config_of heap).mutators (config_of heap).helpers) && is_dealt workers first beyond number)

-- The work has the scripts of those that are mutators.
pub record HasScripts (config : Config) (scripts : Scripts) (workers first beyond : ℕ) (jobs : Jobs) : Type 0 where
  pub numbers : (number : ℕ) → is_some (work.progress_of jobs number) ≡ (nat_lt number config.mutators && is_dealt workers first beyond number)
  pub scripts_are : (number : ℕ) → work.HasScript jobs number → work.script_in jobs number ≡ nth_script scripts number

-- the users of these bundles, where each bundle has one machine
abbrev pub crew_of : List Use → (first beyond : ℕ) → List Use
crew_of firsts first beyond = drop first (take beyond firsts)

-- There is a bundle for each machine, and a user for each mutator.
pub record IsCrewed (config : Config) (firsts : List Use) (workers : ℕ) : Type 0 where
  pub single : workers ≡ seat_count config.mutators config.helpers
  pub count : length firsts ≡ config.mutators

-- what the mutators of these bundles are run by, before they begin
abbrev pub IsLoad : Config → Assigned → (workers first beyond : ℕ) → Load → Type 0
IsLoad config (scripts all) workers first beyond (Scripted jobs) = HasScripts config all workers first beyond jobs
IsLoad config (users firsts) workers first beyond (Driven crew) = IsCrewed config firsts workers × (crew.items ≡ crew_of firsts first beyond)
IsLoad config _ workers first beyond _ = ⊥

-- what a user came to that began with this one: it is at its place among those of these bundles
pub record HasUsed (firsts crew : List Use) (first number : ℕ) (actor : Actor) : Type 0 where
  pub begun : Use
  pub ended : Use
  pub begun_is : slice_get firsts number ≡ Some begun
  pub ended_is : slice_get crew (number - first) ≡ Some ended
  pub driven : HasDriven next_of used begun ended actor

-- and after they have ended
abbrev pub LoadIsDone : Config → Assigned → (workers first beyond : ℕ) → View Actor → Load → Type 0
LoadIsDone config (scripts all) workers first beyond view (Scripted jobs) =
    HasScripts config all workers first beyond jobs × EachMutator view (λ number actor. HasDone (nth_script all number) (work.replies_of jobs number) actor)
LoadIsDone config (users firsts) workers first beyond view (Driven crew) =
    IsCrewed config firsts workers × (length crew.items ≡ length (crew_of firsts first beyond)) × EachMutator view (HasUsed firsts crew.items first)
LoadIsDone config _ workers first beyond view _ = ⊥

-- a part before its run
pub record PartIsReady (heap : Heap) (assigned : Assigned) (workers first beyond : ℕ) (part : Part) : Type 0 where
  pub has : IsPart heap workers first beyond part
  pub load : IsLoad (config_of heap) assigned workers first beyond part.load
  pub start : CanBeRunBy part.bundle part.load

-- a part after its run
pub record IsDone (heap : Heap) (assigned : Assigned) (workers first beyond : ℕ) (part : Part) : Type 0 where
  pub has : IsPart heap workers first beyond part
  pub idle : AreIdleForGood part.bundle
  pub load : LoadIsDone (config_of heap) assigned workers first beyond (view_of part.bundle) part.load

-- the first so many parts, each of one bundle
abbrev pub AreReady : Heap → Assigned → ℕ → List Part → Type 0
AreReady heap assigned workers parts = (index : ℕ) (part : Part) → slice_get parts index ≡ Some part → PartIsReady heap assigned workers index (index + 1) part

-- the bundles of a heap that was just opened
abbrev pub BundlesAreFresh : Heap → List Bundle → Type 0
BundlesAreFresh heap bundles = (index : ℕ) (bundle : Bundle) → slice_get bundles index ≡ Some bundle → IsFresh heap bundle (dealt_to (length bundles) index (whole (heap_opening (config_of heap)).machines))

-- such bundles, and the work for all its mutators
pub record CanBeDealt (heap : Heap) (all : Scripts) (jobs : Jobs) (bundles : List Bundle) : Type 0 where
  pub fresh : BundlesAreFresh heap bundles
  pub jobs_are : jobs ≡ work.opened all
  pub count : length all ≡ (config_of heap).mutators
  pub runnable : All IsRunnable all
