-- What memory shows once a trace was run.
use Rattle.std.specs.Prelude.{ℕ, ◌≡◌, ◌<◌, List, Some, slice_get}
use Rattle.heap_words.specs.declared.config.Config.{Config}
use Rattle.heap_words.specs.declared.schedule.Item.{Item}
use Rattle.heap_words.specs.Steps.{IsReached}
use Rattle.shen_graph.specs.History as history
use Rattle.shen_graph.specs.Work as work
use Rattle.step_core.specs.Actor.{Actor}
use Rattle.step_core.specs.Schedule.{Scripts}
use Rattle.shen_core.specs.declared.plain.Plain.{Plain}
use Rattle.shen_core.specs.State.{config_of, Shows}
use Rattle.shen_core.specs.Progress.{Jobs, Tells, AreIdle}
use Rattle.shen_core.specs.Calls.{AllHaveCalled}
use Rattle.table_heap.specs.declared.closed.Closed.{Closed}
use Rattle.table_heap.specs.Closed as closed
use Rattle.table_heap.specs.Core.{heap_kind, heap_opening}
use Rattle.trace_runs.specs.Replayed.{end_of}

-- All machines are idle after the events of the trace, and each mutator has called its whole script; memory shows the end,
-- and the work has the replies.
pub record HasFinished (c : Config) (scripts : Scripts) (items : List Item) (limit : ℕ) (jobs : Jobs) (plain : Plain) : Type 0 where
  pub config : config_of plain ≡ c
  pub idle : AreIdle c scripts (end_of c scripts items limit)
  pub called : AllHaveCalled c scripts (end_of c scripts items limit)
  pub shows : Shows plain (end_of c scripts items limit)
  pub tells : Tells c scripts jobs (end_of c scripts items limit)
  pub jobs_are : (mutator : ℕ) → mutator < c.mutators → work.HasScript jobs mutator

-- Threads have made events after which all machines are idle, and each mutator has called its whole script; memory has the words
-- and machines after them, and the work has the replies.
pub record HasCome (c : Config) (scripts : Scripts) (jobs : Jobs) (h : Closed) : Type 0 where
  pub config : closed.config_of h ≡ c
  pub reached : IsReached (heap_kind c) (heap_opening c) (closed.stage_of h)
  pub idle : AreIdle c scripts (closed.stage_of h)
  pub called : AllHaveCalled c scripts (closed.stage_of h)
  pub replies : (mutator : ℕ) (actor : Actor) → mutator < c.mutators → slice_get (closed.machines_of h) mutator ≡ Some actor → work.replies_of jobs mutator ≡ history.replies_of actor.calls
  pub jobs_are : (mutator : ℕ) → mutator < c.mutators → work.HasScript jobs mutator
