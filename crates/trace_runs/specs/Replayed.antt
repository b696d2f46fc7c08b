-- What a trace makes its heap do.
use Rattle.std.specs.Prelude.{ℕ, ◌≡◌, ◌++◌, List, length}
use Rattle.heap_words.specs.declared.config.Config.{Config}
use Rattle.heap_words.specs.declared.schedule.Item.{Item}
use Rattle.heap_words.specs.Steps.{Stage, Event}
use Rattle.shen_graph.specs.Graph.{opening as graph_opening}
use Rattle.shen_graph.specs.History.{Entry, after, Follows}
use Rattle.shen_graph.specs.Crowd.{IsLegalHistory}
use Rattle.shen_graph.specs.declared.order.Order.{Order}
use Rattle.heap_machines.specs.Pause.{pause_image}
use Rattle.step_core.specs.Actor.{Actor}
use Rattle.step_core.specs.Opening.{opening}
use Rattle.step_core.specs.Schedule.{Scripts, schedule_events}
use Rattle.step_core.specs.Begins.{reached, past}
use Rattle.shen_core.specs.Progress.{AreIdle}
use Rattle.trace_reading.specs.Grammar.{Reads}
use Rattle.trace_text.specs.Answer.{IsAnswerText}
use Rattle.trace_text.specs.History.{history_text}
use Rattle.heap_dump.specs.Dumped.{Dumped, IsDumpOf}
use Rattle.heap_dump.specs.DumpText.{dump_text}
use Rattle.heap_dump.specs.ObjectsMade.{objects_made_by_each}

-- the events of a trace, in a heap whose pauses go on to the next phase of the cycle, or make room: those of its
-- schedule and of the rounds after it, from the opening on, cut after so many
abbrev pub events_of : Config → Scripts → List Item → ℕ → List (Event Order)
events_of config scripts items limit = schedule_events pause_image config scripts items limit (opening config)

-- the history of these events, and the words and machines after them
abbrev pub history_of : Config → Scripts → List Item → ℕ → List Entry
history_of config scripts items limit = past pause_image config (events_of config scripts items limit)

abbrev pub end_of : Config → Scripts → List Item → ℕ → Stage Actor
end_of config scripts items limit = reached pause_image config (events_of config scripts items limit)

-- Events from the opening on, after which all machines are idle: all mutators have ended, and so have the control and all
-- helpers. In their history each thread's commands are its script, whole and in order; each entry is a legal step from the
-- opening graph; and each allocation that was refused was crowded out by live objects and the other threads' allocations that
-- were not answered yet.
pub record IsWhole (config : Config) (scripts : Scripts) (events : List (Event Order)) : Type 0 where
  pub idle : AreIdle config scripts (reached pause_image config events)
  pub follows : Follows scripts (past pause_image config events)
  pub legal : IsLegalHistory config.regions config.region_words scripts (past pause_image config events)

-- The bytes are a trace, its events come to an end, and the text is the answer of their history.
pub record IsReplayed (bytes : List ℕ) (limit : ℕ) (out : List ℕ) : Type 0 where
  pub version : ℕ
  pub config : Config
  pub scripts : Scripts
  pub items : List Item
  pub reads : Reads bytes version config scripts items
  pub whole : IsWhole config scripts (events_of config scripts items limit)
  pub text : IsAnswerText version config.mutators (history_of config scripts items limit) out

-- The same, and behind the answer the text has that history.
pub record IsReplayedNoted (bytes : List ℕ) (limit : ℕ) (out : List ℕ) : Type 0 where
  pub version : ℕ
  pub config : Config
  pub scripts : Scripts
  pub items : List Item
  pub reads : Reads bytes version config scripts items
  pub whole : IsWhole config scripts (events_of config scripts items limit)
  pub answer : List ℕ
  pub text : IsAnswerText version config.mutators (history_of config scripts items limit) answer
  pub out_is : out ≡ answer ++ history_text (history_of config scripts items limit)

-- The bytes are a trace, its events come to an end, and the text is the dump of the graph after their history. For each thread it has the
-- number of its allocations that were answered a name.
pub record IsReplayedToDump (bytes : List ℕ) (limit : ℕ) (out : List ℕ) : Type 0 where
  pub version : ℕ
  pub config : Config
  pub scripts : Scripts
  pub items : List Item
  pub reads : Reads bytes version config scripts items
  pub whole : IsWhole config scripts (events_of config scripts items limit)
  pub dump : Dumped
  pub is : IsDumpOf config (after (graph_opening config.mutators) (history_of config scripts items limit)) dump
  pub counts : dump.counts ≡ objects_made_by_each (history_of config scripts items limit) config.mutators
  pub text : out ≡ dump_text dump

-- The bytes are a trace, some events of its machines come to an end, and the text is the answer of their history. The events are
-- those of the threads in an order of all; the trace's own schedule has no part in it.
pub record IsRun (bytes : List ℕ) (out : List ℕ) : Type 0 where
  pub version : ℕ
  pub config : Config
  pub scripts : Scripts
  pub items : List Item
  pub reads : Reads bytes version config scripts items
  pub events : List (Event Order)
  pub whole : IsWhole config scripts events
  pub text : IsAnswerText version config.mutators (past pause_image config events) out

-- so many events of a trace leave a machine that is not idle
pub record IsCut (config : Config) (scripts : Scripts) (items : List Item) (limit : ℕ) : Type 0 where
  pub busy : AreIdle config scripts (end_of config scripts items limit) → ⊥
  pub count : length (events_of config scripts items limit) ≡ limit

-- the bytes are a trace, and so many of its events leave a machine that is not idle
pub record IsUnfinished (bytes : List ℕ) (limit : ℕ) : Type 0 where
  pub version : ℕ
  pub config : Config
  pub scripts : Scripts
  pub items : List Item
  pub reads : Reads bytes version config scripts items
  pub cut : IsCut config scripts items limit
