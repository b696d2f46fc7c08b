-- What a run makes that goes on from a dump.
use Rattle.std.specs.Prelude.{ℕ, ◌≡◌, ◌+◌, ◌<◌, List, length, map, All}
use Rattle.heap_words.specs.declared.config.Config.{Config}
use Rattle.heap_words.specs.declared.schedule.Item.{Item}
use Rattle.heap_words.specs.Words.{view, table_words}
use Rattle.heap_words.specs.Steps.{Stage, Event, go}
use Rattle.shen_graph.specs.declared.command.Command.{Command}
use Rattle.shen_graph.specs.declared.name.Name.{Name}
use Rattle.shen_graph.specs.declared.order.Order.{Order}
use Rattle.shen_graph.specs.Valid.{IsValid, most_objects}
use Rattle.shen_graph.specs.Graph.{Graph}
use Rattle.shen_graph.specs.GraphText.{Text, row_in}
use Rattle.shen_graph.specs.History.{Entry, after, of_thread, replies_of, Follows, EachIsLegal}
use Rattle.shen_graph.specs.Crowd.{AreCrowded}
use Rattle.shen_graph.specs.Reach.{IsReach}
use Rattle.shen_graph.specs.Step.{name_in}
use Rattle.heap_machines.specs.Pause.{pause_image}
use Rattle.step_core.specs.Actor.{Actor}
use Rattle.step_core.specs.Machines.{kind}
use Rattle.step_core.specs.History.{history}
use Rattle.step_core.specs.Schedule.{Scripts, schedule_events}
use Rattle.heap_machines.specs.FromImage.{stage_from}
use Rattle.shen_core.specs.Progress.{AreIdle}
use Rattle.trace_text.specs.Answer.{answer_text}
use Rattle.graph_placing.specs.PlacedHeap.{IsPlaced}
use Rattle.heap_dump.specs.Dumped.{most_made, dumped, graph_in}

-- the stage and the history of events from a stage on, in a heap whose pauses go on to the next phase of the cycle, or make room
abbrev pub led_to : Config → Stage Actor → List (Event Order) → Stage Actor
led_to config start events = go (kind pause_image config) start events

abbrev pub history_from : Config → Stage Actor → List (Event Order) → List Entry
history_from config start events = history pause_image config start events

-- Events from a stage of a graph on, after which all machines are idle. In their history each thread's commands are its script, whole and
-- in order; each entry is a legal step from that graph; and each allocation that was refused was crowded out.
pub record IsWholeFrom (config : Config) (start : Stage Actor) (graph : Graph) (scripts : Scripts) (events : List (Event Order)) : Type 0 where
  pub idle : AreIdle config scripts (led_to config start events)
  pub follows : Follows scripts (history_from config start events)
  pub each : EachIsLegal config.regions config.region_words graph (history_from config start events)
  pub crowded : AreCrowded config.regions config.region_words graph scripts (history_from config start events)

-- the text of the replies of a history that begins with a graph, and of the graph after it, with what is pinned
pub record IsAnswerFrom (graph : Graph) (threads : ℕ) (entries : List Entry) (out : List ℕ) : Type 0 where
  pub names : List Name
  pub reach : IsReach (after graph entries) names
  pub text : out ≡ answer_text 2 threads (λ t. replies_of (of_thread entries t)) (map (row_in (after graph entries)) names)
      (after graph entries).root (λ thread slot. name_in ((after graph entries).pin thread slot))

-- a script of commands in range, that are no more than there are names left for a thread of a dump
abbrev pub IsRunnableAfter : List Command → Type 0
IsRunnableAfter script = All IsValid script × (length script + most_made < most_objects)

-- so many events of a schedule from a stage on leave a machine that is not idle
pub record IsLeftBusy (config : Config) (start : Stage Actor) (scripts : Scripts) (items : List Item) (limit : ℕ) : Type 0 where
  pub busy : AreIdle config scripts (led_to config start (schedule_events pause_image config scripts items limit start)) → ⊥
  pub count : length (schedule_events pause_image config scripts items limit start) ≡ limit

-- The words of a whole heap in which a dump's objects were placed, and machines whose threads have made as many objects as it says: exactly
-- the events of the schedule, and of the rounds after it, come to an end there, and the text is the answer of their history, from the dump's graph.
pub record IsResumed (config : Config) (counts : List ℕ) (t : Text) (scripts : Scripts) (items : List Item) (limit : ℕ) (out : List ℕ) : Type 0 where
  pub words : List ℕ
  pub size : length words ≡ table_words config
  pub placed : IsPlaced config t (view config words)
  pub whole : IsWholeFrom config (stage_from config words counts) (graph_in (dumped config counts t)) scripts (schedule_events pause_image config scripts items limit (stage_from config words counts))
  pub text : IsAnswerFrom (graph_in (dumped config counts t)) config.mutators (history_from config (stage_from config words counts) (schedule_events pause_image config scripts items limit (stage_from config words counts))) out

-- so many events from there leave a machine that is not idle
pub record IsCutFrom (config : Config) (counts : List ℕ) (text : Text) (scripts : Scripts) (items : List Item) (limit : ℕ) : Type 0 where
  pub words : List ℕ
  pub size : length words ≡ table_words config
  pub placed : IsPlaced config text (view config words)
  pub cut : IsLeftBusy config (stage_from config words counts) scripts items limit
