-- What memory shows once a schedule was run from a stage.
use Rattle.std.specs.Prelude.{ℕ, ◌≡◌, ◌<◌, List}
use Rattle.heap_words.specs.declared.config.Config.{Config}
use Rattle.heap_words.specs.declared.schedule.Item.{Item}
use Rattle.heap_words.specs.Steps.{Stage}
use Rattle.shen_graph.specs.Work as work
use Rattle.heap_machines.specs.Pause.{pause_image}
use Rattle.step_core.specs.Actor.{Actor}
use Rattle.step_core.specs.Schedule.{Scripts, schedule_events}
use Rattle.shen_core.specs.declared.plain.Plain.{Plain}
use Rattle.shen_core.specs.State.{config_of, Shows}
use Rattle.shen_core.specs.Progress.{Jobs, Tells, AreIdle}
use Rattle.shen_core.specs.Calls.{AllHaveCalled}
use Rattle.trace_text.specs.declared.answer.Answer.{Answer}
use Rattle.heap_dump.specs.declared.goes_on.Continued.{Continued}
use Rattle.heap_dump.specs.declared.goes_on.Continued.TheVariants.{Answered, Unfinished, TooSmall}
use Rattle.heap_dump.specs.Resumed.{led_to}

-- a fact of the answer, where there is one
abbrev pub IfAnswered : Continued → (Answer → Type 0) → Type 0
IfAnswered (Answered answer) P = P answer
IfAnswered Unfinished P = Unit {0}
IfAnswered TooSmall P = Unit {0}

-- All machines are idle after the events of the schedule, and each mutator has called its whole script; memory shows the end, and the
-- work has the replies.
pub record HasEndedFrom (c : Config) (start : Stage Actor) (scripts : Scripts) (items : List Item) (limit : ℕ) (jobs : Jobs) (plain : Plain) : Type 0 where
  pub config : config_of plain ≡ c
  pub idle : AreIdle c scripts (led_to c start (schedule_events pause_image c scripts items limit start))
  pub called : AllHaveCalled c scripts (led_to c start (schedule_events pause_image c scripts items limit start))
  pub shows : Shows plain (led_to c start (schedule_events pause_image c scripts items limit start))
  pub tells : Tells c scripts jobs (led_to c start (schedule_events pause_image c scripts items limit start))
  pub jobs_are : (mutator : ℕ) → mutator < c.mutators → work.HasScript jobs mutator
