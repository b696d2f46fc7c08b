-- The whole run of a schedule.
use Rattle.std.specs.Prelude.{ℕ, ◌≡◌, List, length}
use Rattle.heap_words.specs.declared.config.Config.{Config}
use Rattle.heap_words.specs.declared.schedule.Item.{Item}
use Rattle.heap_words.specs.Steps.{Stage, go}
use Rattle.step_core.specs.Actor.{Actor}
use Rattle.heap_machines.specs.Pause.{pause_image}
use Rattle.step_core.specs.Machines.{kind}
use Rattle.step_core.specs.Schedule.{Scripts, Agenda, scheduled, agenda_of}
use Rattle.shen_core.specs.declared.plain.Plain.{Plain}
use Rattle.shen_core.specs.declared.run.Ran.{Ran}
use Rattle.shen_core.specs.declared.run.Ran.TheVariants.{Finished, Unfinished}
use Rattle.shen_core.specs.State.{config_of, Shows}
use Rattle.shen_core.specs.Progress.{Jobs, Tells, AreIdle}
use Rattle.shen_core.specs.Calls.{AllCall, AllHaveCalled}

-- all machines are idle; or some is not, and so many events were made as were allowed
abbrev pub HasEnded : Config → Scripts → Stage Actor → ℕ → ℕ → Ran → Type 0
HasEnded config scripts stage events limit Finished = AreIdle config scripts stage
HasEnded config scripts stage events limit Unfinished = (AreIdle config scripts stage → ⊥) × (events ≡ limit)

-- Memory shows the stage after the events of the agenda, and the work tells its replies. If each mutator's calls were the
-- first of its script before, they are so then, and where all machines have become idle they are the whole script.
pub record HasRun (config : Config) (scripts : Scripts) (stage : Stage Actor) (agenda : Agenda) (limit : ℕ) (plain : Plain) (later : Jobs) (result : Ran) : Type 0 where
  pub shows : Shows plain (go (kind pause_image config) stage (scheduled pause_image config scripts limit agenda stage))
  pub tells : Tells config scripts later (go (kind pause_image config) stage (scheduled pause_image config scripts limit agenda stage))
  pub ended : HasEnded config scripts (go (kind pause_image config) stage (scheduled pause_image config scripts limit agenda stage)) (length (scheduled pause_image config scripts limit agenda stage)) limit result
  pub calls : AllCall config scripts stage → AllCall config scripts (go (kind pause_image config) stage (scheduled pause_image config scripts limit agenda stage))
  pub whole : result ≡ Finished → AllCall config scripts stage → AllHaveCalled config scripts (go (kind pause_image config) stage (scheduled pause_image config scripts limit agenda stage))

-- whatever stage memory showed, the agenda was run from there
abbrev pub EndsRun : Plain → Jobs → Agenda → ℕ → Plain → Jobs → Ran → Type 0
EndsRun plain jobs agenda limit after later result =
    (scripts : Scripts) (stage : Stage Actor) → Shows plain stage → Tells (config_of plain) scripts jobs stage → HasRun (config_of plain) scripts stage agenda limit after later result

-- whatever stage memory showed, exactly the events of the schedule were made from there, cut after so many
abbrev pub RunsSchedule : Plain → Jobs → List Item → ℕ → Plain → Jobs → Ran → Type 0
RunsSchedule plain jobs items limit after later result = EndsRun plain jobs (agenda_of items) limit after later result
