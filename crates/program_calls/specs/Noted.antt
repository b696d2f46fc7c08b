-- A trace with the schedule of a run on threads.
use Rattle.std.specs.Prelude.{ℕ, ◌+◌, ◌≤◌, List, [], ◌∷◌}
use Rattle.std.specs.List.{AllByRecursion}
use Rattle.heap_words.specs.declared.config.Config.{Config}
use Rattle.heap_words.specs.declared.schedule.Item.{Item}
use Rattle.heap_words.specs.declared.schedule.Item.TheVariants.{Steps}
use Rattle.step_core.specs.Schedule.{Scripts}
use Rattle.trace_reading.specs.Grammar.{Reads}
use Rattle.trace_runs.specs.Words.{usual_steps}
use Rattle.trace_runs.specs.Replayed.{IsRun, IsReplayed}
use Rattle.program_calls.specs.declared.note.Noted.{Noted}
use Rattle.program_calls.specs.declared.note.Noted.TheVariants.{Text}

-- an item that says how many steps a machine makes
abbrev pub IsOfSteps : Item → Type 0
IsOfSteps (Steps number count) = Unit {0}
IsOfSteps _ = ⊥

-- the steps that such items name
abbrev pub steps_named : List Item → ℕ
steps_named [] = 0
steps_named (Steps number count ∷ items) = count + steps_named items
steps_named (_ ∷ items) = steps_named items

-- The text is a trace of this version, of this heap and of these scripts, and its schedule says step by step whose turn it is, to the end: a replay that
-- may make as many steps as the schedule names, or more, has this answer. One that may make the usual number of steps may make as many.
pub record IsReplayOf (version : ℕ) (config : Config) (scripts : Scripts) (text answer : List ℕ) : Type 0 where
  pub items : List Item
  pub reads : Reads text version config scripts items
  pub of_steps : AllByRecursion IsOfSteps items
  pub few : steps_named items ≤ usual_steps
  pub replayed : (limit : ℕ) → steps_named items ≤ limit → IsReplayed text limit answer

-- The bytes are a trace, and a run of it has an answer. The text is a trace of the same version, the same heap and the same scripts whose own schedule leads
-- to that answer.
pub record IsNotedRun (bytes text : List ℕ) : Type 0 where
  pub version : ℕ
  pub config : Config
  pub scripts : Scripts
  pub items : List Item
  pub reads : Reads bytes version config scripts items
  pub answer : List ℕ
  pub run : IsRun bytes answer
  pub replay : IsReplayOf version config scripts text answer

-- where a text comes of a run that had this answer, it is the trace of this version, this heap, these scripts and these items, and so many steps of its
-- replay lead to that answer
pub record IsReplayText (version : ℕ) (config : Config) (scripts : Scripts) (items : List Item) (steps : ℕ) (answer text : List ℕ) : Type 0 where
  pub reads : Reads text version config scripts items
  pub replayed : IsReplayed text steps answer

abbrev pub IsReplayIn : (version : ℕ) → Config → Scripts → List Item → ℕ → List ℕ → Noted → Type 0
IsReplayIn version config scripts items steps answer (Text text) = IsReplayText version config scripts items steps answer text.stored
IsReplayIn version config scripts items steps answer _ = Unit {0}

-- where a text comes of a run, it is noted of the bytes
abbrev pub IsNotedAs : List ℕ → Noted → Type 0
IsNotedAs bytes (Text text) = IsNotedRun bytes text.stored
IsNotedAs bytes _ = Unit {0}
