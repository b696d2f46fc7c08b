-- Work that is handed over to a mutator.
use Rattle.std.specs.Prelude.{ℕ, ◌≡◌, ◌≢◌, ◌<◌, true, List, [], ◌∷◌, Option, Some, None}
use Rattle.shen_graph.specs.declared.command.Command.{Command}
use Rattle.shen_graph.specs.Work.{progress_of, begun}
use Rattle.step_core.specs.Machines.{is_resting}
use Rattle.step_core.specs.Settled.{image_read, control_number}
use Rattle.shen_core.specs.Progress.{Jobs}
use Rattle.shen_core.specs.State.{config_of, machine_at, seats_of}
use Rattle.find_search.specs.declared.course.Course.{Course}

-- a script of one command, or of none
abbrev pub short_script : Option Command → List Command
short_script None = []
short_script (Some command) = command ∷ []

-- the work of one mutator alone, of which nothing was done
pub record IsWorkOf (mutator : ℕ) (script : List Command) (jobs : Jobs) : Type 0 where
  pub own : progress_of jobs mutator ≡ Some (begun script)
  pub others : (t : ℕ) → t < 8 → t ≢ mutator → progress_of jobs t ≡ None

-- a mutator has got another script, and the others have what they had
pub record IsHandedOver (mutator : ℕ) (script : List Command) (old new : Jobs) : Type 0 where
  pub own : progress_of new mutator ≡ Some (begun script)
  pub others : (t : ℕ) → t < 8 → t ≢ mutator → progress_of new t ≡ progress_of old t

-- how many machines there are, and how many of them are mutators
abbrev pub machines_in : Course → ℕ
machines_in course = seats_of course.plain

abbrev pub mutators_in : Course → ℕ
mutators_in course = (config_of course.plain).mutators

-- the control is not storing a new image
abbrev pub HasControlEnded : Course → Type 0
HasControlEnded course = image_read (machine_at course.plain (control_number (config_of course.plain))) ≡ None

-- the mutator has no call in progress
abbrev pub IsResting : Course → ℕ → Type 0
IsResting course number = is_resting (machine_at course.plain number) ≡ true

abbrev pub DoMutatorsRest : Course → Type 0
DoMutatorsRest course = (number : ℕ) → number < (config_of course.plain).mutators → IsResting course number
