-- What else is told of a machine.
use Rattle.std.specs.Prelude.{ℕ, List, Option, Some, None}
use Rattle.heap_words.specs.declared.config.Config.{Config}
use Rattle.control.specs.Image.{IsLoadedFrom}
use Rattle.collector_rows.specs.ControlRows.{Controlling}
use Rattle.step_core.specs.Actor.{Machine}
use Rattle.step_core.specs.Machines.{control_in}
pub use Rattle.step_core.specs.Machines.{is_mutating, reply_of_step}

-- the phase that the control's last pause has chosen, if it is the control
abbrev pub phase_by : Option Controlling → Option ℕ
phase_by None = None
phase_by (Some control) = Some control.phase

abbrev pub phase_in : Machine → Option ℕ
phase_in machine = phase_by (control_in machine)

-- of the control, if it is one
abbrev pub CanShowBy : Config → List ℕ → Option Controlling → Type 0
CanShowBy config table None = ⊥
CanShowBy config table (Some control) = IsLoadedFrom config table control.spot control.image

-- It is the control, and can work on all words of the image of a table: it has loaded no other words, and stores none.
abbrev pub CanShow : Config → List ℕ → Machine → Type 0
CanShow config table machine = CanShowBy config table (control_in machine)
