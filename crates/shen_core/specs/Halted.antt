-- Rounds of a pause in which nobody moves but the control.
use Rattle.std.specs.Prelude.{ℕ, zero, suc, ◌≡◌, ◌<◌, ◌+◌, ◌-◌, false, ◌⊎◌, Option, is_some}
use Rattle.shen_graph.specs.declared.command.Command.{Command}
use Rattle.step_core.specs.Machines.{order_for}
use Rattle.heap_machines.specs.Inside.{loads_left, stores_left}
use Rattle.shen_core.specs.declared.plain.Plain.{Plain}
use Rattle.shen_core.specs.State.{config_of, machine_at, IsHalted}

-- the machine makes no step on its turn, whatever command would follow
abbrev pub IsAtEnd : Plain → ℕ → Type 0
IsAtEnd plain number = (next_command : Option Command) → is_some (order_for next_command (machine_at plain number)) ≡ false

-- of the machines below a number so many wait for the end of a pause that goes on, and all others make no step
abbrev pub AreHalted : Plain → ℕ → ℕ → Type 0
AreHalted plain zero waiting = waiting ≡ 0
AreHalted plain (suc number) waiting = ((0 < waiting) × IsHalted plain number × AreHalted plain number (waiting - 1)) ⊎ (IsAtEnd plain number × AreHalted plain number waiting)

-- how many steps the machine makes from a word of the image to the next one, one after the other
abbrev pub words_left : Plain → ℕ → ℕ
words_left plain number = loads_left (config_of plain) (machine_at plain number) + stores_left (config_of plain) (machine_at plain number)
