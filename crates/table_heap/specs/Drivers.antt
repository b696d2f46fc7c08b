-- What a driver gives and what it becomes, by the replies that it takes.
use Rattle.std.specs.Prelude.{◌≡◌, List, [], ◌∷◌, Option, Some}
use Rattle.shen_graph.specs.declared.command.Command.{Command}
use Rattle.shen_graph.specs.declared.command.Reply.{Reply}
use Rattle.shen_graph.specs.History.{Entry}

-- The entries are those of a driver that begins in this state: each command is the next one that it gives, and it goes on by each
-- reply.
abbrev pub IsDrivenFrom : {D : Type 0} → (D → Option Command) → (D → Reply → D) → D → List Entry → Type 0
IsDrivenFrom next_of replied state [] = Unit {0}
IsDrivenFrom next_of replied state (entry ∷ entries) = (next_of state ≡ Some entry.command) × IsDrivenFrom next_of replied (replied state entry.reply) entries

-- its state after the replies of these entries
abbrev pub driver_after : {D : Type 0} → (D → Reply → D) → D → List Entry → D
driver_after replied state [] = state
driver_after replied state (entry ∷ entries) = driver_after replied (replied state entry.reply) entries
