-- What the seat that has all machines of a table knows of them.
use Rattle.std.specs.Prelude.{ℕ, ◌≡◌, List, Option, Some, length}
use Rattle.atomic_table.specs.Table.{Me}
use Rattle.heap_words.specs.Steps.{MachineKind, Stage, IsReached}
use Rattle.shared_table.specs.Views.{View, machines_of, HasAllMachines}

-- some events lead from the start to just these machines, and to some words
pub record StandInSomeRun {R O : Type 0} (kind : MachineKind R O) (start : Stage R) (view : View R) : Type 0 where
  pub words : List ℕ
  pub reached : IsReached kind start (record { words = words; machines = machines_of view })

-- a load has told so, of a table with this key, and changed nothing
abbrev pub TellsOfRun : {R O K S : Type 0} → (K → MachineKind R O) → (K → Stage R) → Option K → Me S (View R) → Me S (View R) → Type 0
TellsOfRun kinds starts key before after =
    (after ≡ before) × ((named_key : _) → key ≡ Some named_key → HasAllMachines (length (starts named_key).machines) before.0 → StandInSomeRun (kinds named_key) (starts named_key) before.0)
