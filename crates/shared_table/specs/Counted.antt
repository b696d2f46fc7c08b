-- Machines that count their steps. Those of a table are such, so that a contract can say how many steps a call has made, and of which
-- machines. The numbers are ghost: no word has them.
use Rattle.std.specs.Prelude.{ℕ, ◌+◌, map}
use Rattle.atomic_table.specs.Table.{Me}
use Rattle.heap_words.specs.Steps.{MachineKind, Stage}
use Rattle.shared_table.specs.Views.{View, kept_in_view}

-- a machine, and how many steps it has made
pub record Counted (R : Type 0) : Type 0 where
  pub machine : R
  pub steps : ℕ

-- the machine alone
abbrev pub uncounted_machine : {R : Type 0} → Counted R → R
uncounted_machine counted = counted.machine

-- and the number alone
abbrev pub steps_made : {R : Type 0} → Counted R → ℕ
steps_made counted = counted.steps

-- a machine that has made none
abbrev pub at_start : {R : Type 0} → R → Counted R
at_start machine = record { machine = machine; steps = 0 }

-- machines of a kind that count their steps: an event is one of the machine, and one step more
abbrev pub counting : {R O : Type 0} → MachineKind R O → MachineKind (Counted R) O
counting kind = record {
  takes = λ counted order. kind.takes counted.machine order;
  plan = λ counted order. kind.plan counted.machine order;
  took = λ counted order got. record { machine = kind.took counted.machine order got; steps = counted.steps + 1 };
}

-- a stage whose machines have made no step
abbrev pub counted_from : {R : Type 0} → Stage R → Stage (Counted R)
counted_from stage = record { words = stage.words; machines = map at_start stage.machines }

-- a stage without the numbers
abbrev pub uncounted_stage : {R : Type 0} → Stage (Counted R) → Stage R
uncounted_stage stage = record { words = stage.words; machines = map uncounted_machine stage.machines }

-- the machines of a view without the numbers
abbrev pub uncounted_view : {R : Type 0} → View (Counted R) → View R
uncounted_view view = kept_in_view uncounted_machine view

-- and the numbers
abbrev pub steps_in_view : {R : Type 0} → View (Counted R) → View ℕ
steps_in_view view = kept_in_view steps_made view

-- what a seat knows without the numbers
abbrev pub uncounted_seat : {S R : Type 0} → Me S (View (Counted R)) → Me S (View R)
uncounted_seat me = (uncounted_view me.0, me.1)
