use Rattle.std.proofs.Common.{◌≡◌, ◌-◌, take}
use Rattle.std.specs.Prelude.{min, ◌^◌}
use Rattle.table_heap.proofs.HintTotals.{total}
use Rattle.table_heap.proofs.closed.hints_taken.Given as goal

abbrev pub invariant-loop-place : goal.invariant-loop-place
invariant-loop-place locals = locals.taken ≡ min (total (take locals.place-index locals.machines)) (2 ^ 64 - 1)
