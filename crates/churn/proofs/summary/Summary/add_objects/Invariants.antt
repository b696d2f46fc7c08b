use Rattle.std.proofs.Common.{◌≡◌, take}
use Rattle.churn.specs.Summary.{with_rows}
use Rattle.churn.proofs.summary.Summary.add_objects.Given as goal

abbrev pub invariant-loop-row : goal.invariant-loop-row
invariant-loop-row locals = locals.self ≡ with_rows locals.fn.self (take locals.row locals.graph.rows)
