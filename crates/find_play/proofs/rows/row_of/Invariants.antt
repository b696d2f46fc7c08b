use Rattle.std.proofs.Common.{◌≡◌, drop}
use Rattle.find_play.specs.Rows.{row_for}
use Rattle.find_play.proofs.rows.row_of.Given as goal

abbrev pub invariant-loop-row : goal.invariant-loop-row
invariant-loop-row locals = row_for (drop locals.row locals.graph.rows) locals.name ≡ row_for locals.graph.rows locals.name
