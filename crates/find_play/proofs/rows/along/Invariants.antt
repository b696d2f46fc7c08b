use Rattle.std.proofs.Common.{◌≡◌, ◌-◌}
use Rattle.find_play.specs.Rows.{along}
use Rattle.find_play.proofs.rows.along.Given as goal

abbrev pub invariant-loop-made : goal.invariant-loop-made
invariant-loop-made locals = along locals.graph.rows locals.field (locals.count - locals.made) locals.at ≡ along locals.graph.rows locals.field locals.count locals.fn.from
