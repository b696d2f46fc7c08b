use Rattle.std.specs.Arc.{arc_value}
use Rattle.heap_seats.proofs.Opened.{Opens}
use Rattle.heap_seats.proofs.opening.seated.Given as goal

abbrev pub invariant-loop-number : goal.invariant-loop-number
invariant-loop-number loop = Opens loop.config (arc_value loop.heap) loop.bundles.items loop.seats.items loop.number
