use Rattle.heap_seats.proofs.Loops.{GoesOn}
use Rattle.heap_seats.proofs.seat.Seat.go.Given as goal

abbrev pub invariant-loop-made : goal.invariant-loop-made
invariant-loop-made loop = GoesOn loop.initial.self loop.self loop._made
