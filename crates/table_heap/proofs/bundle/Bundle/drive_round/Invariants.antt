use Rattle.table_heap.proofs.Rounds.{IsDrivenRound}
use Rattle.table_heap.proofs.bundle.Bundle.drive_round.Given as goal

abbrev pub invariant-loop-number : goal.invariant-loop-number
invariant-loop-number g loop = IsDrivenRound g.D.Driver.next_of g.D.Driver.replied g.D.Driver.to_come loop.initial.self loop.initial.drivers loop.number loop.place loop.self loop.drivers loop.round
