use Rattle.table_heap.proofs.Rounds.{IsInRound}
use Rattle.table_heap.proofs.bundle.Bundle.round.Given as goal

abbrev pub invariant-loop-number : goal.invariant-loop-number
invariant-loop-number g locals = IsInRound locals.initial.self locals.initial.work locals.number locals.self locals.work locals.round
