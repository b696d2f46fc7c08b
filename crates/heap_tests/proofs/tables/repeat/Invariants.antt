use Rattle.heap_tests.specs.Ordered.{IsPlaying}
use Rattle.heap_tests.proofs.tables.repeat.Given as goal

abbrev pub invariant-loop-turn : goal.invariant-loop-turn
invariant-loop-turn g locals = IsPlaying locals.shared.heap locals.shared.bundle locals.shared.work locals.shared.config locals.shared.between
