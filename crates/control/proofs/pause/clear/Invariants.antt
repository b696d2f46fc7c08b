use Rattle.control.proofs.ZeroedWords.{IsCleared}
use Rattle.control.proofs.pause.clear.Given as goal

abbrev pub invariant-loop-at : goal.invariant-loop-at
invariant-loop-at loop = IsCleared loop.initial.image loop.image loop.at
