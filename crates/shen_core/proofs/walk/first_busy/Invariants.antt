use Rattle.shen_core.specs.Nexts.{AreIdleFrom}
use Rattle.shen_core.proofs.walk.first_busy.Given as goal

abbrev pub invariant-loop-number : goal.invariant-loop-number
invariant-loop-number l = AreIdleFrom l.plain l.from l.number
