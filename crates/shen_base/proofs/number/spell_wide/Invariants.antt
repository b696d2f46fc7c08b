use Rattle.shen_base.proofs.Digits.{IsSpelled}
use Rattle.shen_base.proofs.number.spell_wide.Given as goal

abbrev pub invariant-loop-left : goal.invariant-loop-left
invariant-loop-left loop = IsSpelled loop.number loop.left loop.from loop.digits

abbrev pub decreases-loop-left : goal.decreases-loop-left
decreases-loop-left loop = loop.left
