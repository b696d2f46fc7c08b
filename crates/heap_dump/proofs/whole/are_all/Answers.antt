use Rattle.std.proofs.Common.{arith, refl}
use Rattle.heap_dump.proofs.whole.are_all.Goals as goal

pub returns : goal.returns
returns c = (λ result_true row low. c.loop-mark.invariant row (omega (arith, low, c.loop-mark-test.false)), λ all_marked. refl)
