use Rattle.std.proofs.Common.{rules, ◌<◌, ◌^◌, arith}
use Rattle.shen_base.proofs.Digits.{spelled_none, spelled_more, spelled_all, spelled_some}
use Rattle.shen_base.proofs.number.spell_wide.Goals as goal

pub loop-left-init : goal.loop-left-init
loop-left-init c = let fits : c.args.number < 2 ^ 128 = search rules in spelled_none _ _ _ (omega arith) (omega (arith, fits)) (omega (arith, fits)) (search rules)

pub overflow_sub-from : goal.overflow_sub-from
overflow_sub-from c = let fits : c.loop-left.left < 2 ^ 128 = search rules in spelled_some _ _ _ _ (omega (arith, fits)) c.loop-left.invariant

pub loop-left-preserved : goal.loop-left-preserved
loop-left-preserved c = let fits : c.loop-left.left < 2 ^ 128 = search rules in spelled_more _ _ _ _ c.loop-left-test.true (omega (arith, fits)) c.loop-left.invariant

pub overflow_sub-from-2 : goal.overflow_sub-from-2
overflow_sub-from-2 c = let fits : c.loop-left.left < 2 ^ 128 = search rules in spelled_some _ _ _ _ (omega (arith, fits)) c.loop-left.invariant

pub returns-clause-digits : goal.returns-clause-digits
returns-clause-digits c = spelled_all _ _ _ _ c.loop-left-test.false c.loop-left.invariant
