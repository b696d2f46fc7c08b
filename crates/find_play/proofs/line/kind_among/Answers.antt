use Rattle.std.proofs.Common.{sym}
use Rattle.find_play.proofs.KindLoop.{kind_found, kind_goes_on, kinds_end}
use Rattle.find_play.proofs.line.kind_among.Goals as goal

pub returns-then-eq : goal.returns-then-eq
returns-then-eq c = sym (kind_found c.args.kinds.now c.loop-kind.kind-index c.args.word.now _ c.loop-kind-test.true (rw (← c.word.ensures) c.if-eq.ensures) c.loop-kind.invariant)

pub loop-kind-preserved : goal.loop-kind-preserved
loop-kind-preserved c = kind_goes_on c.args.kinds.now c.loop-kind.kind-index c.args.word.now _ c.loop-kind-test.true (rw (← c.word.ensures) c.if-eq.ensures) c.loop-kind.invariant

pub returns : goal.returns
returns c = sym (kinds_end c.args.kinds.now c.loop-kind.kind-index c.args.word.now _ c.loop-kind-test.false c.loop-kind.invariant)
