use Rattle.std.proofs.Common.{sym}
use Rattle.trace_reading.proofs.LoopReading.{kind_found, kind_goes_on, kinds_end}
use Rattle.trace_reading.proofs.kind_scan.kind_among.Goals as goal

pub loop-kind-preserved : goal.loop-kind-preserved
loop-kind-preserved c =
    kind_goes_on c.args.kinds.now c.loop-kind.kind-index c.args.bytes.now _ c.loop-kind-test.true (rw (← c.word.ensures) (sym c.in_default.ensures)) c.loop-kind.invariant

pub returns-in-Some : goal.returns-in-Some
returns-in-Some c =
    sym (kind_found c.args.kinds.now c.loop-kind.kind-index c.args.bytes.now c.in-Some.rest.now _ c.loop-kind-test.true (rw (← c.word.ensures) (sym c.in-Some.ensures)) c.loop-kind.invariant)

pub returns : goal.returns
returns c = sym (kinds_end c.args.kinds.now c.loop-kind.kind-index c.args.bytes.now _ c.loop-kind-test.false c.loop-kind.invariant)
