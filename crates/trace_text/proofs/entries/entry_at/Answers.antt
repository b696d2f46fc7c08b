use Rattle.std.proofs.Common.{ℕ, List, sym, arith}
use Rattle.trace_reading.proofs.GrammarNumbers.{positive_takes}
use Rattle.trace_text.proofs.entries.entry_at.Goals as goal

pub overflow_cast-entry : goal.overflow_cast-entry
overflow_cast-entry c =
    let read : ℕ × List ℕ = (c.in-Some.thread, c.in-Some.rest.now) in
    let few = (positive_takes c.from.result c.args.bytes.now read (omega (arith, c.from.ensures, c.ranges.threads.fits)) (sym c.in-Some.ensures)).2 in
    omega (arith, few, c.from.ensures, c.ranges.threads.fits)
