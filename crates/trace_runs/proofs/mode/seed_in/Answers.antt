use Rattle.trace_runs.proofs.Words.{zero_named, seed_named}
use Rattle.trace_runs.proofs.mode.seed_in.Goals as goal

pub returns-then-eq : goal.returns-then-eq
returns-then-eq c = zero_named c.args.word.now c.if-eq.ensures

pub returns-else-eq : goal.returns-else-eq
returns-else-eq c = seed_named c.args.word.now c.number_in.result c.if-eq.ensures (rw (← c.as_bytes.ensures.value) c.number_in.ensures)
