use Rattle.trace_text.proofs.Wanted.{entry_wanted}
use Rattle.trace_text.proofs.pair.wanted_at.Goals as goal

pub returns-in-Some : goal.returns-in-Some
returns-in-Some c = entry_wanted c.args.bytes.now c.in-Some.field-0.0.now c.in-Some.field-0.1.now c.in-Some.ensures
