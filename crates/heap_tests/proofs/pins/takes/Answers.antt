use Rattle.heap_tests.proofs.Counts.{accepted_le}
use Rattle.heap_tests.proofs.pins.takes.Goals as goal

pub returns-clause-made : goal.returns-clause-made
returns-clause-made c = accepted_le c.in_ok-may.may 4 64 c.args.graph.now c.accept.new.self c.args.thread c.args.command c.args.reply c.in_ok-may.ensures.ok
