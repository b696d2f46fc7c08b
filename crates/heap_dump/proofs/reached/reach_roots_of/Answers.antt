use Rattle.heap_dump.proofs.RowMarks.{root_led}
use Rattle.heap_dump.proofs.reached.reach_roots_of.Goals as goal

pub reach-requires-clause-led : goal.reach-requires-clause-led
reach-requires-clause-led c = root_led c.args.graph.now c.args.thread c.loop-index.index c.root_at.result c.requires.thread.0 c.root_at.ensures
