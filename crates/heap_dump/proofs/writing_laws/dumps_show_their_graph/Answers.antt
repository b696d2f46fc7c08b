use Rattle.heap_dump.proofs.OwnGraph.{own_dump}
use Rattle.heap_dump.proofs.writing_laws.dumps_show_their_graph.Goals as goal

pub returns : goal.returns
returns c = own_dump
