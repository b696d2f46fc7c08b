use Rattle.heap_machines.specs.Pause.{pause_image}
use Rattle.image_graph.specs.State.{config_of}
use Rattle.step_core.specs.Begins.{graph_after}
use Rattle.table_heap.specs.Closed.{stage_of}
use Rattle.table_heap.proofs.Graphs.{names, words_stand, some_stand}
use Rattle.table_heap.proofs.closed.Closed.graph.Goals as goal

pub answer_graph-requires-clause-stand : goal.answer_graph-requires-clause-stand
answer_graph-requires-clause-stand c = let closed = c.args.self.now in some_stand (config_of closed.image) (stage_of closed) c.requires.rest closed.calm closed.key closed.same_sizes closed.reached

pub returns-clause-shows : goal.returns-clause-shows
returns-clause-shows c run ends =
    let closed = c.args.self.now in
    let config = config_of closed.image in
    c.answer_graph.ensures.shows (names config (stage_of closed) c.requires.rest closed.calm run ends) (graph_after pause_image config run) (words_stand config (stage_of closed) c.requires.rest closed.calm run ends)
