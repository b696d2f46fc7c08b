use Rattle.std.proofs.Common.{◌≡◌, refl, subst, ◌∙◌}
use Rattle.heap_world.specs.Shows.{ShowsGraph}
use Rattle.heap_machines.specs.Pause.{pause_image}
use Rattle.step_core.specs.Begins.{Run, ending, graph_after}
use Rattle.table_heap.specs.Closed.{config_of, stage_of}
use Rattle.trace_runs.proofs.Texts.{has_room, has_threads}
use Rattle.trace_runs.proofs.runs.graph_of.Goals as goal

pub returns-clause-shows : goal.returns-clause-shows
returns-clause-shows c =
    subst (λ config. (run : Run config) → ending pause_image config run ≡ stage_of c.args.heap.now → ShowsGraph c.graph.new.text config.mutators (graph_after pause_image config run)) c.requires.config c.graph.ensures.shows

pub graph-requires-clause-room : goal.graph-requires-clause-room
graph-requires-clause-room c = has_room c.args.config (config_of c.args.heap.now) c.in-Ok.text _ _ c.requires.config c.heap_size.ensures.value c.in-Ok.ensures

pub graph-requires-clause-threads : goal.graph-requires-clause-threads
graph-requires-clause-threads c = has_threads c.args.config (config_of c.args.heap.now) c.in-Ok.text _ _ c.requires.config c.mutators.ensures c.in-Ok.ensures

pub returns-clause-threads : goal.returns-clause-threads
returns-clause-threads c = c.graph.ensures.same_threads ∙ has_threads c.args.config c.args.config c.in-Ok.text _ _ refl c.mutators.ensures c.in-Ok.ensures
