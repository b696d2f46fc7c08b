use Rattle.std.proofs.Common.{refl, subst, ◌∙◌}
use Rattle.heap_world.specs.Shows.{ShowsGraph}
use Rattle.heap_machines.specs.Pause.{pause_image}
use Rattle.step_core.specs.Begins.{Run, ending, graph_after}
use Rattle.shen_core.specs.State as memory
use Rattle.heap_dump.proofs.RoomForText.{has_room, has_threads}
use Rattle.heap_dump.proofs.goes_on.graph_of.Goals as goal

pub returns-clause-shows : goal.returns-clause-shows
returns-clause-shows c =
    subst (λ config. (run : Run config) → memory.Shows c.args.plain.now (ending pause_image config run) → ShowsGraph c.graph.new.text config.mutators (graph_after pause_image config run)) c.requires.config c.graph.ensures.shows

pub graph-requires-clause-room : goal.graph-requires-clause-room
graph-requires-clause-room c = has_room c.args.config (memory.config_of c.args.plain.now) c.in-Ok.text _ _ c.requires.config c.heap_size.ensures.value c.in-Ok.ensures

pub graph-requires-clause-threads : goal.graph-requires-clause-threads
graph-requires-clause-threads c = has_threads c.args.config (memory.config_of c.args.plain.now) c.in-Ok.text _ _ c.requires.config c.mutators.ensures c.in-Ok.ensures

pub returns-clause-threads : goal.returns-clause-threads
returns-clause-threads c = c.graph.ensures.same_threads ∙ has_threads c.args.config c.args.config c.in-Ok.text _ _ refl c.mutators.ensures c.in-Ok.ensures
