use Rattle.std.proofs.Common.{◌-◌}
use Rattle.shen_graph.specs.GraphText.{names_of}
use Rattle.heap_dump.proofs.Ordered.{Between}
use Rattle.heap_dump.proofs.reached.row_named.Given as goal

abbrev pub invariant-halves : goal.invariant-halves
invariant-halves loop = Between (names_of loop.graph) loop.name loop.low loop.high

abbrev pub decreases-halves : goal.decreases-halves
decreases-halves loop = loop.high - loop.low
