use Rattle.std.proofs.Common.{List}
use Rattle.shen_graph.specs.Graph.{Reference}
use Rattle.heap_dump.specs.Listing.{HasTakenRoots}
use Rattle.heap_dump.proofs.read.take_all_roots.Given as goal

abbrev pub invariant-loop-mutator : goal.invariant-loop-mutator
invariant-loop-mutator loop = (all_roots : List (List Reference)) × HasTakenRoots loop.bytes loop.rest loop.mutator loop.fn.graph loop.graph all_roots
