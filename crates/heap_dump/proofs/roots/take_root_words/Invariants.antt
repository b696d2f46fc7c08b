use Rattle.trace_reading.specs.Causes.{parts_behind}
use Rattle.heap_dump.proofs.TakenRoots.{TakenRoots}
use Rattle.heap_dump.proofs.roots.take_root_words.Given as goal

abbrev pub invariant-loop-index : goal.invariant-loop-index
invariant-loop-index loop = TakenRoots (parts_behind 32 loop.words) (parts_behind 32 loop.rest) loop.index loop.thread loop.fn.graph loop.graph
