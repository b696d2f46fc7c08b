use Rattle.std.proofs.Common.{length}
use Rattle.trace_reading.specs.Causes.{parts_behind}
use Rattle.heap_dump.proofs.TakenFields.{TakenRefs}
use Rattle.heap_dump.proofs.fields.take_references.Given as goal

abbrev pub invariant-references : goal.invariant-references
invariant-references loop = TakenRefs (parts_behind 32 loop.words) (parts_behind 32 loop.rest) loop.count loop.fn.graph loop.graph

abbrev pub decreases-references : goal.decreases-references
decreases-references loop = length loop.rest
