use Rattle.std.proofs.Common.{length}
use Rattle.trace_reading.specs.Causes.{parts_behind}
use Rattle.heap_dump.proofs.TakenFields.{TakenNums}
use Rattle.heap_dump.proofs.fields.take_numbers.Given as goal

abbrev pub invariant-numbers : goal.invariant-numbers
invariant-numbers loop = TakenNums (parts_behind 32 loop.words) (parts_behind 32 loop.rest) loop.count loop.fn.graph loop.graph

abbrev pub decreases-numbers : goal.decreases-numbers
decreases-numbers loop = length loop.rest
