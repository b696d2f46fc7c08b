use Rattle.std.proofs.Common.{length}
use Rattle.heap_dump.specs.Listing.{HasTakenRows}
use Rattle.heap_dump.proofs.read.take_objects.Given as goal

abbrev pub invariant-objects : goal.invariant-objects
invariant-objects loop = HasTakenRows loop.counts loop.bytes loop.rest loop.lines loop.fn.graph loop.graph

abbrev pub decreases-objects : goal.decreases-objects
decreases-objects loop = length loop.rest
