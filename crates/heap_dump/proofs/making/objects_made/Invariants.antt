use Rattle.std.proofs.Common.{◌≡◌, take}
use Rattle.std.specs.Prelude.{count_by}
use Rattle.heap_dump.specs.ObjectsMade.{has_made}
use Rattle.heap_dump.proofs.making.objects_made.Given as goal

abbrev pub invariant-loop-at : goal.invariant-loop-at
invariant-loop-at loop = loop.made ≡ count_by (has_made loop.thread) (take loop.at loop.history.list)
