use Rattle.table_heap.specs.Sharing.{AllShareMore, StealFrom}
use Rattle.table_heap.proofs.sharing.share_hints.Given as goal

abbrev pub invariant-loop-other : goal.invariant-loop-other
invariant-loop-other loop = record {
  more : AllShareMore loop.fn.bundles.items loop.bundles.items;
  steal : StealFrom loop.other loop.bundles.items loop.bundle;
}
