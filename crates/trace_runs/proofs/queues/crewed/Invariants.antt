use Rattle.std.proofs.Common.{◌≡◌, ℕ, ◌+◌, length, Some}
use Rattle.std.specs.Prelude.{slice_get}
use Rattle.std.specs.Vec.Iter.{into_iter_items, into_iter_len}
use Rattle.table_heap.specs.declared.bundle.Bundle.{Bundle}
use Rattle.table_heap.specs.declared.heap.Heap.{Heap}
use Rattle.trace_runs.specs.DealtParts.{AreReady}
use Rattle.trace_runs.specs.DealtParts.Assigned.{users}
use Rattle.trace_runs.specs.Queued.{queue_users, CanBeCrewed}
use Rattle.trace_runs.proofs.queues.crewed.Given as goal

-- the bundles that are left are the last ones
abbrev pub invariant-loop-bundle : goal.invariant-loop-bundle
invariant-loop-bundle loop = record {
  count : length loop.parts.items + into_iter_len loop.bundle-iterator ≡ length loop.fn.bundles.items;
  left : (index : ℕ) (bundle : Bundle) → slice_get (into_iter_items loop.bundle-iterator) index ≡ Some bundle → slice_get loop.fn.bundles.items (length loop.parts.items + index) ≡ Some bundle;
  ready : (heap : Heap) → CanBeCrewed heap loop.fn.bundles.items → AreReady heap (users (queue_users loop.fn.count)) (length loop.fn.bundles.items) loop.parts.items;
}
