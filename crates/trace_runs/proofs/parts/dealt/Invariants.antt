use Rattle.std.proofs.Common.{◌≡◌, ℕ, ◌+◌, length, Some, not}
use Rattle.std.specs.Prelude.{slice_get, nat_lt, ◌%◌}
use Rattle.std.specs.Vec.Iter.{into_iter_items, into_iter_len}
use Rattle.step_core.specs.Schedule.{Scripts}
use Rattle.shen_graph.specs.Work.{picked, opened}
use Rattle.table_heap.specs.declared.bundle.Bundle.{Bundle}
use Rattle.trace_runs.specs.DealtParts.{AreReady, CanBeDealt}
use Rattle.trace_runs.specs.DealtParts.Assigned.{scripts as by_scripts}
use Rattle.trace_runs.proofs.parts.dealt.Given as goal

-- the bundles that are left are the last ones, and so is the work
abbrev pub invariant-loop-bundle : goal.invariant-loop-bundle
invariant-loop-bundle loop = record {
  workers_are : loop.workers ≡ length loop.fn.bundles.items;
  count : length loop.parts.items + into_iter_len loop.bundle-iterator ≡ loop.workers;
  left : (index : ℕ) (bundle : Bundle) → slice_get (into_iter_items loop.bundle-iterator) index ≡ Some bundle → slice_get loop.fn.bundles.items (length loop.parts.items + index) ≡ Some bundle;
  work_left : (scripts : Scripts) → CanBeDealt loop.heap scripts loop.fn.work loop.fn.bundles.items → loop.work ≡ picked (λ number. not (nat_lt (number % loop.workers) (length loop.parts.items))) (opened scripts);
  ready : (scripts : Scripts) → CanBeDealt loop.heap scripts loop.fn.work loop.fn.bundles.items → AreReady loop.heap (by_scripts scripts) loop.workers loop.parts.items;
}
