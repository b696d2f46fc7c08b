use Rattle.std.proofs.Common.{ℕ, ◌+◌, ◌-◌, ◌≤◌, length, vec_len}
use Rattle.trace_runs.specs.DealtParts.{Assigned, IsDone}
use Rattle.trace_runs.specs.Started.{AreThreads}
use Rattle.trace_runs.proofs.threads.join_all.Given as goal

-- the threads of the last bundles are left, and the others were joined
abbrev pub invariant-loop-thread : goal.invariant-loop-thread
invariant-loop-thread g loop = record {
  fewer : length loop.threads.items ≤ length loop.fn.threads.items;
  left : (assigned : Assigned) (workers : ℕ) → AreThreads loop.heap assigned workers loop.fn.threads.items → AreThreads loop.heap assigned workers loop.threads.items;
  done : (assigned : Assigned) (first : ℕ) → IsDone loop.heap assigned (first + length loop.fn.threads.items) 0 first loop.fn.own → AreThreads loop.heap assigned (first + length loop.fn.threads.items) loop.fn.threads.items
      → IsDone loop.heap assigned (first + length loop.fn.threads.items) 0 (first + length loop.fn.threads.items - length loop.threads.items) loop.own;
}

abbrev pub decreases-loop-thread : goal.decreases-loop-thread
decreases-loop-thread g loop = vec_len loop.threads
