use Rattle.std.proofs.Common.{◌≡◌, ◌+◌, ◌≤◌, ◌<◌, length, vec_len}
use Rattle.std.specs.Prelude.{vec_capacity}
use Rattle.trace_runs.specs.DealtParts.{Assigned, AreReady}
use Rattle.trace_runs.specs.Started.{AreSplit}
use Rattle.trace_runs.proofs.threads.start_all.Given as goal

-- the first parts are here, and threads have the others
abbrev pub invariant-loop-parts : goal.invariant-loop-parts
invariant-loop-parts g loop = record {
  some : 0 < length loop.parts.items;
  count : length loop.parts.items + length loop.threads.items ≡ length loop.initial.parts.items;
  room : length loop.initial.parts.items ≤ vec_capacity loop.threads;
  split : (assigned : Assigned) → AreReady loop.heap assigned (length loop.initial.parts.items) loop.initial.parts.items → AreSplit loop.heap assigned (length loop.initial.parts.items) loop.parts.items loop.threads.items;
}

abbrev pub decreases-loop-parts : goal.decreases-loop-parts
decreases-loop-parts g loop = vec_len loop.parts
