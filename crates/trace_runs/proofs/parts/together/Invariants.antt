use Rattle.std.proofs.Common.{ℕ, ◌<◌, length, vec_len}
use Rattle.trace_runs.specs.DealtParts.{Assigned, PartIsReady, AreReady}
use Rattle.trace_runs.proofs.parts.together.Given as goal

-- the first parts are left, and the others are one
abbrev pub invariant-loop-part : goal.invariant-loop-part
invariant-loop-part loop = record {
  fewer : length loop.parts.items < length loop.fn.parts.items;
  left : (assigned : Assigned) (workers : ℕ) → AreReady loop.heap assigned workers loop.fn.parts.items → AreReady loop.heap assigned workers loop.parts.items;
  ready : (assigned : Assigned) (workers : ℕ) → AreReady loop.heap assigned workers loop.fn.parts.items → PartIsReady loop.heap assigned workers (length loop.parts.items) (length loop.fn.parts.items) loop.own;
}

abbrev pub decreases-loop-part : goal.decreases-loop-part
decreases-loop-part loop = vec_len loop.parts
