use Rattle.std.proofs.Common.{◌≡◌, ◌≤◌, length}
use Rattle.trace_runs.proofs.threads.flags.Given as goal

abbrev pub invariant-loop-made : goal.invariant-loop-made
invariant-loop-made loop = (length loop.flags.items ≡ loop.made) × (loop.made ≤ loop.count)
