use Rattle.std.proofs.Common.{◌≡◌, ◌++◌, length}
use Rattle.trace_runs.proofs.load.gathered.Given as goal

-- those of the first, and those of the second that have come to them, before those that are left
abbrev pub invariant-loop-others : goal.invariant-loop-others
invariant-loop-others loop = loop.crew.items ++ loop.others.items ≡ loop.fn.crew.items ++ loop.fn.others.items

abbrev pub decreases-loop-others : goal.decreases-loop-others
decreases-loop-others loop = length loop.others.items
