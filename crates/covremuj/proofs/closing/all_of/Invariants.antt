use Rattle.std.proofs.Common.{◌≡◌}
use Rattle.covremuj.specs.OpenedHandles.{seats_held}
use Rattle.covremuj.proofs.closing.all_of.Given as goal

abbrev pub invariant-loop-at : goal.invariant-loop-at
invariant-loop-at loop = seats_held loop.handles ≡ seats_held loop.initial.handles
