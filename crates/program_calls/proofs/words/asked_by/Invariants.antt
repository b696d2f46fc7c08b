use Rattle.std.proofs.Common.{length, ◌-◌}
use Rattle.program_calls.proofs.words.asked_by.Given as goal

abbrev pub decreases-loop-at : goal.decreases-loop-at
decreases-loop-at loop = length loop.words - loop.at
