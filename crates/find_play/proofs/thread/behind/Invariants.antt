use Rattle.std.proofs.Common.{◌≡◌, ◌+◌, ◌-◌, ◌≤◌, length, drop}
use Rattle.find_play.specs.Meaning.{after}
use Rattle.find_play.proofs.thread.behind.Given as goal

abbrev pub invariant-statements : goal.invariant-statements
invariant-statements locals = (locals.at + after locals.part locals.depth (drop locals.at locals.program) ≡ locals.from + after locals.part 0 (drop locals.from locals.program)) × (locals.depth ≤ locals.at) × (locals.from ≤ locals.at) × (locals.at ≤ length locals.program)

abbrev pub decreases-statements : goal.decreases-statements
decreases-statements locals = length locals.program - locals.at
