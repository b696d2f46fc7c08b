use Rattle.std.proofs.Common.{◌≡◌, ◌+◌, length, drop}
use Rattle.std.specs.Prelude.{sum_by}
use Rattle.trace_runs.proofs.replays.commands_of.Given as goal

abbrev pub invariant-loop-script : goal.invariant-loop-script
invariant-loop-script loop = loop.commands + sum_by length (drop loop.script-index loop.script-items) ≡ sum_by length loop.script-items
