use Rattle.std.proofs.Common.{◌≡◌, take}
use Rattle.shen_graph.proofs.work.Job.open.Given as goal

abbrev pub invariant-loop-command : goal.invariant-loop-command
invariant-loop-command loop = loop.script ≡ take loop.command-index loop.commands
