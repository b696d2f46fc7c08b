use Rattle.std.proofs.Common.{◌≡◌, ◌≤◌, ◌-◌}
use Rattle.shen_core.specs.State.{config_of}
use Rattle.shen_core.specs.Progress.{CanRun}
use Rattle.shen_core.specs.Agendas.{IsWalkOf}
use Rattle.listing_lines.proofs.scout.made_before.Given as goal

abbrev pub invariant-loop-made : goal.invariant-loop-made
invariant-loop-made loop = record {
  run : CanRun loop.plain loop.work;
  walk : IsWalkOf (config_of loop.plain) loop.walk;
  less : loop.made ≤ loop.limit;
}

abbrev pub decreases-loop-made : goal.decreases-loop-made
decreases-loop-made loop = loop.limit - loop.made
