use Rattle.std.proofs.Common.{◌≡◌, ◌+◌, ◌-◌}
use Rattle.regions.specs.Places.{is_shut, next_open}
use Rattle.regions.proofs.places.next_open.Given as goal

abbrev pub invariant-loop-step : goal.invariant-loop-step
invariant-loop-step locals = next_open (is_shut locals.shut) 64 locals.row ≡ next_open (is_shut locals.shut) (64 - locals.step) (locals.row + locals.step)
