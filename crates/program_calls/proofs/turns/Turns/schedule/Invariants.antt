use Rattle.std.proofs.Common.{◌≡◌, ◌+◌, ◌<◌, ◌≤◌}
use Rattle.std.specs.List.{AllByRecursion}
use Rattle.heap_words.specs.Ranges.{seat_count}
use Rattle.trace_reading.specs.Spelling.{IsItem}
use Rattle.program_calls.specs.Noted.{IsOfSteps, steps_named}
use Rattle.program_calls.proofs.turns.Turns.schedule.Given as goal

abbrev pub invariant-loop-step : goal.invariant-loop-step
invariant-loop-step loop = record {
  here : loop.last < seat_count loop.config.mutators loop.config.helpers;
  few : loop.count ≤ 4000000000;
  items : AllByRecursion (IsItem loop.config) loop.schedule;
  of_steps : AllByRecursion IsOfSteps loop.schedule;
  steps : steps_named loop.schedule + loop.count ≡ loop.step;
}
