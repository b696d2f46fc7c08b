use Rattle.std.proofs.Common.{◌≡◌, drop}
use Rattle.trace_reading.specs.Causes.{numbers_cause, parts_behind}
use Rattle.trace_reading.proofs.numbers.numbers_cause.Given as goal

abbrev pub invariant-loop-least : goal.invariant-loop-least
invariant-loop-least loop = numbers_cause (drop loop.least-index loop.ranges) (parts_behind 32 loop.rest) ≡ numbers_cause loop.ranges (parts_behind 32 loop.words)
