use Rattle.std.proofs.Common.{◌≡◌, drop, map}
use Rattle.trace_reading.specs.Causes.{numbers_cause, parts_behind}
use Rattle.trace_reading.proofs.body.limits_cause.Given as goal

abbrev pub invariant-loop-limit : goal.invariant-loop-limit
invariant-loop-limit loop = numbers_cause (drop loop.limit-index (map (λ limit. (0, limit)) loop.limits)) (parts_behind 32 loop.rest) ≡ numbers_cause (map (λ limit. (0, limit)) loop.limits) (parts_behind 32 loop.words)
