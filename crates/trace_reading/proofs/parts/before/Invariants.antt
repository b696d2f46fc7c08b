use Rattle.std.proofs.Common.{◌≡◌, ◌+◌, drop}
use Rattle.trace_reading.proofs.Cuts.{count_before}
use Rattle.trace_reading.proofs.parts.before.Given as goal

abbrev pub invariant-loop-count : goal.invariant-loop-count
invariant-loop-count loop = loop.count + count_before loop.separator (drop loop.count loop.bytes) ≡ count_before loop.separator loop.bytes
