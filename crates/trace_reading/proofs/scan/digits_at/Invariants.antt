use Rattle.std.proofs.Common.{◌≡◌, ◌+◌, drop}
use Rattle.trace_reading.specs.Scanning.{digit_count}
use Rattle.trace_reading.proofs.scan.digits_at.Given as goal

abbrev pub invariant-loop-count : goal.invariant-loop-count
invariant-loop-count loop = loop.count + digit_count (drop loop.count loop.bytes) ≡ digit_count loop.bytes
