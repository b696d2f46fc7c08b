use Rattle.std.proofs.Common.{◌≡◌, length, take, drop}
use Rattle.trace_reading.specs.Scanning.{numbers_at}
use Rattle.trace_reading.proofs.LoopReading.{with_front}
use Rattle.trace_reading.proofs.scan.numbers_at.Given as goal

abbrev pub invariant-loop-i : goal.invariant-loop-i
invariant-loop-i loop = (length loop.numbers ≡ 4) × (with_front (take loop.i loop.numbers) (numbers_at (drop loop.i loop.limits) loop.rest) ≡ numbers_at loop.limits loop.bytes)
