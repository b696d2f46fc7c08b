use Rattle.std.proofs.Common.{◌≡◌, ◌+◌, length}
use Rattle.trace_reading.specs.Grammar.{HasReadLines}
use Rattle.trace_reading.proofs.read.take_lines.Given as goal

abbrev pub invariant-lines : goal.invariant-lines
invariant-lines loop = (lines_taken : HasReadLines loop.version loop.config.mutators loop.bytes loop.rest loop.scripts.items) × (loop.line ≡ loop.first + length lines_taken.lines)

abbrev pub decreases-lines : goal.decreases-lines
decreases-lines loop = length loop.rest
