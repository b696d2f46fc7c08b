use Rattle.std.proofs.Common.{◌≡◌, ◌+◌, ◌≤◌, length}
use Rattle.trace_reading.specs.Causes.{parts_behind}
use Rattle.trace_reading.proofs.parts.count_words.Given as goal

abbrev pub invariant-words : goal.invariant-words
invariant-words loop = (loop.count + length (parts_behind 32 loop.rest) ≡ length (parts_behind 32 loop.words)) × (loop.count + length loop.rest ≤ length loop.words)

abbrev pub decreases-words : goal.decreases-words
decreases-words loop = length loop.rest
