use Rattle.std.proofs.Common.{◌≡◌, length}
use Rattle.trace_reading.specs.Causes.{items_cause, parts_behind}
use Rattle.trace_reading.proofs.refused_items.items_cause.Given as goal

abbrev pub invariant-items : goal.invariant-items
invariant-items loop = items_cause loop.config (parts_behind 32 loop.rest) ≡ items_cause loop.config (parts_behind 32 loop.words)

abbrev pub decreases-items : goal.decreases-items
decreases-items loop = length loop.rest
