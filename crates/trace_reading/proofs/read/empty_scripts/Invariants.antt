use Rattle.std.proofs.Common.{◌≡◌, []}
use Rattle.std.specs.Prelude.{replicate}
use Rattle.trace_reading.proofs.read.empty_scripts.Given as goal

abbrev pub invariant-loop : goal.invariant-loop
invariant-loop loop = loop.scripts.items ≡ replicate loop.counter []
