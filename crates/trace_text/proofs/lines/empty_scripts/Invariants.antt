use Rattle.std.proofs.Common.{◌≡◌, []}
use Rattle.std.specs.Prelude.{replicate}
use Rattle.trace_text.proofs.lines.empty_scripts.Given as goal

abbrev pub invariant-loop : goal.invariant-loop
invariant-loop loop = loop.scripts.items ≡ replicate loop.counter []
