use Rattle.std.proofs.Common.{◌≤◌, length, All}
use Rattle.shen_graph.specs.Valid.{IsValid}
use Rattle.heap_tests.proofs.scene.script.Given as goal

abbrev pub invariant-loop-number : goal.invariant-loop-number
invariant-loop-number loop = All IsValid loop.script × (length loop.script ≤ loop.number)
