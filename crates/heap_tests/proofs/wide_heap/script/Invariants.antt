use Rattle.std.proofs.Common.{◌≤◌, length, All}
use Rattle.shen_graph.specs.Valid.{IsValid}
use Rattle.heap_tests.proofs.wide_heap.script.Given as goal

abbrev pub invariant-loop-number : goal.invariant-loop-number
invariant-loop-number locals = All IsValid locals.script × (length locals.script ≤ locals.number)
