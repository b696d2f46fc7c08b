use Rattle.std.proofs.Common.{◌≡◌, drop}
use Rattle.trace_reading.specs.Causes.{kind_named}
use Rattle.trace_reading.proofs.body.kind_among.Given as goal

abbrev pub invariant-loop-kind : goal.invariant-loop-kind
invariant-loop-kind loop = kind_named (drop loop.kind-index loop.kinds) loop.word ≡ kind_named loop.kinds loop.word
