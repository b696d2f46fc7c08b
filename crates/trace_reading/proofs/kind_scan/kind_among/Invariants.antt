use Rattle.std.proofs.Common.{◌≡◌, drop}
use Rattle.trace_reading.specs.Scanning.{kind_among}
use Rattle.trace_reading.proofs.kind_scan.kind_among.Given as goal

abbrev pub invariant-loop-kind : goal.invariant-loop-kind
invariant-loop-kind loop = kind_among (drop loop.kind-index loop.kinds) loop.bytes ≡ kind_among loop.kinds loop.bytes
