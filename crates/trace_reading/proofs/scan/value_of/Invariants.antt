use Rattle.std.proofs.Common.{◌≡◌, take}
use Rattle.std.specs.Str.Parse.{digits_value}
use Rattle.trace_reading.proofs.scan.value_of.Given as goal

abbrev pub invariant-loop-digit : goal.invariant-loop-digit
invariant-loop-digit loop = loop.value ≡ digits_value 10 (take loop.digit-index loop.digits)
