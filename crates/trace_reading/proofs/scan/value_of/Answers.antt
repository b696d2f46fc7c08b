use Rattle.std.proofs.Common.{◌+◌, ◌≤◌, take, arith}
use Rattle.std.specs.Str.Parse.{digits_value}
use Rattle.std.proofs.lemmas.Str.Parse.{digits_value-take-le}
use Rattle.std.proofs.lemmas.Str.Parse.{digit_at}
use Rattle.trace_reading.proofs.Digits.{value_more}
use Rattle.trace_reading.proofs.scan.value_of.Goals as goal

pub with_digit-requires : goal.with_digit-requires
with_digit-requires c = digit_at c.args.digits.now c.loop-digit.digit-index c.requires c.loop-digit-test.true

pub returns-in_err-value : goal.returns-in_err-value
returns-in_err-value c =
    let index = c.loop-digit.digit-index in
    let digits = c.args.digits.now in
    let value_grows = value_more digits index c.requires c.loop-digit-test.true in
    let part_smaller : digits_value 10 (take (index + 1) digits) ≤ digits_value 10 digits = digits_value-take-le 10 digits (index + 1) (omega arith) in
    rw c.from_residual.ensures (omega (arith, value_grows, part_smaller, c.in_err-value.ensures, c.loop-digit.invariant))

pub loop-digit-preserved : goal.loop-digit-preserved
loop-digit-preserved c =
    let value_grows = value_more c.args.digits.now c.loop-digit.digit-index c.requires c.loop-digit-test.true in
    omega (arith, value_grows, c.in_ok-value.ensures, c.loop-digit.invariant)
