use Rattle.std.proofs.Common.{arith}
use Rattle.std.specs.Char.{is_ascii_digit}
use Rattle.std.proofs.lemmas.List.Sums.{prefix_len-le-length}
use Rattle.trace_reading.proofs.Digits.{digits_are_digits}
use Rattle.trace_reading.proofs.scan.number_at.Goals as goal

pub split_at-requires : goal.split_at-requires
split_at-requires c = omega (arith, prefix_len-le-length is_ascii_digit c.args.bytes.now, c.digits_at.ensures)

pub numeral-requires : goal.numeral-requires
numeral-requires c = rw (c.split_at.ensures.front, c.digits_at.ensures) (digits_are_digits c.args.bytes.now)
