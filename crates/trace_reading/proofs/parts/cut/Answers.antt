use Rattle.std.proofs.Common.{cond, eqb, true, false, arith}
use Rattle.std.proofs.lemmas.List.Sums.{prefix_len-le-length}
use Rattle.trace_reading.proofs.Cuts.{cut_parts}
use Rattle.trace_reading.proofs.parts.cut.Goals as goal

pub split_at-requires : goal.split_at-requires
split_at-requires c = omega (arith, prefix_len-le-length (λ byte. cond (eqb byte c.args.separator) false true) c.args.bytes.now, c.before-2.ensures)

pub returns-clause-parts : goal.returns-clause-parts
returns-clause-parts c = rw (c.split_at.ensures.front, c.split_at.ensures.back, c.before-2.ensures) (cut_parts c.args.separator c.args.bytes.now)
