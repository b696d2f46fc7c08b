use Rattle.std.proofs.Common.{ap, sym, arith}
use Rattle.find_play.specs.declared.thread.Next.TheVariants.{Done}
use Rattle.find_play.specs.Verdict.{is_stuck}
use Rattle.find_play.proofs.Firsts.{position_is}
use Rattle.find_play.proofs.verdict.stuck.Goals as goal

pub returns-in-TooLong-clause-first : goal.returns-in-TooLong-clause-first
returns-in-TooLong-clause-first c = position_is is_stuck c.args.cast.now.acts c.loop-number.number Done (omega arith) c.loop-number.invariant (ap is_stuck (sym c.in-TooLong.ensures))
