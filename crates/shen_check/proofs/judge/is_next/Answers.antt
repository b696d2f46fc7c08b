use Rattle.shen_check.proofs.SameCommands.{is_next_of}
use Rattle.shen_check.proofs.judge.is_next.Goals as goal

pub returns : goal.returns
returns c = is_next_of c.eq.result c.args.entry.thread c.args.threads c.next.result _ c.args.entry.command c.if-thread-lt1.false c.if-thread-threads.false c.next.ensures.next c.eq.ensures
