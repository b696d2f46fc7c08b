-- The bytes that stand in the buffer and those that are left are those that were left before.
use Rattle.std.proofs.Common.{drop, arith}
use Rattle.std.proofs.lemmas.Grind.{common_steps}
use Rattle.shen_base.proofs.Lists.{put_and_rest}
use Rattle.shen_base.proofs.memory.Unread.give.Goals as goal

pub returns-clause-next_bytes : goal.returns-clause-next_bytes
returns-clause-next_bytes c =
    put_and_rest c.min-count.result c.args.self.now (drop c.min-count.result c.args.buf.now) _ _
    (grind (arith, common_steps)) (grind (arith, common_steps)) (grind (arith, common_steps))
