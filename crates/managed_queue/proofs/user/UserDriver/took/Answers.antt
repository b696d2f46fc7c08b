use Rattle.managed_queue.proofs.Coming.{user_falls, user_pays}
use Rattle.managed_queue.proofs.user.UserDriver.took.Goals as goal

pub returns-clause-falls : goal.returns-clause-falls
returns-clause-falls c = rw c.go_on.ensures (user_falls c.args.self.now c.args.reply.now)

pub returns-clause-pays : goal.returns-clause-pays
returns-clause-pays c = rw c.go_on.ensures (λ command command_next new. user_pays c.args.self.now command c.args.reply.now command_next new)
