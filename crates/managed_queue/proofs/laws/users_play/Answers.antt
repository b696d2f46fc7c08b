use Rattle.managed_queue.proofs.Driven.{users_play}
use Rattle.managed_queue.proofs.laws.users_play.Goals as goal

pub returns : goal.returns
returns c = users_play
