use Rattle.std.proofs.Common.{ℕ, ◌+◌, ◌-◌, ◌*◌, length}
use Rattle.find_play.specs.declared.thread.Next.{Next}
use Rattle.find_play.specs.declared.thread.Thread.{Thread}
use Rattle.find_play.specs.Meaning.{Runs}
use Rattle.find_play.proofs.thread.Thread.next.Given as goal

abbrev pub invariant-moves : goal.invariant-moves
invariant-moves locals = (next : Next) (end : Thread) → Runs locals.program locals.reply locals.self next end → Runs locals.program locals.reply locals.fn.self next end

abbrev pub decreases-moves : goal.decreases-moves
decreases-moves locals = locals.self.left * (length locals.program + 1) + (length locals.program - locals.self.at)
