use Rattle.std.proofs.Common.{◌+◌, ◌-◌, ◌*◌, length}
use Rattle.find_play.specs.declared.thread.Next.{Next}
use Rattle.find_play.specs.declared.thread.Thread.{Thread}
use Rattle.find_play.specs.Plays.{Notes, KeepsOn}
use Rattle.find_play.proofs.cast.go_on.Given as goal

abbrev pub invariant-keeps : goal.invariant-keeps
invariant-keeps locals = (next : Next) (end : Thread) (after : Notes) → KeepsOn locals.program locals.reply locals.thread locals.notes next end after → KeepsOn locals.program locals.reply locals.fn.thread locals.fn.notes next end after

abbrev pub decreases-keeps : goal.decreases-keeps
decreases-keeps locals = locals.thread.left * (length locals.program + 1) + (length locals.program - locals.thread.at)
