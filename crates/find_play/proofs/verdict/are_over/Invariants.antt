use Rattle.std.proofs.Common.{◌≡◌, ℕ, ◌<◌, false, get_or}
use Rattle.find_play.specs.declared.thread.Next.TheVariants.{Done}
use Rattle.find_play.specs.Verdict.{is_command}
use Rattle.find_play.proofs.verdict.are_over.Given as goal

abbrev pub invariant-loop-number : goal.invariant-loop-number
invariant-loop-number locals = (number : ℕ) → number < locals.number → is_command (get_or locals.cast.acts number Done) ≡ false
