use Rattle.std.proofs.Common.{◌≡◌, take}
use Rattle.churn.specs.Summary.{with_replies}
use Rattle.churn.proofs.summary.Summary.add_replies.Given as goal

abbrev pub invariant-loop-reply : goal.invariant-loop-reply
invariant-loop-reply locals = locals.self ≡ with_replies locals.fn.self (take locals.reply-index locals.replies)
