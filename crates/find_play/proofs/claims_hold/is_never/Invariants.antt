use Rattle.std.proofs.Common.{◌≡◌, drop, not}
use Rattle.std.specs.List.{list_all}
use Rattle.find_play.specs.Wanted.{fits}
use Rattle.find_play.proofs.claims_hold.is_never.Given as goal

abbrev pub invariant-loop-at : goal.invariant-loop-at
invariant-loop-at locals = list_all (λ entry. not (fits locals.wanted entry.reply)) (drop locals.at locals.history.list) ≡ list_all (λ entry. not (fits locals.wanted entry.reply)) locals.history.list
