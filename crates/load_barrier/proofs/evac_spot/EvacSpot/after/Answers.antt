use Rattle.std.proofs.lemmas.Bool.{and_parts}
use Rattle.load_barrier.proofs.UnitWaiting.{never_says, says_again}
use Rattle.load_barrier.proofs.evac_spot.EvacSpot.after.Goals as goal

pub returns-in-Resolving-clause-again : goal.returns-in-Resolving-clause-again
returns-in-Resolving-clause-again c =
    let said_part = c.after-at.ensures.again in
    rw (c.in-Resolving.is, c.led_by.ensures.says) (λ says_so. said_part.0 ((says_again c.after-at.result.1 c.after_resolve.result).0 says_so), λ waits. (says_again c.after-at.result.1 c.after_resolve.result).1 (said_part.1 waits))

pub returns-in-LoadTop-clause-again : goal.returns-in-LoadTop-clause-again
returns-in-LoadTop-clause-again c = rw (c.in-LoadTop.is, c.led-in-LoadTop.ensures.says) (never_says c.walk_on.result)

pub returns-in-LoadMark-clause-again : goal.returns-in-LoadMark-clause-again
returns-in-LoadMark-clause-again c = rw (c.in-LoadMark.is, c.led-in-LoadMark.ensures.says) (never_says c.after_mark.result)

pub returns-in-LoadFirst-clause-again : goal.returns-in-LoadFirst-clause-again
returns-in-LoadFirst-clause-again c = rw (c.in-LoadFirst.is, c.led-in-LoadFirst.ensures.says) (never_says c.after_first.result)

pub after-at-requires-clause-ready : goal.after-at-requires-clause-ready
after-at-requires-clause-ready c = let ready_parts = and_parts _ _ (rw c.in-Resolving.is at c.requires.ready) in (and_parts _ _ (and_parts _ _ ready_parts.1).1).0
