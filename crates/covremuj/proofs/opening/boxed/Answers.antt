use Rattle.std.proofs.Common.{◌++◌, ap, ◌∙◌, sym}
use mathlib.Core.List.{reverse}
use Rattle.std.proofs.lemmas.List.{append-nil}
use Rattle.covremuj.proofs.HeldLists.{seats_of, boxed_more}
use Rattle.covremuj.proofs.opening.boxed.Goals as goal

pub loop-seat-init : goal.loop-seat-init
loop-seat-init c = ap (λ boxes. c.args.seats.items ++ reverse (seats_of boxes)) c.in-Ok.ensures.items ∙ append-nil c.args.seats.items

pub loop-seat-preserved : goal.loop-seat-preserved
loop-seat-preserved c =
    let loop = c.loop-seat in
    ap (λ boxes. c.pop.new.self.items ++ reverse (seats_of boxes)) c.in-Ok-push.ensures.items
    ∙ boxed_more loop.seats.items c.pop.new.self.items c.in-Some.seat loop.boxes.items c.in-Ok-new.boxed c.args.seats.items c.in-Some.ensures.items c.in-Ok-new.ensures.ok loop.invariant
