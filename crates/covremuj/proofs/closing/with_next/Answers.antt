use Rattle.std.proofs.Common.{[], ◌∷◌, ◌++◌, Option, sym, subst}
use Rattle.std.specs.Global.{Box}
use Rattle.std.specs.Option.{option_map}
use Rattle.heap_seats.specs.declared.seat.Seat.{Seat}
use Rattle.heap_seats.specs.Gathered.{AreGathered}
use Rattle.covremuj.specs.ClosedHandles.{seat_in}
use Rattle.covremuj.proofs.closing.with_next.Goals as goal

pub returns-in-Some : goal.returns-in-Some
returns-in-Some c before seats_given =
    subst (λ (found : Option (Box Seat)). AreGathered (before ++ seat_in (option_map (λ (box : Box Seat). box.value) found)) c.with.result) (sym c.in-Some.is)
    (subst (λ (seat : Seat). AreGathered (before ++ seat ∷ []) c.with.result) c.into_inner.ensures (c.with.ensures before seats_given))
