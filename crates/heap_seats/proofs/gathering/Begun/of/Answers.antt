use Rattle.std.proofs.Common.{[], ◌∷◌, sym, ap, ◌∙◌, length, subst}
use Rattle.std.specs.Arc.{arc_value}
use Rattle.shared_table.specs.Views.{View}
use Rattle.step_core.specs.Actor.{Actor}
use Rattle.heap_seats.specs.GivenUp.{AreMachinesOf}
use Rattle.heap_seats.proofs.Joined.{machines_one}
use Rattle.heap_seats.proofs.Together.{places}
use Rattle.heap_seats.proofs.gathering.Begun.of.Goals as goal

pub invariant_of-result : goal.invariant_of-result
invariant_of-result c = record { fits = c.of.ensures.heap (arc_value c.args.seat.heap) c.args.seat.fits }

pub returns-clause-given : goal.returns-clause-given
returns-clause-given c =
    let seat = c.args.seat in
    record { machines = subst (λ (view : View Actor). AreMachinesOf (seat ∷ []) view) (sym c.of.ensures.view) (machines_one seat); long = ap length c.of.ensures.view ∙ places seat }
