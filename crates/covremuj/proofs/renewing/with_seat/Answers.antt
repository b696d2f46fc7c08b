use Rattle.std.proofs.Common.{◌≡◌, List, [], ◌∷◌, ◌++◌, Option, Some, sym, ap, ◌∙◌, subst}
use Rattle.std.specs.Global.{Box}
use Rattle.std.specs.Option.{option_map}
use Rattle.heap_seats.specs.declared.closing.Closing.{Closing}
use Rattle.heap_seats.specs.declared.seat.Seat.{Seat}
use Rattle.heap_seats.specs.GivenUp.{HaveNot}
use Rattle.heap_seats.specs.Seats.{number_of}
use Rattle.covremuj.specs.ClosedHandles.{seat_in}
use Rattle.covremuj.specs.RenewedHandles.{AreGivenAs, AreGivenIn, AreAbsent}
use Rattle.covremuj.proofs.Renewals.{given_first, given_more}
use Rattle.covremuj.proofs.renewing.with_seat.Goals as goal

pub returns-in-None : goal.returns-in-None
returns-in-None c before seats_given absent =
    let inner_seat = c.into_inner-seat.result in
    let seat_boxed : option_map (λ (box : Box Seat). box.value) c.args.seat ≡ Some inner_seat = ap (option_map (λ (box : Box Seat). box.value)) c.in-Some.is ∙ ap (λ (seat : Seat). Some seat) (sym c.into_inner-seat.ensures) in
    let none_before : before ≡ [] = subst (AreGivenIn before) c.in-None.is seats_given in
    let path : before ++ seat_in (option_map (λ (box : Box Seat). box.value) c.args.seat) ≡ inner_seat ∷ [] = ap (λ (found : Option Seat). before ++ seat_in found) seat_boxed ∙ ap (λ (seats : List Seat). seats ++ inner_seat ∷ []) none_before in
    subst (λ (seats : List Seat). AreGivenAs seats c.of.result) (sym path) (given_first inner_seat c.of.result c.of.ensures.given c.of.ensures.heap)

pub returns-in-Some-closing : goal.returns-in-Some-closing
returns-in-Some-closing c before seats_given absent =
    let inner_seat = c.into_inner-seat.result in
    let seat_boxed : option_map (λ (box : Box Seat). box.value) c.args.seat ≡ Some inner_seat = ap (option_map (λ (box : Box Seat). box.value)) c.in-Some.is ∙ ap (λ (seat : Seat). Some seat) (sym c.into_inner-seat.ensures) in
    let old : Closing = c.in-Some-closing.closing in
    let given_before : AreGivenAs before old = subst (AreGivenIn before) c.in-Some-closing.is seats_given in
    let seat_absent : HaveNot before (number_of inner_seat) = subst (AreAbsent before) seat_boxed absent in
    let path : before ++ seat_in (option_map (λ (box : Box Seat). box.value) c.args.seat) ≡ before ++ inner_seat ∷ [] = ap (λ (found : Option Seat). before ++ seat_in found) seat_boxed in
    subst (λ (seats : List Seat). AreGivenAs seats c.with.result) (sym path) (given_more before inner_seat old c.with.result given_before (c.with.ensures.given before given_before.given seat_absent) c.with.ensures.heap)
