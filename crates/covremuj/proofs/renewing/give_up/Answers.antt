use Rattle.std.proofs.Common.{◌≡◌, false, List, ◌++◌, Option, get_or, length, take_all, append_assoc, append-nil, sym, ap, ◌∙◌, subst, arith}
use Rattle.std.specs.Prelude.{slice_set}
use Rattle.std.proofs.lemmas.List.{length-map}
use Rattle.heap_seats.specs.declared.seat.Seat.{Seat}
use Rattle.covremuj.specs.declared.handle.Handle.{Handle}
use Rattle.covremuj.specs.OpenedHandles.{seats_held, any_held}
use Rattle.covremuj.specs.ClosedHandles.{seat_in, seats_in}
use Rattle.covremuj.specs.RenewedHandles.{AreGivenIn, IsOfThatHeap, AreAbsent}
use Rattle.covremuj.proofs.HeldLists.{emptied_more}
use Rattle.covremuj.proofs.GivenUp.{taken_next, none_left, given_is_held, make_up_ended, all_ended}
use Rattle.covremuj.proofs.Renewals.{fits_next, absent_next, all_to_be_renewed}
use Rattle.covremuj.proofs.renewing.give_up.Goals as goal

pub with_seat-closing-requires : goal.with_seat-closing-requires
with_seat-closing-requires c =
    let loop = c.loop-at in
    let default_handle = c.index-handles-at.result in
    let before = loop.invariant.1 in
    let held_seat : Option Seat = (get_or loop.handles loop.at default_handle).held in
    let rest = seats_in (seats_held (slice_set loop.handles loop.at c.take.new.self)) in
    let index_below = c.loop-at-test.true in
    let same_length = loop.auto.handles in
    let path : before ++ (seat_in held_seat ++ rest) ≡ seats_in (seats_held c.args.handles.now) =
    ap (λ (later_seats : List Seat). before ++ later_seats) (sym (taken_next loop.handles loop.at default_handle c.take.new.self (omega (arith, index_below, same_length)) c.take.ensures.empty loop.invariant.0)) ∙ loop.invariant.3 in
    subst (λ (found : Option Seat). IsOfThatHeap loop.closing found) (sym (given_is_held c.take.result held_seat c.take.ensures.taken))
    (fits_next loop.closing before rest (seats_in (seats_held c.args.handles.now)) held_seat path c.requires.one_heap loop.invariant.2)

pub loop-at-preserved : goal.loop-at-preserved
loop-at-preserved c =
    let loop = c.loop-at in
    let default_handle = c.index-handles-at.result in
    let before = loop.invariant.1 in
    let held_seat : Option Seat = (get_or loop.handles loop.at default_handle).held in
    let rest = seats_in (seats_held (slice_set loop.handles loop.at c.take.new.self)) in
    let index_below = c.loop-at-test.true in
    let same_length = loop.auto.handles in
    let path : before ++ (seat_in held_seat ++ rest) ≡ seats_in (seats_held c.args.handles.now) =
    ap (λ (later_seats : List Seat). before ++ later_seats) (sym (taken_next loop.handles loop.at default_handle c.take.new.self (omega (arith, index_below, same_length)) c.take.ensures.empty loop.invariant.0)) ∙ loop.invariant.3 in
    let given_held = given_is_held c.take.result held_seat c.take.ensures.taken in
    let numbers = (make_up_ended (seats_held c.args.handles.now) c.requires.all c.requires.one_heap).number in (
      emptied_more loop.handles loop.at c.take.new.self (omega (arith, index_below, same_length)) c.take.ensures.empty loop.invariant.0,
      before ++ seat_in held_seat,
      subst (λ (found : Option Seat). AreGivenIn (before ++ seat_in found) c.with_seat-closing.result) given_held
          (c.with_seat-closing.ensures before loop.invariant.2 (subst (λ (found : Option Seat). AreAbsent before found) (sym given_held) (absent_next before rest (seats_in (seats_held c.args.handles.now)) held_seat path numbers))),
      append_assoc before (seat_in held_seat) rest ∙ path,
    )

pub returns-clause-given : goal.returns-clause-given
returns-clause-given c =
    let loop = c.loop-at in
    let before = loop.invariant.1 in
    let held_seats = seats_held c.args.handles.now in
    let seats_length : length (seats_held loop.handles) ≡ length loop.handles = length-map loop.handles (λ (handle : Handle). handle.held) in
    let all_passed = c.loop-at-test.false in
    let same_length = loop.auto.handles in
    let none_held : any_held (seats_held loop.handles) ≡ false = ap any_held (sym (take_all loop.at (seats_held loop.handles) (omega (arith, seats_length, all_passed, same_length)))) ∙ loop.invariant.0 in
    let all_gathered : before ≡ seats_in held_seats = sym (append-nil before) ∙ ap (λ (later_seats : List Seat). before ++ later_seats) (sym (none_left (seats_held loop.handles) none_held)) ∙ loop.invariant.3 in
    all_to_be_renewed loop.closing (seats_in held_seats) (make_up_ended held_seats c.requires.all c.requires.one_heap) (all_ended held_seats c.requires.all) (subst (λ (seats : List Seat). AreGivenIn seats loop.closing) all_gathered loop.invariant.2)
