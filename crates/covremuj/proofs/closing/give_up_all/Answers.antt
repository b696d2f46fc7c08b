use Rattle.std.proofs.Common.{◌≡◌, false, List, ◌++◌, Option, get_or, length, take_all, append_assoc, append-nil, sym, ap, ◌∙◌, subst, arith}
use Rattle.std.specs.Prelude.{slice_set}
use Rattle.std.proofs.lemmas.List.{length-map}
use Rattle.heap_seats.specs.declared.seat.Seat.{Seat}
use Rattle.heap_seats.specs.Gathered.{AreGathered}
use Rattle.covremuj.specs.declared.handle.Handle.{Handle}
use Rattle.covremuj.specs.OpenedHandles.{seats_held, any_held}
use Rattle.covremuj.specs.ClosedHandles.{seat_in, seats_in}
use Rattle.covremuj.proofs.HeldLists.{emptied_more}
use Rattle.covremuj.proofs.GivenUp.{taken_next, none_left, given_is_held}
use Rattle.covremuj.proofs.closing.give_up_all.Goals as goal

pub loop-at-preserved : goal.loop-at-preserved
loop-at-preserved c =
    let loop = c.loop-at in
    let default_handle = c.index-handles-at.result in
    let before = loop.invariant.1 in
    let held_seat : Option Seat = (get_or loop.handles loop.at default_handle).held in
    let index_below = c.loop-at-test.true in
    let same_length = loop.auto.handles in (
      emptied_more loop.handles loop.at c.take.new.self (omega (arith, index_below, same_length)) c.take.ensures.empty loop.invariant.0,
      before ++ seat_in held_seat,
      subst (λ (found : Option Seat). AreGathered (before ++ seat_in found) c.with_next-gathering.result) (given_is_held c.take.result held_seat c.take.ensures.taken) (c.with_next-gathering.ensures before loop.invariant.2),
      append_assoc before (seat_in held_seat) (seats_in (seats_held (slice_set loop.handles loop.at c.take.new.self)))
          ∙ ap (λ (later_seats : List Seat). before ++ later_seats) (sym (taken_next loop.handles loop.at default_handle c.take.new.self (omega (arith, index_below, same_length)) c.take.ensures.empty loop.invariant.0)) ∙ loop.invariant.3,
    )

pub returns-clause-history : goal.returns-clause-history
returns-clause-history c make_up =
    let loop = c.loop-at in
    let before = loop.invariant.1 in
    let seats_length : length (seats_held loop.handles) ≡ length loop.handles = length-map loop.handles (λ (handle : Handle). handle.held) in
    let all_passed = c.loop-at-test.false in
    let same_length = loop.auto.handles in
    let none_held : any_held (seats_held loop.handles) ≡ false = ap any_held (sym (take_all loop.at (seats_held loop.handles) (omega (arith, seats_length, all_passed, same_length)))) ∙ loop.invariant.0 in
    let all_gathered : before ≡ seats_in (seats_held c.args.handles.now) = sym (append-nil before) ∙ ap (λ (later_seats : List Seat). before ++ later_seats) (sym (none_left (seats_held loop.handles) none_held)) ∙ loop.invariant.3 in
    c.end.ensures (seats_in (seats_held c.args.handles.now)) (subst (λ (seats : List Seat). AreGathered seats loop.gathering) all_gathered loop.invariant.2) make_up
