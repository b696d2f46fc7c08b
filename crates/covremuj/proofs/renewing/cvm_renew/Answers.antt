use Rattle.std.proofs.Common.{◌≡◌, ◌≢◌, List, length, Option, sym, ap, ◌∙◌, subst, arith}
use Rattle.std.specs.Prelude.{slice_set}
use Rattle.std.proofs.lemmas.Bool.Decides.{nat_tests}
use Rattle.std.proofs.lemmas.List.{length-map}
use Rattle.heap_words.specs.declared.config.Config.{Config}
use Rattle.heap_words.specs.Ranges.{seat_count}
use Rattle.heap_seats.specs.declared.seat.Seat.{Seat}
use Rattle.heap_seats.specs.Gathered.{AreOfOneHeap}
use Rattle.covremuj.specs.declared.asked.Asked.TheVariants.{Ended}
use Rattle.covremuj.specs.declared.handle.Handle.{Handle}
use Rattle.covremuj.specs.OpenedHandles.{seats_held}
use Rattle.covremuj.specs.ClosedHandles.{seats_in, AnswersAsked}
use Rattle.covremuj.specs.RenewedHandles.{AreFollowedHere}
use Rattle.covremuj.proofs.HeldLists.{set_same}
use Rattle.covremuj.proofs.GivenUp.{first_counts}
use Rattle.covremuj.proofs.Renewals.{going_answer, going_of}
use Rattle.covremuj.proofs.renewing.cvm_renew.Goals as goal

pub renewed-requires-clause-one_heap : goal.renewed-requires-clause-one_heap
renewed-requires-clause-one_heap c =
    let same_seats = set_same c.refuses-why.new.handles 0 c.index-handles-0.result c.room_for.new.handle c.room_for.ensures.held ∙ c.refuses-why.ensures.held in
    subst (λ (some_seats : List (Option Seat)). AreOfOneHeap (seats_in some_seats)) (sym same_seats) c.requires.one_heap

pub hold-requires-clause-count : goal.hold-requires-clause-count
hold-requires-clause-count c =
    let asked = c.if-why-ne-DONE.false in
    let refused_none : c.refuses-why.result ≡ 0 = grind (arith, nat_tests, asked) in
    let held_seats = seats_held c.args.handles.now in
    let new_handles : List Handle = slice_set c.refuses-why.new.handles 0 c.room_for.new.handle in
    let same_seats : seats_held new_handles ≡ held_seats = set_same c.refuses-why.new.handles 0 c.index-handles-0.result c.room_for.new.handle c.room_for.ensures.held ∙ c.refuses-why.ensures.held in
    let followed_here : AreFollowedHere (seats_in held_seats) c.in-Some-renewed.following = subst (λ (some_seats : List (Option Seat)). AreFollowedHere (seats_in some_seats) c.in-Some-renewed.following) same_seats c.in-Some-renewed.ensures.goes_on in
    let first_counted = first_counts held_seats (subst (AnswersAsked Ended held_seats) refused_none c.refuses-why.ensures.answer) in
    c.renewed.ensures.count ∙ sym (length-map new_handles (λ (handle : Handle). handle.held)) ∙ ap (λ (some_seats : List (Option Seat)). length some_seats) same_seats
    ∙ sym first_counted.2 ∙ ap (λ (config : Config). seat_count config.mutators config.helpers) (followed_here.config 0 first_counted.0 first_counted.1) ∙ sym followed_here.followed.goes_on.fresh.count

pub returns-in-Some-renewed-clause-answer : goal.returns-in-Some-renewed-clause-answer
returns-in-Some-renewed-clause-answer c =
    let asked = c.if-why-ne-DONE.false in
    let refused_none : c.refuses-why.result ≡ 0 = grind (arith, nat_tests, asked) in
    let held_seats = seats_held c.args.handles.now in
    going_answer held_seats c.hold.result (subst (AnswersAsked Ended held_seats) refused_none c.refuses-why.ensures.answer) (going_of c.hold.result c.in-Some-renewed.following.renewal c.hold.ensures.answer)

pub returns-in-Some-renewed-clause-goes_on : goal.returns-in-Some-renewed-clause-goes_on
returns-in-Some-renewed-clause-goes_on c small_answer =
    let not_lost : c.hold.result ≢ 27 = λ answer_lost. omega (arith, small_answer, answer_lost) in
    let same_seats = set_same c.refuses-why.new.handles 0 c.index-handles-0.result c.room_for.new.handle c.room_for.ensures.held ∙ c.refuses-why.ensures.held in
    record {
      following = c.in-Some-renewed.following;
      here = subst (λ (some_seats : List (Option Seat)). AreFollowedHere (seats_in some_seats) c.in-Some-renewed.following) same_seats c.in-Some-renewed.ensures.goes_on;
      answers = c.hold.ensures.answer not_lost;
      holds = c.hold.ensures.holds not_lost;
    }
