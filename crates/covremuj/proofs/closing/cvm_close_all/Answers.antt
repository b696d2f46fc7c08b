use Rattle.std.proofs.Common.{◌≡◌, List, Option, subst, arith}
use Rattle.std.proofs.lemmas.Bool.Decides.{nat_tests}
use Rattle.heap_seats.specs.declared.seat.Seat.{Seat}
use Rattle.heap_seats.specs.Gathered.{MakeUpHeap, HaveHistory}
use Rattle.covremuj.specs.OpenedHandles.{seats_held}
use Rattle.covremuj.specs.ClosedHandles.{seats_in, AnswersClosing}
use Rattle.covremuj.proofs.GivenUp.{make_up}
use Rattle.covremuj.proofs.closing.cvm_close_all.Goals as goal

pub returns-clause-history : goal.returns-clause-history
returns-clause-history c is_done one_heap =
    let held_seats = seats_held c.args.handles.now in
    let asked = c.if-why-ne-DONE.false in
    let refused_none : c.refuses-why.result ≡ 0 = grind (arith, nat_tests, asked) in
    subst (λ (some_seats : List (Option Seat)). MakeUpHeap (seats_in some_seats) → HaveHistory (seats_in some_seats)) c.refuses-why.ensures.held c.give_up_all.ensures.history
    (make_up held_seats (subst (AnswersClosing held_seats) refused_none c.refuses-why.ensures.answer) one_heap)
