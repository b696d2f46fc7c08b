use Rattle.std.proofs.Common.{ap, ◌∙◌, arith}
use Rattle.heap_words.proofs.Lists.{element_at}
use Rattle.heap_seats.specs.GivenUp.{sizes_closing, start_closing}
use Rattle.heap_seats.proofs.Followed.{if_some}
use Rattle.table_heap.specs.declared.heap.Heap.{Heap}
use Rattle.table_heap.specs.State.{start_of_heap}
use Rattle.covremuj.specs.OpenedHandles.{seats_held}
use Rattle.covremuj.specs.ClosedHandles.{seats_in}
use Rattle.covremuj.proofs.renewing.renewed.Goals as goal

pub renew-requires-clause-room : goal.renew-requires-clause-room
renew-requires-clause-room c =
    let all_given = c.in_ok-closing.ensures.given.all in
    let count = all_given.count in
    let first_seat = element_at (seats_in (seats_held c.args.handles.now)) 0 (omega (arith, count)) in
    c.requires.room first_seat.0 first_seat.1 ∙ all_given.config 0 first_seat.0 first_seat.1

pub returns-clause-goes_on : goal.returns-clause-goes_on
returns-clause-goes_on c =
    let to_be = c.in_ok-closing.ensures.given in
    let closing = c.in_ok-closing.closing in
    if_some c.renew.result _ _
    (λ following followed. record {
      sizes = sizes_closing closing;
      start = start_closing closing;
      config = to_be.all.config;
      begun = λ address seat seat_there. ap (λ (heap : Heap). start_of_heap heap) (to_be.all.heap address seat seat_there);
      followed = followed;
    })
    (c.renew.ensures (seats_in (seats_held c.args.handles.now)) to_be)
