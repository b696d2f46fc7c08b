use Rattle.std.proofs.Common.{◌≡◌, ap, ◌∙◌, sym, subst, arith}
use Rattle.heap_words.specs.declared.config.Config.{Config}
use Rattle.heap_words.specs.Steps.{Stage}
use Rattle.step_core.specs.Actor.{Actor}
use Rattle.table_heap.specs.Closed as ends
use Rattle.heap_seats.specs.GivenUp.{heap_closing, sizes_closing, start_closing}
use Rattle.heap_seats.specs.Renewed.{BeginSeats, IsGraphLeft}
use Rattle.heap_seats.specs.RenewalStage.{IsLeftRenewable}
use Rattle.heap_seats.proofs.Followed.{if_some}
use Rattle.heap_seats.proofs.Joined.{has_all}
use Rattle.heap_seats.proofs.LeftGraphs.{left_renewable}
use Rattle.heap_seats.proofs.LeftMachines.{left_rests, left_made}
use Rattle.heap_seats.proofs.closing.Closing.renew.Goals as goal

pub count_made-requires : goal.count_made-requires
count_made-requires c thread thread_below =
    let closing = c.args.self in
    let seats_whole = c.requires.whole in
    let same_mutators : c.args.room.config.mutators ≡ closing.together.config.mutators = ap (λ (config : Config). config.mutators) (c.requires.room ∙ sym closing.fits.config) in
    let count = c.args.room.count in
    has_all (sizes_closing closing) (heap_closing closing) seats_whole.0 closing.together seats_whole.1.all seats_whole.1.given thread (omega (arith, thread_below, count, same_mutators))

pub go_on-requires-clause-rest : goal.go_on-requires-clause-rest
go_on-requires-clause-rest c =
    let seats_whole = c.requires.whole in
    let closed_heap = c.in_ok-closed.closed in
    left_rests seats_whole.0 closed_heap (c.in_ok-closed.ensures.machines seats_whole.0 seats_whole.1.given seats_whole.1.all) seats_whole.1.over (ends.config_of closed_heap)

pub go_on-requires-clause-begins : goal.go_on-requires-clause-begins
go_on-requires-clause-begins c =
    let closing = c.args.self in
    let seats_whole = c.requires.whole in
    let closed_heap = c.in_ok-closed.closed in
    let one_history = c.in_ok-closed.ensures.history seats_whole.0 seats_whole.1.given seats_whole.1.all (λ index seat seat_there role. seats_whole.1.over index seat seat_there) in
    subst (λ (config : Config). ∥ IsLeftRenewable config (ends.stage_of closed_heap) ∥₁) (sym c.in_ok-closed.ensures.config) (left_renewable (sizes_closing closing) (start_closing closing) (ends.stage_of closed_heap) one_history.events one_history.ends one_history.history.some)

pub go_on-requires-clause-counts : goal.go_on-requires-clause-counts
go_on-requires-clause-counts c =
    let closing = c.args.self in
    let seats_whole = c.requires.whole in
    let closed_heap = c.in_ok-closed.closed in
    let sizes : c.args.room.config.mutators ≡ (ends.config_of closed_heap).mutators = ap (λ (config : Config). config.mutators) (c.requires.room ∙ sym c.in_ok-closed.ensures.config) in
    let count = c.args.room.count in
    let same_count = c.count_made.ensures.count in
    left_made (ends.config_of closed_heap).mutators seats_whole.0 closing.together closed_heap seats_whole.1.given.machines (c.in_ok-closed.ensures.machines seats_whole.0 seats_whole.1.given seats_whole.1.all) (λ index seat seat_there. seats_whole.1.all.number index seat seat_there)
    c.count_made.new.counts.items (same_count ∙ count ∙ sizes) (λ thread thread_below. c.count_made.ensures.each thread (omega (arith, thread_below, count, sizes)))

pub returns : goal.returns
returns c seats to_be =
    let closing = c.args.self in
    let closed_heap = c.in_ok-closed.closed in
    let one_history = c.in_ok-closed.ensures.history seats to_be.given to_be.all (λ index seat seat_there role. to_be.over index seat seat_there) in
    if_some c.go_on.result _ _
    (λ following begin. record {
      events = one_history.events;
      history = one_history.history;
      goes_on =
          subst (λ (stage : Stage Actor). BeginSeats (sizes_closing closing) (IsGraphLeft (sizes_closing closing) stage) following.renewal following.seats.items) (sym one_history.ends)
          (subst (λ (config : Config). BeginSeats config (IsGraphLeft config (ends.stage_of closed_heap)) following.renewal following.seats.items) c.in_ok-closed.ensures.config begin);
    })
    c.go_on.ensures
