use Rattle.std.proofs.Common.{sym, ap, ◌∙◌, subst}
use Rattle.heap_words.specs.Steps.{IsReached}
use Rattle.table_heap.specs.declared.heap.Heap.{Heap}
use Rattle.table_heap.specs.Closed.{stage_of}
use Rattle.table_heap.specs.Core.{heap_kind}
use Rattle.table_heap.specs.State.{start_of_heap, IsBundleOf}
use Rattle.heap_seats.specs.GivenUp.{heap_closing, sizes_closing}
use Rattle.heap_seats.proofs.Joined.{has_all, control_idle, all_rest, one_history, machines_left}
use Rattle.heap_seats.proofs.closing.Closing.end.Goals as goal

pub close-requires-clause-heap : goal.close-requires-clause-heap
close-requires-clause-heap c = subst (IsBundleOf c.args.self.together) (sym c.in-Some.ensures) c.args.self.fits

pub close-requires-clause-all : goal.close-requires-clause-all
close-requires-clause-all c = let closing = c.args.self in let seats_whole = c.requires.whole in has_all (sizes_closing closing) (heap_closing closing) seats_whole.seats closing.together seats_whole.all seats_whole.given

pub close-requires-clause-control : goal.close-requires-clause-control
close-requires-clause-control c = let closing = c.args.self in let seats_whole = c.requires.whole in control_idle (sizes_closing closing) (heap_closing closing) seats_whole.seats closing.together seats_whole.all seats_whole.given seats_whole.over

pub returns-in-Some-clause-config : goal.returns-in-Some-clause-config
returns-in-Some-clause-config c = c.close.ensures.config ∙ ap (λ (heap : Heap). heap.config) c.in-Some.ensures

pub returns-in-Some-clause-history : goal.returns-in-Some-clause-history
returns-in-Some-clause-history c seats are_together are_all are_over =
    let closing = c.args.self in
    one_history (sizes_closing closing) (heap_closing closing) seats closing.together are_all are_together c.close.result c.close.ensures.machines are_over
    (subst (λ (heap : Heap). IsReached (heap_kind heap.config) (start_of_heap heap) (stage_of c.close.result)) c.in-Some.ensures c.close.ensures.reached)

pub returns-in-Some-clause-rest : goal.returns-in-Some-clause-rest
returns-in-Some-clause-rest c =
    let closing = c.args.self in
    let seats_whole = c.requires.whole in
    all_rest (sizes_closing closing) (heap_closing closing) seats_whole.seats closing.together seats_whole.all seats_whole.given c.close.result c.close.ensures.machines (c.close.ensures.config ∙ ap (λ (heap : Heap). heap.config) c.in-Some.ensures) seats_whole.over

pub returns-in-Some-clause-machines : goal.returns-in-Some-clause-machines
returns-in-Some-clause-machines c seats are_together are_all =
    let closing = c.args.self in
    machines_left (sizes_closing closing) (heap_closing closing) seats closing.together are_all are_together c.close.result c.close.ensures.machines
