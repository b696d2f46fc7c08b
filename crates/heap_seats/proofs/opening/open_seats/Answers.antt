use Rattle.std.proofs.Common.{sym, ◌∙◌, subst, arith}
use Rattle.std.specs.Prelude.{IfOk}
use Rattle.heap_words.specs.Steps.{Stage}
use Rattle.shared_table.specs.Views.{whole, dealt_to}
use Rattle.step_core.specs.Actor.{Actor}
use Rattle.step_core.specs.Begins.{first_graph}
use Rattle.step_core.proofs.Theorem.FirstFacts.{opening_begins}
use Rattle.graph_placing.proofs.Renewables.{opening_renewable}
use Rattle.table_heap.specs.State.{IsFresh}
use Rattle.heap_seats.specs.FreshSeats.{AreFreshSeats}
use Rattle.heap_seats.specs.Histories.{BeginsRenewable}
use Rattle.heap_seats.proofs.Opened.{dealt_in}
use Rattle.heap_seats.proofs.opening.open_seats.Goals as goal

pub open-requires : goal.open-requires
open-requires c = omega (arith, c.seats.ensures)

pub seated-requires-clause-count : goal.seated-requires-clause-count
seated-requires-clause-count c = c.in_ok-heap.ensures.count ∙ c.seats.ensures

pub seated-requires-clause-bundles : goal.seated-requires-clause-bundles
seated-requires-clause-bundles c index bundle bundle_there =
    let heap_opened = c.in_ok-heap.ensures in
    let heap = c.in_ok-heap.heap in
    subst (λ (stage : Stage Actor). IsFresh heap bundle (dealt_in c.args.config stage index)) (sym heap_opened.opening)
    (subst (λ workers. IsFresh heap bundle (dealt_to workers index (whole (Rattle.table_heap.specs.Core.heap_opening c.args.config).machines))) c.seats.ensures (heap_opened.bundles index bundle bundle_there))

pub seated-requires-clause-begins : goal.seated-requires-clause-begins
seated-requires-clause-begins c =
    let config = c.args.config in
    subst (λ (stage : Stage Actor). ∥ BeginsRenewable config stage ∥₁) (sym c.in_ok-heap.ensures.opening)
    ∣ record { graph = first_graph config; begins = opening_begins config; renewable = opening_renewable config.mutators } ∣₁

pub returns : goal.returns
returns c = subst (λ (stage : Stage Actor). IfOk c.seated.result (λ seats. AreFreshSeats c.args.config stage seats.items)) c.in_ok-heap.ensures.opening c.seated.ensures
