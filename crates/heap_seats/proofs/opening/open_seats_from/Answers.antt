use Rattle.std.proofs.Common.{sym, ◌∙◌, subst, arith}
use Rattle.std.proofs.Math.Logic.{∥∥₁_map}
use Rattle.std.specs.Prelude.{IfOk}
use Rattle.heap_words.specs.declared.config.Config.{Config}
use Rattle.heap_words.specs.Steps.{Stage}
use Rattle.image_graph.specs.State as images
use Rattle.heap_machines.specs.FromImage.{stage_from}
use Rattle.shared_table.specs.Views.{whole, dealt_to}
use Rattle.step_core.specs.Actor.{Actor}
use Rattle.table_heap.specs.State.{start_of_heap, IsFresh}
use Rattle.heap_seats.specs.FreshSeats.{AreFreshSeats}
use Rattle.heap_seats.specs.Histories.{BeginsRenewable}
use Rattle.heap_seats.proofs.Opened.{dealt_in}
use Rattle.heap_seats.proofs.opening.open_seats_from.Goals as goal

pub open_from-requires-clause-workers : goal.open_from-requires-clause-workers
open_from-requires-clause-workers c = omega (arith, c.seats.ensures)

pub open_from-requires-clause-begins : goal.open_from-requires-clause-begins
open_from-requires-clause-begins c = ∥∥₁_map c.requires.begins (λ some_begin. (some_begin.0, some_begin.1))

pub seated-requires-clause-count : goal.seated-requires-clause-count
seated-requires-clause-count c = c.in_ok-heap.ensures.count ∙ c.seats.ensures

pub seated-requires-clause-bundles : goal.seated-requires-clause-bundles
seated-requires-clause-bundles c index bundle bundle_there =
    let heap_opened = c.in_ok-heap.ensures in
    let heap = c.in_ok-heap.heap in
    let image = c.args.image in
    subst (λ (stage : Stage Actor). IsFresh heap bundle (dealt_in c.config-config.result stage index)) (sym heap_opened.start)
    (subst (λ workers. IsFresh heap bundle (dealt_to workers index (whole (stage_from (images.config_of image) (images.words_of image) c.args.counts.items).machines))) c.seats.ensures (heap_opened.bundles index bundle bundle_there))

pub seated-requires-clause-begins : goal.seated-requires-clause-begins
seated-requires-clause-begins c =
    let heap_opened = c.in_ok-heap.ensures in
    let image = c.args.image in
    subst (λ (config : Config). ∥ BeginsRenewable config (start_of_heap c.in_ok-heap.heap) ∥₁) (sym c.config-config.ensures)
    (subst (λ (stage : Stage Actor). ∥ BeginsRenewable (images.config_of image) stage ∥₁) (sym heap_opened.start)
    (∥∥₁_map c.requires.begins (λ some_begin. record { graph = some_begin.0; begins = heap_opened.begins some_begin.0 some_begin.1; renewable = some_begin.2 })))

pub returns : goal.returns
returns c =
    let heap_opened = c.in_ok-heap.ensures in
    subst (λ (stage : Stage Actor). IfOk c.seated.result (λ seats. AreFreshSeats (images.config_of c.args.image) stage seats.items)) heap_opened.start
    (subst (λ (config : Config). IfOk c.seated.result (λ seats. AreFreshSeats config (start_of_heap c.in_ok-heap.heap) seats.items)) c.config-config.ensures c.seated.ensures)
