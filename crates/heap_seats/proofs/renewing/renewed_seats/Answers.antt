use Rattle.std.proofs.Common.{◌≡◌}
use Rattle.std.specs.Prelude.{Ok}
use Rattle.shen_graph.specs.GraphText.{names_of}
use Rattle.heap_world.specs.Asking.{nothing}
use Rattle.heap_world.specs.Represents.{Represents}
use Rattle.image_graph.specs.State as images
use Rattle.graph_placing.specs.PlacedHeap.{IsPlaced}
use Rattle.graph_placing.specs.TextGraph.{text_graph}
use Rattle.graph_placing.specs.declared.renewing.Renewed.TheVariants as renewals
use Rattle.graph_placing.specs.NamesAnew.{text_anew}
use Rattle.graph_placing.specs.Renaming.{AreCountsOf}
use Rattle.graph_placing.proofs.PinsShown.{nothing_held, not_pinned}
use Rattle.heap_seats.proofs.Followed.{renewed_can, seats_renewed}
use Rattle.heap_seats.proofs.renewing.renewed_seats.Goals as goal

pub open_seats_from-requires-clause-begins : goal.open_seats_from-requires-clause-begins
open_seats_from-requires-clause-begins c =
    let config = c.args.config in
    let text = c.args.text.now in
    let image = c.in-Ok-Heap.image in
    let counts = c.in-Ok-Heap.counts.items in
    let sizes : images.config_of image ≡ config = rw c.in-Ok-Heap.field-0-is at c.in-Ok-Heap.ensures.config in
    let placed : IsPlaced config (text_anew text) (images.memory_of image) = rw c.in-Ok-Heap.field-0-is at c.in-Ok-Heap.ensures.placed in
    let graph_stands : Represents config (images.memory_of image) (text_graph (text_anew text) counts) (λ m. nothing) = rw c.in-Ok-Heap.field-0-is at c.in-Ok-Heap.ensures.stands in
    renewed_can config image sizes counts text c.requires.whole c.requires.names placed graph_stands

pub returns-in-Ok-clause-renewed : goal.returns-in-Ok-clause-renewed
returns-in-Ok-clause-renewed c =
    let config = c.args.config in
    let text = c.args.text.now in
    let image = c.in-Ok-Heap.image in
    let counts = c.in-Ok-Heap.counts.items in
    let sizes : images.config_of image ≡ config = rw c.in-Ok-Heap.field-0-is at c.in-Ok-Heap.ensures.config in
    let placed : IsPlaced config (text_anew text) (images.memory_of image) = rw c.in-Ok-Heap.field-0-is at c.in-Ok-Heap.ensures.placed in
    let graph_stands : Represents config (images.memory_of image) (text_graph (text_anew text) counts) (λ m. nothing) = rw c.in-Ok-Heap.field-0-is at c.in-Ok-Heap.ensures.stands in
    let are_counts : AreCountsOf (names_of text) config.mutators counts = rw c.in-Ok-Heap.field-0-is at c.in-Ok-Heap.ensures.counts in
    seats_renewed config image sizes counts text c.requires.whole c.requires.names placed graph_stands are_counts
    (not_pinned text (λ pinned. let pinned_result = c.renew.ensures.pinned.1 pinned in let heap = c.in-Ok-Heap.is in let heap_result = c.in-Ok-Heap.field-0-is in absurd (cc)))
    c.in-Ok.seats.items c.in-Ok.ensures

pub returns-in-Ok-Pinned-clause-kept : goal.returns-in-Ok-Pinned-clause-kept
returns-in-Ok-Pinned-clause-kept c g shows none_pinned =
    let pinned_answer = c.in-Ok-Pinned.is in
    let pinned_result = c.in-Ok-Pinned.field-0-is in
    let result_is : c.renew.result ≡ Ok renewals.Pinned = cc in
    c.renew.ensures.pinned.0 result_is (nothing_held c.args.text.now c.args.config.mutators g shows c.requires.whole.threads none_pinned)
