use Rattle.std.proofs.Common.{◌<◌, length}
use Rattle.std.proofs.lemmas.List.{get_or_read}
use Rattle.shen_graph.specs.PlainGraph.{Plain}
use Rattle.shen_graph.proofs.PlainLemmas.{number_at-within, number_at-nowhere, graph_of-with_number, place_of-within, nobody}
use Rattle.shen_graph.proofs.plain_graph.PlainGraph.set_number.Goals as goal

pub set_number-requires : goal.set_number-requires
set_number-requires c =
    let plain : Plain = record { rows = c.self.inside.objects.items; roots = c.self.inside.roots.items; counts = c.self.inside.counts.items; pins = c.self.inside.pins.items } in
    let place = rw (← c.self.view_is) at c.in-Some.ensures in
    let within : c.in-Some.place < length c.self.inside.objects.items = place_of-within plain c.args.thread c.args.root c.in-Some.place place in
    let row = get_or_read c.self.inside.objects.items c.in-Some.place c.index_mut-object.result.now within c.index_mut-object.ensures.value nobody in
    rw row (number_at-within plain c.args.thread c.args.root c.args.index c.in-Some.place place (rw (← c.self.view_is) at c.requires.index))

pub unreachable-requires : goal.unreachable-requires
unreachable-requires c = number_at-nowhere c.args.self.now c.args.thread c.args.root c.args.index c.in-None.ensures c.requires.index

pub returns-clause-graph : goal.returns-clause-graph
returns-clause-graph c =
    let plain : Plain = record { rows = c.self.inside.objects.items; roots = c.self.inside.roots.items; counts = c.self.inside.counts.items; pins = c.self.inside.pins.items } in
    let place = rw (← c.self.view_is) at c.in-Some.ensures in
    let within : c.in-Some.place < length c.self.inside.objects.items = place_of-within plain c.args.thread c.args.root c.in-Some.place place in
    let row = get_or_read c.self.inside.objects.items c.in-Some.place c.index_mut-object.result.now within c.index_mut-object.ensures.value nobody in
    rw (← c.self.view_is, c.set_number.ensures, row) (graph_of-with_number plain c.args.thread c.args.root c.args.index c.in-Some.place c.args.value place)
