use Rattle.std.proofs.Common.{◌<◌, [], length, arith}
use Rattle.std.proofs.lemmas.Grind.{common_steps}
use Rattle.std.proofs.lemmas.List.{get_or_read}
use Rattle.shen_graph.proofs.PlainLemmas.{graph_of-with_pin}
use Rattle.shen_graph.proofs.plain_graph.PlainGraph.set_pin.Goals as goal

pub returns-clause-graph : goal.returns-clause-graph
returns-clause-graph c =
    let within : c.args.thread < length c.self.inside.pins.items = grind (arith, common_steps) in
    let row = get_or_read c.self.inside.pins.items c.args.thread c.index_mut-row.result.now within c.index_mut-row.ensures.value [] in
    let inside : c.args.slot < length c.index_mut-row.result.now = omega (arith, rw (← row) at (c.self.invariant.4 c.args.thread [] within)) in
    rw (← c.self.view_is) (graph_of-with_pin (record { rows = c.self.inside.objects.items; roots = c.self.inside.roots.items; counts = c.self.inside.counts.items; pins = c.self.inside.pins.items }) c.args.thread c.args.slot c.args.held c.index_mut-row.result.now within row inside)
