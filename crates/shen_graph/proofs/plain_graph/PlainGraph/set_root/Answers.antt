use Rattle.std.proofs.Common.{◌<◌, [], length, arith}
use Rattle.std.proofs.lemmas.Grind.{common_steps}
use Rattle.std.proofs.lemmas.List.{get_or_read}
use Rattle.shen_graph.proofs.PlainLemmas.{graph_of-with_root}
use Rattle.shen_graph.proofs.plain_graph.PlainGraph.set_root.Goals as goal

pub returns-clause-graph : goal.returns-clause-graph
returns-clause-graph c =
    let within : c.args.thread < length c.self.inside.roots.items = grind (arith, common_steps) in
    let row = get_or_read c.self.inside.roots.items c.args.thread c.index_mut-row.result.now within c.index_mut-row.ensures.value [] in
    let inside : c.args.root < length c.index_mut-row.result.now = omega (arith, rw (← row) at (c.self.invariant.2 c.args.thread [] within)) in
    rw (← c.self.view_is) (graph_of-with_root (record { rows = c.self.inside.objects.items; roots = c.self.inside.roots.items; counts = c.self.inside.counts.items; pins = c.self.inside.pins.items }) c.args.thread c.args.root c.args.value c.index_mut-row.result.now within row inside)
