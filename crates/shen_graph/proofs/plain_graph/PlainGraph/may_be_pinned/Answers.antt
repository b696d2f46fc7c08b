use Rattle.shen_graph.proofs.PinLemmas.{may_told}
use Rattle.shen_graph.proofs.plain_graph.PlainGraph.may_be_pinned.Goals as goal

pub returns : goal.returns
returns c = may_told c.any_differs.result c.args.regions c.args.region_words c.args.self.now c.args.name c.args.place c.if-not-is_in_heap.ensures c.any_differs.ensures
