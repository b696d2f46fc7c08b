use Rattle.std.proofs.Common.{ℕ, ◌≡◌, ◌+◌, ◌<◌, length, get_or, ap, arith}
use Rattle.std.proofs.lemmas.Grind.{common_steps}
use Rattle.std.proofs.lemmas.List.{get_or_read}
use Rattle.shen_graph.specs.declared.name.Name.{Name}
use Rattle.shen_graph.specs.PlainGraph.{Plain}
use Rattle.shen_graph.proofs.PlainLemmas.{graph_of-with_fresh, count-graph_of}
use Rattle.shen_graph.proofs.plain_graph.PlainGraph.make.Goals as goal

pub overflow_add-count : goal.overflow_add-count
overflow_add-count c =
    let within : c.args.thread < length c.self.inside.counts.items = grind (arith, common_steps) in
    let count : c.index.result.now ≡ get_or c.self.inside.counts.items c.args.thread 0 = get_or_read c.self.inside.counts.items c.args.thread c.index.result.now within c.index.ensures 0 in
    omega (arith, rw (count-graph_of, ← c.self.view_is) at c.requires.count)

pub returns-clause-name : goal.returns-clause-name
returns-clause-name c =
    let within : c.args.thread < length c.self.inside.counts.items = grind (arith, common_steps) in
    let count : c.index.result.now ≡ get_or c.self.inside.counts.items c.args.thread 0 = get_or_read c.self.inside.counts.items c.args.thread c.index.result.now within c.index.ensures 0 in
    rw (count-graph_of, ← c.self.view_is) (ap (λ (number : ℕ). let name : Name = record { thread = c.args.thread; count = number + 1 } in name) count)

pub returns-clause-graph : goal.returns-clause-graph
returns-clause-graph c =
    let plain : Plain = record { rows = c.self.inside.objects.items; roots = c.self.inside.roots.items; counts = c.self.inside.counts.items; pins = c.self.inside.pins.items } in
    let within : c.args.thread < length c.self.inside.counts.items = grind (arith, common_steps) in
    let count : c.index.result.now ≡ get_or c.self.inside.counts.items c.args.thread 0 = get_or_read c.self.inside.counts.items c.args.thread c.index.result.now within c.index.ensures 0 in
    rw (← c.self.view_is, c.in_ok-insert.ensures.items, c.in_ok-object.ensures, count) (graph_of-with_fresh plain c.args.thread c.args.refs c.args.nums within)
