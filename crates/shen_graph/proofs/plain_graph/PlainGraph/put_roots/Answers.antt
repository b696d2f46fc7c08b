use Rattle.std.proofs.Common.{List, get_or, None, arith, ap, sym, ◌∙◌}
use Rattle.shen_graph.specs.Graph.{Reference}
use Rattle.shen_graph.proofs.PlainLemmas.{root-graph_of}
use Rattle.shen_graph.proofs.plain_graph.PlainGraph.put_roots.Goals as goal

pub returns-clause-roots : goal.returns-clause-roots
returns-clause-roots c = λ thread index low high.
    ap (λ (row : List Reference). get_or row index None) (c.loop-thread.invariant.done thread low (let last = rw (← c.self.view_is) at high in omega (arith, last, low, c.len-thread-end.ensures, c.loop-thread-test.false)))
    ∙ sym (root-graph_of c.args.self.now thread index)
