use Rattle.std.proofs.Common.{arith, ap, sym, ◌∙◌}
use Rattle.shen_graph.specs.Step.{name_in}
use Rattle.shen_graph.proofs.PlainLemmas.{pin-graph_of}
use Rattle.shen_graph.proofs.plain_graph.PlainGraph.put_pins.Goals as goal

pub returns-clause-pins : goal.returns-clause-pins
returns-clause-pins c = λ thread slot low high.
    c.loop-thread.invariant.done thread slot low (let last = rw (← c.self.view_is) at high in omega (arith, last, low, c.len-thread-end.ensures, c.loop-thread-test.false))
    ∙ ap name_in (sym (pin-graph_of c.args.self.now thread slot))
