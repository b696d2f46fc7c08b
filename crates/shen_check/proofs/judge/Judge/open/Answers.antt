use Rattle.std.proofs.Common.{sym, ap, arith, ◌∙◌}
use Rattle.shen_graph.specs.Graph.{opening}
use Rattle.shen_graph.specs.Work.{opened}
use Rattle.shen_check.proofs.Taking.{first}
use Rattle.shen_check.proofs.judge.Judge.open.Goals as goal

pub returns : goal.returns
returns c =
    let same_count = c.mutators.ensures ∙ sym c.requires in
    let few_mutators = c.args.trace.now.config.in_range.most_mutators in
    first c.args.trace.now.scripts c.in_ok-graph.graph c.in_ok-work.work (omega (arith, few_mutators, c.requires))
    (c.in_ok-graph.ensures.graph ∙ ap opening same_count) (c.in_ok-graph.ensures.threads ∙ same_count)
    (c.in_ok-work.ensures ∙ ap opened c.list.ensures)
