use Rattle.std.proofs.Common.{subst, sym}
use Rattle.churn.specs.declared.summary.Summary.{Summary}
use Rattle.churn.specs.Laws.{SumsUpRuns}
use Rattle.churn.proofs.Sums.{sums_up}
use Rattle.churn.proofs.summary.summarize.Goals as goal

pub returns-clause-turns : goal.returns-clause-turns
returns-clause-turns c =
    subst (λ (summary : Summary). SumsUpRuns c.args.seed c.args.count c.args.replies.now c.args.graph.now.rows summary) (sym c.counted.ensures)
    (sums_up c.args.seed c.args.count c.args.replies.now c.args.graph.now.rows)
