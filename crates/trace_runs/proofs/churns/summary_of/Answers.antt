use Rattle.std.proofs.Common.{All, sym, subst, arith}
use Rattle.step_core.proofs.Theorem.FirstFacts.{opening_run}
use Rattle.step_core.specs.Schedule.{Scripts}
use Rattle.shen_core.specs.Progress.{IsRunnable}
use Rattle.trace_runs.proofs.Coming.{come_rest}
use Rattle.trace_runs.proofs.Churned.{churn_runnable, entries, churn_run, churn_tells, churn_can, small_sum}
use Rattle.trace_runs.proofs.churns.summary_of.Goals as goal

pub run_scripts-requires-clause-runnable : goal.run_scripts-requires-clause-runnable
run_scripts-requires-clause-runnable g c κs within = subst (λ (any_scripts : Scripts). All IsRunnable any_scripts) (sym c.in-Ok.ensures) (churn_runnable c.args.workload.seed c.args.workload.count c.requires.count)

pub graph_of-requires-clause-rest : goal.graph_of-requires-clause-rest
graph_of-requires-clause-rest g c = come_rest c.churn_heap-config.result c.in-Ok.scripts.items c.in_ok-replies.replies c.in_ok-replies.heap c.in_ok-replies.ensures

pub summarize-requires-clause-commands : goal.summarize-requires-clause-commands
summarize-requires-clause-commands g c =
    let workload = c.args.workload in
    let config = c.churn_heap-config.result in
    let scripts = c.in-Ok.scripts.items in
    let jobs = c.in_ok-replies.replies in
    let end = c.in_ok-replies.heap in
    let text = c.in_ok-graph.graph in
    let finished = c.in_ok-replies.ensures in
    let churn_facts = churn_can workload.seed workload.count config scripts jobs end c.churn_heap-config.ensures c.in-Ok.ensures finished text (c.in_ok-graph.ensures.shows (opening_run config finished.reached.events) finished.reached.ends) in
    omega (arith, churn_facts.commands, c.requires.count)

pub summarize-requires-clause-sum : goal.summarize-requires-clause-sum
summarize-requires-clause-sum g c =
    let workload = c.args.workload in
    let config = c.churn_heap-config.result in
    let scripts = c.in-Ok.scripts.items in
    let jobs = c.in_ok-replies.replies in
    let end = c.in_ok-replies.heap in
    let text = c.in_ok-graph.graph in
    let finished = c.in_ok-replies.ensures in
    let churn_facts = churn_can workload.seed workload.count config scripts jobs end c.churn_heap-config.ensures c.in-Ok.ensures finished text (c.in_ok-graph.ensures.shows (opening_run config finished.reached.events) finished.reached.ends) in
    omega (arith, churn_facts.sum, small_sum workload.seed workload.count c.requires.seed c.requires.count)

pub summarize-requires-clause-words : goal.summarize-requires-clause-words
summarize-requires-clause-words g c =
    let workload = c.args.workload in
    let config = c.churn_heap-config.result in
    let scripts = c.in-Ok.scripts.items in
    let jobs = c.in_ok-replies.replies in
    let end = c.in_ok-replies.heap in
    let text = c.in_ok-graph.graph in
    let finished = c.in_ok-replies.ensures in
    let churn_facts = churn_can workload.seed workload.count config scripts jobs end c.churn_heap-config.ensures c.in-Ok.ensures finished text (c.in_ok-graph.ensures.shows (opening_run config finished.reached.events) finished.reached.ends) in
    omega (arith, churn_facts.words)

pub returns : goal.returns
returns g c =
    let workload = c.args.workload in
    let config = c.churn_heap-config.result in
    let scripts = c.in-Ok.scripts.items in
    let jobs = c.in_ok-replies.replies in
    let end = c.in_ok-replies.heap in
    let text = c.in_ok-graph.graph in
    let finished = c.in_ok-replies.ensures in
    c.summarize.ensures.turns (entries workload.seed workload.count config scripts jobs end c.churn_heap-config.ensures c.in-Ok.ensures finished)
    (churn_run workload.seed workload.count config scripts jobs end c.churn_heap-config.ensures c.in-Ok.ensures finished)
    (churn_tells workload.seed workload.count config scripts jobs end c.churn_heap-config.ensures c.in-Ok.ensures finished text (c.in_ok-graph.ensures.shows (opening_run config finished.reached.events) finished.reached.ends))
