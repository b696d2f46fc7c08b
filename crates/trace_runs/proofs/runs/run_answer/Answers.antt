use Rattle.std.proofs.Common.{ap, subst, sym, ◌∙◌, length, All}
use Rattle.step_core.proofs.Theorem.FirstFacts.{opening_run}
use Rattle.step_core.specs.Schedule.{Scripts}
use Rattle.shen_core.specs.Progress.{IsRunnable}
use Rattle.trace_runs.specs.Running.{HasCome}
use Rattle.trace_runs.proofs.Scripts.{count_scripts, runnable_scripts}
use Rattle.trace_runs.proofs.Coming.{come_rest, answered}
use Rattle.trace_runs.proofs.runs.run_answer.Goals as goal

pub run_scripts-requires-clause-count : goal.run_scripts-requires-clause-count
run_scripts-requires-clause-count g c κs within =
    let trace = c.args.trace in
    ap (λ (any_scripts : Scripts). length any_scripts) c.into_vec-scripts.ensures ∙ count_scripts c.requires.reads.0 trace.version trace.config trace.scripts trace.schedule c.requires.reads.1

pub run_scripts-requires-clause-runnable : goal.run_scripts-requires-clause-runnable
run_scripts-requires-clause-runnable g c κs within =
    let trace = c.args.trace in
    subst (λ (any_scripts : Scripts). All IsRunnable any_scripts) (sym c.into_vec-scripts.ensures) (runnable_scripts c.requires.reads.0 trace.version trace.config trace.scripts trace.schedule c.requires.reads.1)

pub graph_of-requires-clause-rest : goal.graph_of-requires-clause-rest
graph_of-requires-clause-rest g c = come_rest c.args.trace.config c.into_vec-scripts.result.items c.in_ok-replies.replies c.in_ok-replies.heap c.in_ok-replies.ensures

pub returns-clause-ok : goal.returns-clause-ok
returns-clause-ok g c = λ bytes reads.
    let config = c.args.trace.config in
    let scripts = c.args.trace.scripts in
    let items = c.args.trace.schedule in
    let has_come : HasCome config scripts c.in_ok-replies.replies c.in_ok-replies.heap = subst (λ (any_scripts : Scripts). HasCome config any_scripts c.in_ok-replies.replies c.in_ok-replies.heap) c.into_vec-scripts.ensures c.in_ok-replies.ensures in
    answered bytes c.args.trace.version config scripts items c.in_ok-replies.replies c.in_ok-replies.heap c.in_ok-graph.graph reads (count_scripts bytes c.args.trace.version config scripts items reads) has_come c.in_ok-graph.ensures.threads
    (c.in_ok-graph.ensures.shows (opening_run config has_come.reached.events) has_come.reached.ends)

pub run_scripts-requires-clause-workers : goal.run_scripts-requires-clause-workers
run_scripts-requires-clause-workers g c κs within = c.requires.workers
