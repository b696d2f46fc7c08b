use Rattle.std.proofs.Common.{arith}
use Rattle.trace_runs.proofs.Scripts.{count_scripts}
use Rattle.trace_runs.proofs.Whole.{all_rest, whole, replayed_noted}
use Rattle.step_core.proofs.Theorem.FirstFacts.{opening_run}
use Rattle.trace_runs.specs.Replayed.{events_of}
use Rattle.trace_runs.proofs.replays.noted_answer_to.Goals as goal

pub graph_of-requires-clause-rest : goal.graph_of-requires-clause-rest
graph_of-requires-clause-rest c =
    all_rest c.args.trace.config c.args.trace.scripts c.args.trace.schedule c.args.steps c.in_ok-replies.replies c.in_ok-replies.plain c.in_ok-replies.ensures.finished

pub returns-clause-ok : goal.returns-clause-ok
returns-clause-ok c = λ bytes reads.
    let config = c.args.trace.config in
    let scripts = c.args.trace.scripts in
    let items = c.args.trace.schedule in
    let finished = c.in_ok-replies.ensures.finished in
    replayed_noted bytes c.args.trace.version config scripts items c.args.steps c.in_ok-replies.replies c.in_ok-replies.plain c.in_ok-graph.graph c.in_ok-replies.history.list reads (count_scripts bytes c.args.trace.version config scripts items reads) finished c.in_ok-graph.ensures.threads
    (c.in_ok-graph.ensures.shows (opening_run config (events_of config scripts items c.args.steps)) finished.shows) c.in_ok-replies.ensures.history

pub run_noted-requires : goal.run_noted-requires
run_noted-requires c = c.requires

pub graph_of-requires-clause-config : goal.graph_of-requires-clause-config
graph_of-requires-clause-config c = c.in_ok-replies.ensures.finished.config

pub returns-clause-scripts : goal.returns-clause-scripts
returns-clause-scripts c = λ mutator mutator_below. c.in_ok-replies.ensures.finished.jobs_are mutator (omega (arith, mutator_below, c.in_ok-graph.ensures.threads))

pub returns-clause-whole : goal.returns-clause-whole
returns-clause-whole c =
    let trace = c.args.trace in
    let finished = c.in_ok-replies.ensures.finished in
    whole trace.config trace.scripts (events_of trace.config trace.scripts trace.schedule c.args.steps) (count_scripts c.requires.0 trace.version trace.config trace.scripts trace.schedule c.requires.1) finished.idle finished.called

pub returns-clause-history : goal.returns-clause-history
returns-clause-history c = c.in_ok-replies.ensures.history

pub returns-clause-graph : goal.returns-clause-graph
returns-clause-graph c =
    let trace = c.args.trace in
    c.in_ok-graph.ensures.shows (opening_run trace.config (events_of trace.config trace.scripts trace.schedule c.args.steps)) c.in_ok-replies.ensures.finished.shows
