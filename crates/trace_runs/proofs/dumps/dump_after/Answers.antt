use Rattle.std.proofs.Common.{arith}
use Rattle.step_core.proofs.Theorem.FirstFacts.{opening_run}
use Rattle.trace_runs.specs.Replayed.{events_of}
use Rattle.trace_runs.proofs.Whole.{all_rest}
use Rattle.trace_runs.proofs.Dumping.{noted_dumpable, noted_shown, replayed_to_dump}
use Rattle.heap_dump.specs.Dumped.{dumped}
use Rattle.trace_runs.proofs.dumps.dump_after.Goals as goal

pub run_noted-requires : goal.run_noted-requires
run_noted-requires c = c.requires

pub graph_of-requires-clause-config : goal.graph_of-requires-clause-config
graph_of-requires-clause-config c = c.in_ok-replies.ensures.finished.config

pub graph_of-requires-clause-rest : goal.graph_of-requires-clause-rest
graph_of-requires-clause-rest c =
    all_rest c.args.trace.config c.args.trace.scripts c.args.trace.schedule c.args.steps c.in_ok-replies.replies c.in_ok-replies.plain c.in_ok-replies.ensures.finished

pub dump_of-requires-clause-history : goal.dump_of-requires-clause-history
dump_of-requires-clause-history c =
    let trace = c.args.trace in
    let ran = c.in_ok-replies in
    noted_dumpable c.requires.0 trace.version trace.config trace.scripts trace.schedule c.args.steps ran.replies ran.plain ran.history.list c.requires.1 ran.ensures.finished ran.ensures.history

pub dump_of-requires-clause-graph : goal.dump_of-requires-clause-graph
dump_of-requires-clause-graph c =
    let trace = c.args.trace in
    let ran = c.in_ok-replies in
    noted_shown c.requires.0 trace.version trace.config trace.scripts trace.schedule c.args.steps ran.replies ran.plain ran.history.list c.requires.1 ran.ensures.finished ran.ensures.history c.in_ok-graph.graph
    (c.in_ok-graph.ensures.shows (opening_run trace.config (events_of trace.config trace.scripts trace.schedule c.args.steps)) ran.ensures.finished.shows)

pub returns-in-Ok-clause-ok : goal.returns-in-Ok-clause-ok
returns-in-Ok-clause-ok c = λ bytes reads.
    let trace = c.args.trace in
    let ran = c.in_ok-replies in
    let dump = c.in-Ok.dump in
    replayed_to_dump bytes trace.version trace.config trace.scripts trace.schedule c.args.steps ran.replies ran.plain ran.history.list reads ran.ensures.finished ran.ensures.history (dumped dump.config dump.counts dump.graph) c.in-Ok.ensures.dump c.in-Ok.ensures.counts
