use Rattle.std.proofs.Common.{List, All, length, ap, sym, subst, ◌∙◌, arith}
use Rattle.heap_words.specs.declared.config.Config.{Config}
use Rattle.shen_graph.specs.declared.command.Command.{Command}
use Rattle.shen_graph.specs.Work.{opened}
use Rattle.shen_core.specs.Progress.{IsInSeats}
use Rattle.trace_runs.proofs.Scripts.{count_scripts, runnable_scripts, items_in_seats}
use Rattle.trace_runs.proofs.Ran.{can_run, finished, unfinished}
use Rattle.trace_runs.proofs.replays.run.Goals as goal

pub of-requires : goal.of-requires
of-requires c =
    let count = count_scripts c.requires.0 c.args.trace.version c.args.trace.config c.args.trace.scripts c.args.trace.schedule c.requires.1 in
    let same_length = ap (λ (scripts : List (List Command)). length scripts) c.into_vec.ensures in
    omega (arith, count, same_length)

pub run-requires-clause-run : goal.run-requires-clause-run
run-requires-clause-run c =
    let trace = c.args.trace in
    can_run c.in-Ok-open.plain trace.config trace.scripts c.in-Ok.work c.in-Ok-open.ensures.config c.in-Ok-open.ensures.opening c.in-Ok-open.ensures.orders (count_scripts c.requires.0 trace.version trace.config trace.scripts trace.schedule c.requires.1)
    (runnable_scripts c.requires.0 trace.version trace.config trace.scripts trace.schedule c.requires.1) (c.in-Ok.ensures ∙ ap opened c.into_vec.ensures)

pub run-requires-clause-items : goal.run-requires-clause-items
run-requires-clause-items c =
    let trace = c.args.trace in
    subst (λ (config : Config). All (IsInSeats config) trace.schedule) (sym c.in-Ok-open.ensures.config) (items_in_seats c.requires.0 trace.version trace.config trace.scripts trace.schedule c.requires.1)

pub returns-in-Finished-clause-finished : goal.returns-in-Finished-clause-finished
returns-in-Finished-clause-finished c =
    let trace = c.args.trace in
    finished c.in-Ok-open.plain c.run.new.self trace.config trace.scripts trace.schedule c.args.steps c.in-Ok.work c.run.new.work c.in-Ok-open.ensures.config c.in-Ok-open.ensures.opening (count_scripts c.requires.0 trace.version trace.config trace.scripts trace.schedule c.requires.1)
    (c.in-Ok.ensures ∙ ap opened c.into_vec.ensures) c.in-Finished.ensures.events c.in-Finished.ensures.config c.in-Finished.ensures.run

pub returns-clause-unfinished : goal.returns-clause-unfinished
returns-clause-unfinished c = λ h bytes reads.
    let trace = c.args.trace in
    unfinished c.in-Ok-open.plain c.run.new.self bytes trace.version trace.config trace.scripts trace.schedule c.args.steps c.in-Ok.work c.run.new.work c.in-Ok-open.ensures.config c.in-Ok-open.ensures.opening (count_scripts bytes trace.version trace.config trace.scripts trace.schedule reads)
    (c.in-Ok.ensures ∙ ap opened c.into_vec.ensures) c.in-Unfinished.ensures.events reads
