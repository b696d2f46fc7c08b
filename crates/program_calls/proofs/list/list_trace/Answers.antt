use Rattle.std.proofs.Common.{List, All, length, ap, sym, subst, ◌∙◌, arith}
use Rattle.heap_words.specs.declared.config.Config.{Config}
use Rattle.shen_graph.specs.declared.command.Command.{Command}
use Rattle.shen_graph.specs.Work.{opened}
use Rattle.shen_core.specs.Progress.{IsInSeats}
use Rattle.shen_core.specs.WholeRun.{RunsSchedule}
use Rattle.trace_runs.proofs.Scripts.{count_scripts, runnable_scripts, items_in_seats}
use Rattle.trace_runs.proofs.Ran.{can_run, finished}
use Rattle.trace_runs.proofs.Whole.{all_rest}
use Rattle.program_calls.proofs.list.list_trace.Goals as goal

pub of-requires : goal.of-requires
of-requires g c =
    let count = count_scripts c.requires.0 c.args.trace.version c.args.trace.config c.args.trace.scripts c.args.trace.schedule c.requires.1 in
    let same_length = ap (λ (scripts : List (List Command)). length scripts) c.into_vec.ensures in
    omega (arith, count, same_length)

pub list-listed-requires-clause-run : goal.list-listed-requires-clause-run
list-listed-requires-clause-run g c =
    let trace = c.args.trace in
    can_run c.in-Ok-open.plain trace.config trace.scripts c.in-Ok.work c.in-Ok-open.ensures.config c.in-Ok-open.ensures.opening c.in-Ok-open.ensures.orders (count_scripts c.requires.0 trace.version trace.config trace.scripts trace.schedule c.requires.1)
    (runnable_scripts c.requires.0 trace.version trace.config trace.scripts trace.schedule c.requires.1) (c.in-Ok.ensures ∙ ap opened c.into_vec.ensures)

pub list-listed-requires-clause-items : goal.list-listed-requires-clause-items
list-listed-requires-clause-items g c =
    let trace = c.args.trace in
    subst (λ (config : Config). All (IsInSeats config) trace.schedule) (sym c.in-Ok-open.ensures.config) (items_in_seats c.requires.0 trace.version trace.config trace.scripts trace.schedule c.requires.1)

pub list_graph-requires : goal.list_graph-requires
list_graph-requires g c =
    let trace = c.args.trace in
    let steps = c.limit_of-steps.result in
    let runs = subst (λ ran. RunsSchedule c.in-Ok-open.plain c.in-Ok.work trace.schedule steps c.list-listed.new.plain c.list-listed.new.work ran) c.in-Finished.is c.list-listed.ensures.events in
    all_rest trace.config trace.scripts trace.schedule steps c.list-listed.new.work c.list-listed.new.plain
    (finished c.in-Ok-open.plain c.list-listed.new.plain trace.config trace.scripts trace.schedule steps c.in-Ok.work c.list-listed.new.work c.in-Ok-open.ensures.config c.in-Ok-open.ensures.opening
    (count_scripts c.requires.0 trace.version trace.config trace.scripts trace.schedule c.requires.1) (c.in-Ok.ensures ∙ ap opened c.into_vec.ensures) runs c.list-listed.ensures.config c.list-listed.ensures.run)
