use Rattle.std.proofs.Common.{List, All, length, ap, sym, subst, ◌∙◌, arith}
use Rattle.heap_words.specs.declared.config.Config.{Config}
use Rattle.shen_graph.specs.declared.command.Command.{Command}
use Rattle.shen_graph.specs.Work.{opened}
use Rattle.shen_core.specs.Progress.{IsInSeats}
use Rattle.trace_runs.proofs.Scripts.{count_scripts, runnable_scripts, items_in_seats}
use Rattle.trace_runs.proofs.Ran.{can_run, finished, unfinished, commands_first, noted_history}
use Rattle.trace_runs.proofs.replays.run_noted.Goals as goal

pub of-requires : goal.of-requires
of-requires c =
    let count = count_scripts c.requires.0 c.args.trace.version c.args.trace.config c.args.trace.scripts c.args.trace.schedule c.requires.1 in
    let same_length = ap (λ (scripts : List (List Command)). length scripts) c.into_vec.ensures in
    omega (arith, count, same_length)

pub run_noted-requires-clause-run : goal.run_noted-requires-clause-run
run_noted-requires-clause-run c =
    let trace = c.args.trace in
    can_run c.in-Ok-open.plain trace.config trace.scripts c.in-Ok-of.work c.in-Ok-open.ensures.config c.in-Ok-open.ensures.opening c.in-Ok-open.ensures.orders (count_scripts c.requires.0 trace.version trace.config trace.scripts trace.schedule c.requires.1)
    (runnable_scripts c.requires.0 trace.version trace.config trace.scripts trace.schedule c.requires.1) (c.in-Ok-of.ensures ∙ ap opened c.into_vec.ensures)

pub run_noted-requires-clause-items : goal.run_noted-requires-clause-items
run_noted-requires-clause-items c =
    let trace = c.args.trace in
    subst (λ (config : Config). All (IsInSeats config) trace.schedule) (sym c.in-Ok-open.ensures.config) (items_in_seats c.requires.0 trace.version trace.config trace.scripts trace.schedule c.requires.1)

pub returns-in-Finished-clause-finished : goal.returns-in-Finished-clause-finished
returns-in-Finished-clause-finished c =
    let trace = c.args.trace in
    finished c.in-Ok-open.plain c.run_noted.new.self trace.config trace.scripts trace.schedule c.args.steps c.in-Ok-of.work c.run_noted.new.work c.in-Ok-open.ensures.config c.in-Ok-open.ensures.opening (count_scripts c.requires.0 trace.version trace.config trace.scripts trace.schedule c.requires.1)
    (c.in-Ok-of.ensures ∙ ap opened c.into_vec.ensures) c.in-Finished.ensures.events c.in-Finished.ensures.config c.in-Finished.ensures.run

pub returns-clause-unfinished : goal.returns-clause-unfinished
returns-clause-unfinished c = λ h bytes reads.
    let trace = c.args.trace in
    unfinished c.in-Ok-open.plain c.run_noted.new.self bytes trace.version trace.config trace.scripts trace.schedule c.args.steps c.in-Ok-of.work c.run_noted.new.work c.in-Ok-open.ensures.config c.in-Ok-open.ensures.opening (count_scripts bytes trace.version trace.config trace.scripts trace.schedule reads)
    (c.in-Ok-of.ensures ∙ ap opened c.into_vec.ensures) c.in-Unfinished.ensures.events reads

pub run_noted-requires-clause-spare : goal.run_noted-requires-clause-spare
run_noted-requires-clause-spare c =
    let trace = c.args.trace in
    let total = commands_first trace.config _ trace.scripts c.in-Ok-of.work c.in-Ok-open.ensures.config (count_scripts c.requires.0 trace.version trace.config trace.scripts trace.schedule c.requires.1) (c.in-Ok-of.ensures ∙ ap opened c.into_vec.ensures) in
    let spare = c.in-Ok.ensures.spare in
    omega (arith, total, spare)

pub returns-in-Finished-clause-history : goal.returns-in-Finished-clause-history
returns-in-Finished-clause-history c =
    let trace = c.args.trace in
    noted_history c.in-Ok-open.plain trace.config trace.scripts trace.schedule c.args.steps c.in-Ok-of.work c.in-Ok.history c.run_noted.new.history c.in-Ok-open.ensures.config c.in-Ok-open.ensures.opening (count_scripts c.requires.0 trace.version trace.config trace.scripts trace.schedule c.requires.1)
    (c.in-Ok-of.ensures ∙ ap opened c.into_vec.ensures) c.in-Ok.ensures.none c.in-Finished.ensures.history
