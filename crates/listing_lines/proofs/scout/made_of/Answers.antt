use Rattle.std.proofs.Common.{List, All, length, ap, sym, subst, ◌∙◌, arith}
use Rattle.heap_words.specs.declared.config.Config.{Config}
use Rattle.shen_graph.specs.declared.command.Command.{Command}
use Rattle.shen_graph.specs.Work.{opened}
use Rattle.shen_core.specs.State.{config_of}
use Rattle.shen_core.specs.Progress.{IsInSeats}
use Rattle.trace_runs.proofs.Scripts.{count_scripts, runnable_scripts, items_in_seats}
use Rattle.trace_runs.proofs.Ran.{can_run}
use Rattle.listing_lines.proofs.scout.made_of.Goals as goal

pub open-requires : goal.open-requires
open-requires c =
    let trace = c.args.trace.now in
    let count = count_scripts c.requires.0 trace.version trace.config trace.scripts trace.schedule c.requires.1 in
    let same_length = ap (λ (scripts : List (List Command)). length scripts) c.list.ensures in
    omega (arith, count, same_length)

pub made_before-requires-clause-run : goal.made_before-requires-clause-run
made_before-requires-clause-run c =
    let trace = c.args.trace.now in
    can_run c.in-Ok-open.plain trace.config trace.scripts c.in-Ok.work c.in-Ok-open.ensures.config c.in-Ok-open.ensures.opening c.in-Ok-open.ensures.orders (count_scripts c.requires.0 trace.version trace.config trace.scripts trace.schedule c.requires.1)
    (runnable_scripts c.requires.0 trace.version trace.config trace.scripts trace.schedule c.requires.1) (c.in-Ok.ensures ∙ ap opened c.list.ensures)

pub made_before-requires-clause-walk : goal.made_before-requires-clause-walk
made_before-requires-clause-walk c =
    let trace = c.args.trace.now in
    let items = subst (All (IsInSeats trace.config)) (sym c.in_ok-schedule.ensures) (items_in_seats c.requires.0 trace.version trace.config trace.scripts trace.schedule c.requires.1) in
    c.open-walk.ensures.fits (config_of c.in-Ok-open.plain) (subst (λ (config : Config). All (IsInSeats config) c.in_ok-schedule.schedule) (sym c.in-Ok-open.ensures.config) items)
