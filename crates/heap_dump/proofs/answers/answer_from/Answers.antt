use Rattle.std.proofs.Common.{List, All, length, sym, ap, subst, ◌∙◌}
use Rattle.shen_graph.specs.declared.command.Command.{Command}
use Rattle.heap_dump.specs.Dumped.{dumped}
use Rattle.heap_dump.specs.Resumed.{IsRunnableAfter}
use Rattle.heap_dump.proofs.Runnable.{count_read, runnable_read, items_read}
use Rattle.heap_dump.proofs.Outcomes.{answered_fits, unfinished_fits}
use Rattle.heap_dump.proofs.answers.answer_from.Goals as goal

pub resume-requires-clause-dump : goal.resume-requires-clause-dump
resume-requires-clause-dump c = c.requires.1.dump

pub resume-requires-clause-count : goal.resume-requires-clause-count
resume-requires-clause-count c =
    let read = c.args.read in
    ap (λ (any_scripts : List (List Command)). length any_scripts) c.into_vec.ensures ∙ count_read c.requires.0 (dumped read.dump.config read.dump.counts read.dump.graph) read.trace.scripts read.trace.schedule c.requires.1

pub resume-requires-clause-runnable : goal.resume-requires-clause-runnable
resume-requires-clause-runnable c =
    let read = c.args.read in
    subst (λ (any_scripts : List (List Command)). All IsRunnableAfter any_scripts) (sym c.into_vec.ensures) (runnable_read c.requires.0 (dumped read.dump.config read.dump.counts read.dump.graph) read.trace.scripts read.trace.schedule c.requires.1)

pub resume-requires-clause-items : goal.resume-requires-clause-items
resume-requires-clause-items c =
    let read = c.args.read in
    items_read c.requires.0 (dumped read.dump.config read.dump.counts read.dump.graph) read.trace.scripts read.trace.schedule c.requires.1

pub returns-clause-fits : goal.returns-clause-fits
returns-clause-fits c = answered_fits c.resume.result _ _ c.resume.ensures.too_small.1

pub returns-clause-unfinished_fits : goal.returns-clause-unfinished_fits
returns-clause-unfinished_fits c = unfinished_fits c.resume.result _ _ c.resume.ensures.too_small.1
