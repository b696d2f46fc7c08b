use Rattle.std.proofs.Common.{List, ap}
use Rattle.std.specs.List.{flat_map}
use Rattle.shen_graph.specs.declared.command.Command.{Command}
use Rattle.heap_words.specs.declared.schedule.Item.{Item}
use Rattle.shen_base.proofs.Stages.{puts_both, puts_same, taken_by_new}
use Rattle.trace_reading.specs.Spelling.{line, schedule_line}
use Rattle.trace_text.specs.Canonical.{lines_from, turns_of}
use Rattle.trace_text.proofs.CanonicalLemmas.{reads_again}
use Rattle.trace_text.proofs.trace.write_trace.Goals as goal

pub returns-clause-written : goal.returns-clause-written
returns-clause-written g c =
    let scripts = puts_same (ap (λ (some_scripts : List (List Command)). flat_map line (lines_from 1 some_scripts)) c.list.ensures) c.put_scripts.ensures in
    let schedule = puts_same (ap (λ (items : List Item). flat_map schedule_line (turns_of items)) c.list-2.ensures) c.put_schedule.ensures in
    c.finish.ensures.ended _ _ (taken_by_new c.new-block.ensures (puts_both c.put_header.ensures (puts_both scripts schedule)))

pub returns-clause-reads : goal.returns-clause-reads
returns-clause-reads g c = reads_again c.args.trace.now.version c.args.trace.now.config c.args.trace.now.scripts c.args.trace.now.schedule c.requires
