use Rattle.std.proofs.Common.{List, ap, arith}
use Rattle.std.specs.List.{flat_map}
use Rattle.std.proofs.lemmas.List.{take_all}
use Rattle.shen_graph.specs.declared.command.Command.{Command}
use Rattle.shen_base.proofs.Stages.{puts_both, puts_same}
use Rattle.trace_reading.specs.Spelling.{line}
use Rattle.trace_text.specs.Canonical.{lines_of}
use Rattle.trace_text.proofs.CanonicalLemmas.{line_more}
use Rattle.trace_text.proofs.trace.put_script.Goals as goal

pub loop-command-preserved : goal.loop-command-preserved
loop-command-preserved g c =
    puts_same (line_more c.args.thread c.args.script.now c.loop-command.command-index _ (omega arith)) (puts_both c.loop-command.invariant c.put_line.ensures)

pub returns : goal.returns
returns g c =
    puts_same (ap (λ (script : List Command). flat_map line (lines_of c.args.thread script)) (take_all c.loop-command.command-index c.args.script.now c.loop-command-test.false))
    c.loop-command.invariant
