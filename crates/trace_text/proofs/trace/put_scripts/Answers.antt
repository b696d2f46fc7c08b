use Rattle.std.proofs.Common.{ℕ, List, ◌+◌, ◌∙◌, ap, arith}
use Rattle.std.specs.List.{flat_map}
use Rattle.shen_graph.specs.declared.command.Command.{Command}
use Rattle.shen_base.proofs.Stages.{puts_both, puts_same}
use Rattle.trace_reading.specs.Spelling.{line}
use Rattle.trace_text.specs.Canonical.{lines_of}
use Rattle.trace_text.proofs.CanonicalLemmas.{script_more, all_scripts}
use Rattle.trace_text.proofs.trace.put_scripts.Goals as goal

pub loop-mutator-preserved : goal.loop-mutator-preserved
loop-mutator-preserved g c =
    let mutator : ℕ = c.loop-mutator.mutator in
    let script = c.index-scripts-mutator.result in
    let own_lines = ap (λ (script : List Command). flat_map line (lines_of (mutator + 1) script)) (c.list.ensures ∙ c.index-scripts-mutator.is) in
    puts_same (script_more c.args.scripts.now mutator script c.loop-mutator-test.true)
    (puts_both c.loop-mutator.invariant (puts_same own_lines c.put_script.ensures))

pub returns : goal.returns
returns g c = puts_same (all_scripts c.args.scripts.now c.loop-mutator.mutator (omega arith)) c.loop-mutator.invariant
