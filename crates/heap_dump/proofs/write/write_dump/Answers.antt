use Rattle.std.proofs.Common.{ap}
use Rattle.std.specs.Prelude.{codes}
use Rattle.std.specs.List.{flat_map}
use Rattle.shen_base.proofs.Stages.{puts_both, puts_same, taken_by_new}
use Rattle.trace_reading.specs.Spelling.{titled}
use Rattle.trace_text.specs.Answer.{thread_numbers}
use Rattle.heap_dump.specs.DumpText.{roots_line_in}
use Rattle.heap_dump.proofs.write.write_dump.Goals as goal

pub returns : goal.returns
returns g c =
    let dump = c.args.dump.now in
    let counts = puts_same (ap (titled (codes "counts")) c.list.ensures) c.put_counts.ensures in
    let roots = puts_same (ap (λ thread_count. flat_map (roots_line_in dump.graph.roots) (thread_numbers thread_count)) c.requires.form.each) c.put_roots.ensures in
    c.finish.ensures.ended _ _ (taken_by_new c.new-block.ensures (puts_both c.put_head.ensures (puts_both counts (puts_both c.put_objects.ensures roots))))
