use Rattle.std.proofs.Common.{◌-◌, length}
use Rattle.std.specs.List.{flat_map}
use Rattle.shen_graph.specs.Work.{replies_of}
use Rattle.shen_base.proofs.Stages.{puts_both, taken_by_new}
use Rattle.trace_text.specs.Answer.{reply_line}
use Rattle.trace_text.proofs.AnswerLemmas.{puts_each_number}
use Rattle.trace_text.proofs.answer.write_answer.Goals as goal

pub returns : goal.returns
returns g c =
    let answer = c.args.answer.now in
    let replies = puts_each_number (λ thread. flat_map (reply_line thread) (replies_of answer.replies (thread - 1))) 1 c.mutators.result (length answer.graph.roots) c.mutators.ensures.threads c.put_replies.ensures.put in
    c.finish.ensures.ended _ _ (taken_by_new c.new-block.ensures (puts_both replies (puts_both c.put.ensures.put (puts_both c.put_objects.ensures (puts_both c.put_roots.ensures c.put_pins.ensures)))))
