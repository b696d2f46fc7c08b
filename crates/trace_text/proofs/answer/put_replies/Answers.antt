use Rattle.std.proofs.Common.{◌≡◌, ℕ, ◌+◌, ◌-◌, ap, ◌∙◌, arith}
use Rattle.std.specs.List.{flat_map}
use Rattle.shen_graph.specs.Work.{replies_of}
use Rattle.shen_base.proofs.Stages.{puts_same}
use Rattle.trace_text.specs.Answer.{reply_line}
use Rattle.trace_text.proofs.AnswerLemmas.{puts_next_number, puts_each_number}
use Rattle.trace_text.proofs.answer.put_replies.Goals as goal

pub loop-mutator-preserved : goal.loop-mutator-preserved
loop-mutator-preserved g c =
    let work = c.args.work.now in
    let mutator : ℕ = c.loop-mutator.mutator in
    let mutator_back : mutator ≡ mutator + 1 - 1 = omega arith in
    record {
      put =
          puts_next_number (λ thread. flat_map (reply_line thread) (replies_of work (thread - 1))) 1 mutator (mutator + 1)
          (omega arith) c.loop-mutator.invariant.put
          (puts_same (ap (flat_map (reply_line (mutator + 1))) (c.list.ensures ∙ c.replies.ensures.replies ∙ ap (replies_of work) mutator_back)) c.put_replies_of.ensures);
      few = omega arith;
    }

pub returns-clause-put : goal.returns-clause-put
returns-clause-put g c =
    puts_each_number (λ thread. flat_map (reply_line thread) (replies_of c.args.work.now (thread - 1))) 1 c.loop-mutator.mutator c.args.mutators
    (omega arith) c.loop-mutator.invariant.put
