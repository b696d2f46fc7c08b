use Rattle.std.proofs.Common.{◌-◌, ◌≤◌}
use Rattle.std.specs.List.{flat_map}
use Rattle.shen_graph.specs.Work.{replies_of}
use Rattle.trace_text.specs.Answer.{reply_line, thread_numbers}
use Rattle.shen_base.specs.Sending.{Puts, stage}
use Rattle.trace_text.proofs.answer.put_replies.Given as goal

abbrev pub invariant-loop-mutator : goal.invariant-loop-mutator
invariant-loop-mutator g loop = record {
  put : Puts (stage (g.K.Sink.written loop.initial.sink) (g.K.Sink.faults loop.initial.sink) (g.K.Sink.calls loop.initial.sink) loop.initial.block) (stage (g.K.Sink.written loop.sink) (g.K.Sink.faults loop.sink) (g.K.Sink.calls loop.sink) loop.block) (flat_map (λ thread. flat_map (reply_line thread) (replies_of loop.work (thread - 1))) (thread_numbers loop.mutator));
  few : loop.mutator ≤ 8;
}
