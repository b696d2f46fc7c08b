use Rattle.std.proofs.Common.{take}
use Rattle.std.specs.List.{flat_map}
use Rattle.trace_text.specs.Answer.{reply_line}
use Rattle.shen_base.specs.Sending.{Puts, stage}
use Rattle.trace_text.proofs.answer.put_replies_of.Given as goal

abbrev pub invariant-loop-reply : goal.invariant-loop-reply
invariant-loop-reply g loop = Puts (stage (g.K.Sink.written loop.initial.sink) (g.K.Sink.faults loop.initial.sink) (g.K.Sink.calls loop.initial.sink) loop.initial.block) (stage (g.K.Sink.written loop.sink) (g.K.Sink.faults loop.sink) (g.K.Sink.calls loop.sink) loop.block) (flat_map (reply_line loop.thread) (take loop.reply-index loop.replies))
