use Rattle.std.proofs.Common.{◌++◌, take}
use Rattle.shen_base.specs.Sending.{Puts, stage}
use Rattle.trace_reading.specs.Spelling.{numbers}
use Rattle.trace_text.proofs.trace.put_word.Given as goal

abbrev pub invariant-loop-value : goal.invariant-loop-value
invariant-loop-value g loop = Puts (stage (g.K.Sink.written loop.fn.sink) (g.K.Sink.faults loop.fn.sink) (g.K.Sink.calls loop.fn.sink) loop.fn.block) (stage (g.K.Sink.written loop.sink) (g.K.Sink.faults loop.sink) (g.K.Sink.calls loop.sink) loop.block) (loop.word ++ numbers (take loop.value-index loop.values))
