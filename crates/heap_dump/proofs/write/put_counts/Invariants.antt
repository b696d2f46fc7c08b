use Rattle.std.proofs.Common.{◌++◌, codes, take}
use Rattle.shen_base.specs.Sending.{Puts, stage}
use Rattle.trace_reading.specs.Spelling.{numbers}
use Rattle.heap_dump.proofs.write.put_counts.Given as goal

abbrev pub invariant-loop-count : goal.invariant-loop-count
invariant-loop-count g loop = Puts (stage (g.K.Sink.written loop.fn.sink) (g.K.Sink.faults loop.fn.sink) (g.K.Sink.calls loop.fn.sink) loop.fn.block) (stage (g.K.Sink.written loop.sink) (g.K.Sink.faults loop.sink) (g.K.Sink.calls loop.sink) loop.block) (codes "counts" ++ numbers (take loop.count-index loop.counts))
