use Rattle.std.proofs.Common.{take}
use Rattle.std.specs.List.{flat_map}
use Rattle.shen_base.specs.Sending.{Puts, stage}
use Rattle.trace_reading.specs.Spelling.{line}
use Rattle.trace_text.specs.Canonical.{lines_from}
use Rattle.trace_text.proofs.trace.put_scripts.Given as goal

abbrev pub invariant-loop-mutator : goal.invariant-loop-mutator
invariant-loop-mutator g loop = Puts (stage (g.K.Sink.written loop.initial.sink) (g.K.Sink.faults loop.initial.sink) (g.K.Sink.calls loop.initial.sink) loop.initial.block) (stage (g.K.Sink.written loop.sink) (g.K.Sink.faults loop.sink) (g.K.Sink.calls loop.sink) loop.block) (flat_map line (lines_from 1 (take loop.mutator loop.scripts)))
