use Rattle.std.proofs.Common.{take}
use Rattle.std.specs.List.{flat_map}
use Rattle.trace_text.specs.History.{entry_line}
use Rattle.shen_base.specs.Sending.{Puts, stage}
use Rattle.trace_text.proofs.history.put_entries.Given as goal

abbrev pub invariant-loop-at : goal.invariant-loop-at
invariant-loop-at g loop = Puts (stage (g.K.Sink.written loop.initial.sink) (g.K.Sink.faults loop.initial.sink) (g.K.Sink.calls loop.initial.sink) loop.initial.block) (stage (g.K.Sink.written loop.sink) (g.K.Sink.faults loop.sink) (g.K.Sink.calls loop.sink) loop.block) (flat_map entry_line (take loop.at loop.history.list))
