use Rattle.std.proofs.Common.{◌∷◌, take}
use Rattle.std.specs.List.{flat_map}
use Rattle.std.specs.Fmt.{decimal}
use Rattle.shen_graph.specs.GraphText.{row_of}
use Rattle.trace_reading.specs.Spelling.{space}
use Rattle.shen_base.specs.Sending.{Puts, stage}
use Rattle.trace_text.proofs.answer.put_numbers.Given as goal

abbrev pub invariant-loop-index : goal.invariant-loop-index
invariant-loop-index g loop = Puts (stage (g.K.Sink.written loop.initial.sink) (g.K.Sink.faults loop.initial.sink) (g.K.Sink.calls loop.initial.sink) loop.initial.block) (stage (g.K.Sink.written loop.sink) (g.K.Sink.faults loop.sink) (g.K.Sink.calls loop.sink) loop.block) (flat_map (λ number. space ∷ decimal number) (take loop.index (row_of loop.graph loop.row).nums))
