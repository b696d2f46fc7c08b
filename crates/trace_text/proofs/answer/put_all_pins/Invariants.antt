use Rattle.std.specs.List.{flat_map}
use Rattle.shen_graph.specs.GraphText.{pin_of}
use Rattle.trace_text.specs.Answer.{pins_line, thread_numbers}
use Rattle.shen_base.specs.Sending.{Puts, stage}
use Rattle.trace_text.proofs.answer.put_all_pins.Given as goal

abbrev pub invariant-loop-mutator : goal.invariant-loop-mutator
invariant-loop-mutator g loop = Puts (stage (g.K.Sink.written loop.initial.sink) (g.K.Sink.faults loop.initial.sink) (g.K.Sink.calls loop.initial.sink) loop.initial.block) (stage (g.K.Sink.written loop.sink) (g.K.Sink.faults loop.sink) (g.K.Sink.calls loop.sink) loop.block) (flat_map (λ thread. pins_line thread (pin_of loop.graph thread)) (thread_numbers loop.mutator))
