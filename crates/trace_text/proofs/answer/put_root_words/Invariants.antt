use Rattle.std.proofs.Common.{◌∷◌}
use Rattle.std.specs.List.{flat_map, range_with_len}
use Rattle.shen_graph.specs.GraphText.{root_of}
use Rattle.trace_reading.specs.Spelling.{space}
use Rattle.trace_text.specs.Answer.{reference_word}
use Rattle.shen_base.specs.Sending.{Puts, stage}
use Rattle.trace_text.proofs.answer.put_root_words.Given as goal

abbrev pub invariant-loop-index : goal.invariant-loop-index
invariant-loop-index g loop = Puts (stage (g.K.Sink.written loop.initial.sink) (g.K.Sink.faults loop.initial.sink) (g.K.Sink.calls loop.initial.sink) loop.initial.block) (stage (g.K.Sink.written loop.sink) (g.K.Sink.faults loop.sink) (g.K.Sink.calls loop.sink) loop.block) (flat_map (λ index. space ∷ reference_word (root_of loop.graph loop.thread index)) (range_with_len 0 loop.index))
