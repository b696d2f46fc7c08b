use Rattle.std.proofs.Common.{take}
use Rattle.std.specs.List.{flat_map}
use Rattle.shen_base.specs.Sending.{Puts, stage}
use Rattle.trace_reading.specs.Spelling.{line}
use Rattle.trace_text.specs.Canonical.{lines_of}
use Rattle.trace_text.proofs.trace.put_script.Given as goal

abbrev pub invariant-loop-command : goal.invariant-loop-command
invariant-loop-command g loop = Puts (stage (g.K.Sink.written loop.initial.sink) (g.K.Sink.faults loop.initial.sink) (g.K.Sink.calls loop.initial.sink) loop.initial.block) (stage (g.K.Sink.written loop.sink) (g.K.Sink.faults loop.sink) (g.K.Sink.calls loop.sink) loop.block) (flat_map line (lines_of loop.thread (take loop.command-index loop.script)))
