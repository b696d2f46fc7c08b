-- What is gone from the rest was put, and after a fault nothing happens.
use Rattle.std.proofs.Common.{◌≡◌, ℕ, true, List, ◌++◌, length}
use Rattle.shen_base.specs.Sending.{Puts, stage}
use Rattle.shen_base.proofs.block.Block.put.Given as goal

abbrev pub invariant-loop-rest : goal.invariant-loop-rest
invariant-loop-rest g loop = record {
  done : (done : List ℕ) × Puts (stage (g.K.Sink.written loop.initial.sink) (g.K.Sink.faults loop.initial.sink) (g.K.Sink.calls loop.initial.sink) loop.initial.self) (stage (g.K.Sink.written loop.sink) (g.K.Sink.faults loop.sink) (g.K.Sink.calls loop.sink) loop.self) done × (done ++ loop.rest ≡ loop.piece);
  stopped : loop.initial.self.failed ≡ true → (loop.self ≡ loop.initial.self) × (loop.sink ≡ loop.initial.sink);
}

abbrev pub decreases-loop-rest : goal.decreases-loop-rest
decreases-loop-rest g loop = length loop.rest
