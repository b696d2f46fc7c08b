-- What is gone from the rest was appended, and took at most one call for each byte.
use Rattle.std.proofs.Common.{◌≡◌, ◌≤◌, ℕ, List, ◌++◌, length}
use Rattle.std.specs.Io.KnownBytes.{Appends}
use Rattle.shen_base.specs.Count.{CalledAtMost}
use Rattle.shen_base.proofs.send.write_all.Given as goal

abbrev pub invariant-loop-rest : goal.invariant-loop-rest
invariant-loop-rest g loop = record {
  done : (done : List ℕ) × Appends (g.K.Sink.written loop.initial.sink) (g.K.Sink.written loop.sink) done × (done ++ loop.rest ≡ loop.text) × CalledAtMost (length done) (g.K.Sink.calls loop.initial.sink) (g.K.Sink.calls loop.sink);
  never_fell : g.K.Sink.faults loop.initial.sink ≤ g.K.Sink.faults loop.sink;
}

abbrev pub decreases-loop-rest : goal.decreases-loop-rest
decreases-loop-rest g loop = length loop.rest
