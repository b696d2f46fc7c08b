use Rattle.std.proofs.Common.{◌+◌, ◌-◌, ◌<◌, ◌≤◌, vec_len}
use Rattle.std.specs.Io.KnownBytes.{Consumes}
use Rattle.shen_base.specs.Count.{CalledAtMost}
use Rattle.trace_reading.specs.Grammar.{most_bytes}
use Rattle.trace_reading.proofs.source_bytes.all_bytes.Given as goal

abbrev pub invariant-pieces : goal.invariant-pieces
invariant-pieces g loop = record {
  block : 0 < vec_len loop.block;
  taken : Consumes (g.S.Source.left loop.fn.source) (g.S.Source.left loop.source) loop.bytes.items;
  few : vec_len loop.bytes ≤ most_bytes + 1;
  calls : CalledAtMost (vec_len loop.bytes) (g.S.Source.calls loop.fn.source) (g.S.Source.calls loop.source);
  faults : g.S.Source.faults loop.fn.source ≤ g.S.Source.faults loop.source;
}

abbrev pub decreases-pieces : goal.decreases-pieces
decreases-pieces g loop = most_bytes + 1 - vec_len loop.bytes
