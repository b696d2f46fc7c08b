use Rattle.std.proofs.Common.{◌≡◌, ◌++◌, length}
use Rattle.std.specs.List.{flat_map, AllByRecursion}
use Rattle.trace_text.specs.History.{entry_line}
use Rattle.trace_text.specs.Entries.{IsClaim}
use Rattle.trace_text.proofs.entries.entries_in.Given as goal

abbrev pub invariant-entries : goal.invariant-entries
invariant-entries loop = record {
  in_range : AllByRecursion (IsClaim loop.version loop.threads) loop.history.list;
  spelled : loop.bytes ≡ flat_map entry_line loop.history.list ++ loop.rest;
}

abbrev pub decreases-entries : goal.decreases-entries
decreases-entries loop = length loop.rest
