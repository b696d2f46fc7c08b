use Rattle.std.proofs.Common.{◌≡◌, ◌≤◌, take}
use Rattle.heap_dump.specs.Listing.{separators}
use Rattle.heap_dump.proofs.read.separators.Given as goal

abbrev pub invariant-loop-byte : goal.invariant-loop-byte
invariant-loop-byte loop = record { count : loop.count ≡ separators (take loop.byte-index loop.bytes); few : loop.count ≤ loop.byte-index }
