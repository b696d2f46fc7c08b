use Rattle.std.proofs.Common.{◌≡◌, replicate, None}
use Rattle.shared_table.proofs.hands.places.Given as goal

abbrev pub invariant-loop : goal.invariant-loop
invariant-loop g loop = loop.places.items ≡ replicate loop.counter None
