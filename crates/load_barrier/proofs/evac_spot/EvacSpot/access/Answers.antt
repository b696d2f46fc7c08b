use Rattle.std.proofs.lemmas.Bool.{and_parts}
use Rattle.load_barrier.proofs.evac_spot.EvacSpot.access.Goals as goal

pub access-requires-clause-ready : goal.access-requires-clause-ready
access-requires-clause-ready c = let ready_parts = and_parts _ _ (rw c.in-Resolving.is at c.requires.ready) in (and_parts _ _ (and_parts _ _ ready_parts.1).1).0
