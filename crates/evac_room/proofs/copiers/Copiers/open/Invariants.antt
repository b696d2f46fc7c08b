use Rattle.std.proofs.Common.{◌≡◌, map, length, replicate}
use Rattle.evac_room.specs.declared.spot.RoomSpot.TheVariants.{Outside}
use Rattle.evac_room.specs.Copier.{spot_of}
use Rattle.evac_room.proofs.copiers.Copiers.open.Given as goal

abbrev pub invariant-loop : goal.invariant-loop
invariant-loop loop = record {
  all : length loop.copiers.items ≡ loop.counter;
  are : map spot_of loop.copiers.items ≡ replicate loop.counter Outside;
}
