-- Where a copier in memory stands.
use Rattle.evac_room.specs.declared.copier.Copier.{Copier}
use Rattle.evac_room.specs.declared.copier.Copier.TheVariants as copier
use Rattle.evac_room.specs.declared.spot.RoomSpot.{RoomSpot}
use Rattle.evac_room.specs.declared.spot.RoomSpot.TheVariants.{Outside}
use Rattle.evac_room.specs.Seen.{spot_of_enter, spot_of_leave, spot_of_stop}

abbrev pub spot_of : Copier → RoomSpot
spot_of copier.Outside = Outside
spot_of (copier.Entering machine) = spot_of_enter machine
spot_of (copier.Leaving machine) = spot_of_leave machine
spot_of (copier.Stopping machine) = spot_of_stop machine
