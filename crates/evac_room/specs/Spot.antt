-- Where a copier stands between two accesses.
use Rattle.std.specs.Prelude.{◌^◌, Bool, true, false, nat_lt}
use Rattle.evac_room.specs.declared.spot.RoomSpot.{RoomSpot}
use Rattle.evac_room.specs.declared.spot.RoomSpot.TheVariants.{Outside, Look, Raise, Inside, Lower, Ask, Mark, Wait, Stopped}

-- whether its call has ended
abbrev pub is_ended : RoomSpot → Bool
is_ended Outside = true
is_ended Inside = true
is_ended Stopped = true
is_ended _ = false

-- whether the counter counts it
abbrev pub is_counted : RoomSpot → Bool
is_counted Inside = true
is_counted Lower = true
is_counted Ask = true
is_counted (Mark found) = true
is_counted _ = false

-- whether it raises a word only if bit 63 of the word is clear
abbrev pub raises_clear : RoomSpot → Bool
raises_clear (Raise found) = nat_lt found (2 ^ 63)
raises_clear _ = true

-- whether it is on its way in, or has just been answered: it may copy, or there was no room
abbrev pub is_entering : RoomSpot → Bool
is_entering Look = true
is_entering (Raise found) = true
is_entering Inside = true
is_entering Stopped = true
is_entering _ = false

-- whether it is on its way out, or has left
abbrev pub is_leaving : RoomSpot → Bool
is_leaving Lower = true
is_leaving Outside = true
is_leaving _ = false

-- whether it has found no room: it marks the counter, waits, or has waited
abbrev pub is_stopping : RoomSpot → Bool
is_stopping Ask = true
is_stopping (Mark found) = true
is_stopping Wait = true
is_stopping Stopped = true
is_stopping _ = false
