-- What callers know of the three machines: where the copier stands, and in which heap.
use Rattle.std.specs.Prelude.{Option, Some, None}
use Rattle.heap_words.specs.declared.config.Config.{Config}
use Rattle.evac_room.specs.declared.room.Room.{Room}
use Rattle.evac_room.specs.declared.room.Room.TheVariants as room
use Rattle.evac_room.specs.declared.enter.EnterEvac.{EnterEvac}
use Rattle.evac_room.specs.declared.leave.LeaveEvac.{LeaveEvac}
use Rattle.evac_room.specs.declared.out_of_room.OutOfRoom.{OutOfRoom}
use Rattle.evac_room.specs.declared.spot.RoomSpot.{RoomSpot}
use Rattle.evac_room.specs.declared.spot.RoomSpot.TheVariants.{Inside, Stopped}

abbrev pub spot_of_enter : EnterEvac → RoomSpot
spot_of_enter machine = machine.spot

abbrev pub spot_of_leave : LeaveEvac → RoomSpot
spot_of_leave machine = machine.spot

abbrev pub spot_of_stop : OutOfRoom → RoomSpot
spot_of_stop machine = machine.spot

abbrev pub config_of_enter : EnterEvac → Config
config_of_enter machine = machine.config

abbrev pub config_of_leave : LeaveEvac → Config
config_of_leave machine = machine.config

abbrev pub config_of_stop : OutOfRoom → Config
config_of_stop machine = machine.config

-- what a copier that has ended its call may do: copy, or not
abbrev pub room_at : RoomSpot → Option Room
room_at Inside = Some room.Inside
room_at Stopped = Some room.Stopped
room_at _ = None
