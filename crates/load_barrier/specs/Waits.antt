-- Where a step of a machine that resolves an address says that it waits, or that another was faster, by the word that it finds.
use Rattle.std.specs.Prelude.{ℕ, ◌≡◌, ◌≢◌, true}
use Rattle.heap_words.specs.Counter.{is_out_of_room, count_of}
use Rattle.evac_room.specs.declared.spot.RoomSpot.{RoomSpot}
use Rattle.evac_room.specs.declared.spot.RoomSpot.TheVariants.{Look, Raise, Mark, Wait}
use Rattle.alloc_buffers.specs.Waits as takes
use Rattle.load_barrier.specs.declared.spot.ResolveSpot.{ResolveSpot}
use Rattle.load_barrier.specs.declared.spot.ResolveSpot.TheVariants.{Entering, Taking, Stopping}

-- At XL there was no room, and somebody still copies; at XC and OX another copier was faster; and at XW somebody still copies.
abbrev pub RoomWaits : RoomSpot → ℕ → Type 0
RoomWaits Look got = (is_out_of_room got ≡ true) × (count_of got ≢ 0)
RoomWaits (Raise found) got = got ≢ found
RoomWaits (Mark found) got = got ≢ found
RoomWaits Wait got = count_of got ≢ 0
RoomWaits _ got = ⊥

-- It waits at those places, and at TG where another machine has taken the region. At each other place it never waits.
abbrev pub WaitsAt : ResolveSpot → ℕ → Type 0
WaitsAt (Entering spot) got = RoomWaits spot got
WaitsAt (Taking words spot) got = takes.WaitsAt spot got
WaitsAt (Stopping spot) got = RoomWaits spot got
WaitsAt _ got = ⊥
