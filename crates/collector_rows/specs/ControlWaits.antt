-- Where a step of the control says that it waits, by the word that it finds.
use Rattle.std.specs.Prelude.{ℕ, ◌≡◌, ◌≢◌, ◌*◌, ◌≤◌, ◌⊎◌}
use Rattle.heap_words.specs.declared.config.Config.{Config}
use Rattle.regions.specs.Sets.{members_below}
use Rattle.handshake.specs.declared.stop_spot.StopSpot.TheVariants.{Check}
use Rattle.unit_part.specs.Ends as units
use Rattle.collector_rows.specs.declared.control_spot.ControlSpot.{ControlSpot}
use Rattle.collector_rows.specs.declared.control_spot.ControlSpot.TheVariants.{LookFree, Working, Stopping}
use Rattle.collector_rows.specs.ControlRows.{Controlling}

-- At I2 at least half of the regions are free, or the free word is the one seen; in a unit it waits as the work on the unit does; at P2
-- the seat is not out. At each other place it never waits.
abbrev pub waits_at : Config → ℕ → ControlSpot → ℕ → Type 0
waits_at config seen LookFree got = (config.regions ≤ 2 * members_below got 64) ⊎ (got ≡ seen)
waits_at config seen (Working spot) got = units.WaitsAt spot got
waits_at config seen (Stopping (Check seat)) got = got ≢ 0
waits_at config seen _ got = ⊥

abbrev pub WaitsAt : Config → Controlling → ℕ → Type 0
WaitsAt config control got = waits_at config control.seen control.spot got
