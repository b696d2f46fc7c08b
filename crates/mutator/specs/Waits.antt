-- Where a step says that the mutator waits for another machine, or has to look again.
use Rattle.std.specs.Prelude.{ℕ, ◌≡◌, ◌≢◌}
use Rattle.handshake.specs.declared.enter_spot.EnterSpot.TheVariants.{Await}
use Rattle.alloc_buffers.specs.Waits as takes
use Rattle.load_barrier.specs.Waits as resolves
use Rattle.mutator.specs.declared.spot.Spot.{Spot}
use Rattle.mutator.specs.declared.spot.Spot.TheVariants.{Entering, OnField, Resolving, Making, Waiting}
use Rattle.mutator.specs.declared.fields.FieldSpot.TheVariants.{Exchange}
use Rattle.mutator.specs.declared.makes.MakeSpot.TheVariants.{Taking}
use Rattle.mutator.specs.declared.waits.WaitSpot.TheVariants.{Poll}

-- At E4 a pause is wanted, at WP there is no answer yet, and at CX it finds another word than it expects. Besides it waits
-- where its resolving and its taking of room do: that is at TG, where the region that it wants is not free any more. At each
-- other place it never waits.
abbrev pub WaitsAt : Spot → ℕ → Type 0
WaitsAt (Entering Await next) got = got ≢ 0
WaitsAt (OnField object (Exchange found expect value)) got = got ≢ found
WaitsAt (Resolving address spot next) got = resolves.WaitsAt spot got
WaitsAt (Making (Taking take)) got = takes.WaitsAt take got
WaitsAt (Waiting Poll) got = got ≡ 0
WaitsAt _ got = ⊥
