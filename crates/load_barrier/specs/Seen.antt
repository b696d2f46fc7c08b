-- What callers know of the two machines.
use Rattle.std.specs.Prelude.{ℕ}
use Rattle.heap_words.specs.declared.config.Config.{Config}
use Rattle.load_barrier.specs.declared.spot.ResolveSpot.{ResolveSpot}
use Rattle.load_barrier.specs.declared.resolve.Resolve.{Resolve}
use Rattle.load_barrier.specs.declared.evac_spot.EvacSpot.{EvacSpot}
use Rattle.load_barrier.specs.declared.evac_unit.EvacUnit.{EvacUnit}

-- who resolves which address, in which heap and phase
pub record Resolver : Type 0 where
  pub config : Config
  pub seat : ℕ
  pub address : ℕ
  pub phase : ℕ

abbrev pub resolver_of : Resolve → Resolver
resolver_of resolve = record { config = resolve.config; seat = resolve.seat; address = resolve.address; phase = resolve.phase }

-- where it stands
abbrev pub spot_of : Resolve → ResolveSpot
spot_of resolve = resolve.spot

-- who evacuates, in which heap, and which collection set
pub record Evacuator : Type 0 where
  pub config : Config
  pub seat : ℕ
  pub cset : ℕ

abbrev pub evacuator_of : EvacUnit → Evacuator
evacuator_of evac_unit = record { config = evac_unit.config; seat = evac_unit.seat; cset = evac_unit.cset }

-- where it stands
abbrev pub evac_spot_of : EvacUnit → EvacSpot
evac_spot_of evac_unit = evac_unit.spot
