-- What units of updating that are done come to: the fields of their objects are current.
use Rattle.heap_words.specs.Phases.{updating_phase}
use Rattle.std.proofs.Common.{◌≡◌, ◌≢◌, ℕ}
use Rattle.heap_words.specs.declared.config.Config.{Config}
use Rattle.heap_words.specs.Words.{Phase, Cset, Claim, Top, Limit, Heap}
use Rattle.heap_world.specs.World.{World, IsCollected, IsCurrent, Shared}
use Rattle.heap_world.proofs.Units as units
use Rattle.cycle_steps.specs.Updating.Laws.{UnitsAreUpdated, AllIsUpdated}

-- a word that is current names nothing in the set
current_outside : (config : Config) (world : World) (address : ℕ) → Shared config world → world.memory Phase ≡ updating_phase → IsCurrent world.block address → address ≢ 0 → IsCollected config (world.memory Cset) address → ⊥
current_outside config world address shared is_updating (IsCurrent.null null) some_address address_inside = some_address null
current_outside config world address shared is_updating (IsCurrent.names refs nums name named_there) some_address address_inside = (shared.updated is_updating).outside address refs nums name named_there address_inside

-- no field in a unit that is done names the set
pub units_are_updated : UnitsAreUpdated
units_are_updated = record {
  done = λ some_config some_world place refs nums field name shared is_updating claimed nobody object_there field_below.
      units.unit_is_current some_config (some_world.memory Cset) (some_world.memory Claim) (λ region. some_world.memory (Top region)) (λ region. some_world.memory (Limit region)) (λ address. some_world.memory (Heap address)) some_world.block some_world.ghost.scanning (shared.updated is_updating) place refs nums field name claimed nobody object_there field_below;
  above = λ some_config some_world place refs nums field name shared is_updating young object_there field_below.
      units.above_is_current some_config (some_world.memory Cset) (some_world.memory Claim) (λ region. some_world.memory (Top region)) (λ region. some_world.memory (Limit region)) (λ address. some_world.memory (Heap address)) some_world.block some_world.ghost.scanning (shared.updated is_updating) place refs nums field name young object_there field_below;
  outside = λ config world address shared is_updating current some_address inside. current_outside config world address shared is_updating current some_address inside;
}

-- where all is claimed and nobody stands in a unit, no field does
pub all_is_updated : AllIsUpdated
all_is_updated config world shared is_updating idle all_claimed address refs nums field name object_there field_below = units.all_is_current config world shared is_updating idle all_claimed address refs nums field name object_there field_below
