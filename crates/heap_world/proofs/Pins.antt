-- Pin words stand for what their slots hold where objects that may be used still may.
use Rattle.std.proofs.Common.{ℕ, ◌+◌, Option, Some, None}
use Rattle.heap_words.specs.declared.config.Config.{Config}
use Rattle.shen_graph.specs.declared.name.Name.{Name}
use Rattle.shen_graph.specs.declared.pin.Pinned.{Pinned}
use Rattle.heap_world.specs.World.{Plot, Target, PinStands, ArePinned}

module _ (config : Config) (cset evac now_cset now_evac : ℕ) (block now_block : Plot) where
  -- so does one of them
  pub pin_stays : ((address refs nums : ℕ) (name : Name) → Target config cset evac block address refs nums name → Target config now_cset now_evac now_block address refs nums name)
      → (word : ℕ) (held_pin : Option Pinned) → PinStands config cset evac block word held_pin → PinStands config now_cset now_evac now_block word held_pin
  pin_stays targets word None pin_stands = pin_stands
  pin_stays targets word (Some pinned) pin_stands = (pin_stands.0, pin_stands.1, pin_stands.2, targets word pin_stands.1 pin_stands.2 pinned.name pin_stands.3)

  -- and those of all mutators
  pub pins_stay : (words : ℕ → ℕ → ℕ) (pin : ℕ → ℕ → Option Pinned)
      → ((address refs nums : ℕ) (name : Name) → Target config cset evac block address refs nums name → Target config now_cset now_evac now_block address refs nums name)
      → ArePinned config cset evac block words pin → ArePinned config now_cset now_evac now_block words pin
  pins_stay words pin targets pins_stand thread slot seated inside = pin_stays targets (words thread slot) (pin (thread + 1) slot) (pins_stand thread slot seated inside)
