-- What the pin words of a heap are, and which steps change them.
use Rattle.std.specs.Prelude.{ℕ, ◌≡◌, ◌≢◌, ◌+◌, ◌<◌, false, Option, Some, None, slice_get}
use Rattle.heap_words.specs.declared.config.Config.{Config}
use Rattle.heap_words.specs.Words.{Word, Pin, Heap}
use Rattle.heap_words.specs.Encoding.{is_forwarded, name_code}
use Rattle.heap_words.specs.Steps.{Stage, Event, act}
use Rattle.shen_graph.specs.declared.order.Order.{Order}
use Rattle.shen_graph.specs.declared.pin.Pinned.{Pinned}
use Rattle.shen_graph.specs.Step.{slot_of}
use Rattle.mutator.specs.declared.spot.Spot.TheVariants.{Pinning}
use Rattle.mutator.specs.declared.pins.PinSpot.TheVariants.{Store}
use Rattle.mutator.specs.Rows.{Mutating}
use Rattle.heap_world.specs.Change.{Change}
use Rattle.step_core.specs.Actor.{mutating, Actor}
use Rattle.step_core.specs.Machines.{kind}
use Rattle.step_core.specs.Settled.{settled}

-- A pin word stands for what its slot holds: 0 for nothing, and else it is the object's place, where an object of that name stands that has not
-- moved.
abbrev pub HoldsPin : (Word → ℕ) → ℕ → Option Pinned → Type 0
HoldsPin memory word None = word ≡ 0
HoldsPin memory word (Some pinned) = (word ≡ pinned.place) × (memory (Heap (word + 2)) ≡ name_code pinned.name.thread pinned.name.count) × (is_forwarded (memory (Heap word)) ≡ false)

-- a mutator is about to store into one of its pin slots
pub record IsStoringPin (stage : Stage Actor) (number slot : ℕ) : Type 0 where
  pub actor : Actor
  pub mutator : Mutating
  pub here : slice_get stage.machines number ≡ Some actor
  pub is : actor.machine ≡ mutating mutator
  pub value : ℕ
  pub stands : mutator.spot ≡ Pinning value Store
  pub slot_is : slot_of mutator.kept.command ≡ slot

-- A step changes a pin word only where its own mutator stores into it: no other step does, that of a pause neither.
abbrev pub OnlyPinningPins : Change → (config : Config) → Stage Actor → Event Order → Type 0
OnlyPinningPins change config stage event = (mutator index : ℕ) → mutator < config.mutators → index < 4 → settled config (act (kind change config) stage event) (Pin mutator index) ≢ settled config stage (Pin mutator index)
    → (event.number ≡ mutator) × IsStoringPin stage mutator index
