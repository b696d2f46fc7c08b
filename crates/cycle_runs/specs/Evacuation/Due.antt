-- When the pauses come that end evacuation and updating, and what has been copied and updated then.
use Rattle.std.specs.Prelude.{ℕ, ◌≡◌, ◌≢◌, ◌+◌, ◌<◌, ◌≤◌, Bool, true, false, List, [], ◌∷◌, ◌++◌, Some, slice_get}
use Rattle.std.specs.Int.{bit_at}
use Rattle.heap_words.specs.declared.config.Config.{Config}
use Rattle.heap_words.specs.Encoding.{is_forwarded}
use Rattle.heap_words.specs.Words.{Word, Phase, Cset, Evac, Ask, Root, Answer, Black, Heap}
use Rattle.heap_words.specs.Steps.{Stage, Event, go, Finds}
use Rattle.shen_graph.specs.declared.name.Name.{Name}
use Rattle.shen_graph.specs.declared.order.Order.{Order}
use Rattle.shen_graph.specs.declared.order.Order.TheVariants.{Nothing}
use Rattle.shen_graph.specs.Graph.{Graph}
use Rattle.shen_graph.specs.History.{after}
use Rattle.regions.specs.Marks.{HasMark}
use Rattle.heap_words.specs.Counter.{is_out_of_room}
use Rattle.heap_words.specs.Phases.{evacuation_phase, updating_phase}
use Rattle.heap_world.specs.World.{thing, IsCollected}
use Rattle.heap_world.specs.Change.{Change, IsDue, image_view, image_words}
use Rattle.collector_rows.specs.ByParts.{PausesByParts}
use Rattle.collector_rows.specs.declared.control_spot.ControlSpot.{ControlSpot}
use Rattle.collector_rows.specs.declared.control_spot.ControlSpot.TheVariants.{Stopping, LoadWord}
use Rattle.collector_rows.specs.declared.extent.Extent.{Extent}
use Rattle.collector_rows.specs.declared.extent.Extent.TheVariants.{Whole}
use Rattle.collector_rows.specs.ControlRows.{Controlling}
use Rattle.step_core.specs.Actor.{controlling, Actor}
use Rattle.step_core.specs.Begins.{Begins}
use Rattle.step_core.specs.History.{history}
use Rattle.step_core.specs.Machines.{kind}
use Rattle.step_core.specs.Settled.{settled, control_number}
use Rattle.step_core.specs.Sound.{StandsFor}

-- whether the control stops the other machines for a pause, or reads the image in one
abbrev pub has_begun : ControlSpot → Bool
has_begun (Stopping spot) = true
has_begun (LoadWord index extent) = true
has_begun _ = false

-- the control of a stage is this
pub record HasControl (config : Config) (stage : Stage Actor) (control : Controlling) : Type 0 where
  pub actor : Actor
  pub here : slice_get stage.machines (control_number config) ≡ Some actor
  pub is : actor.machine ≡ controlling control

-- a pause begins only where it is due, and is so until the image is read
abbrev pub PausesComeWhenDue : Type 0
PausesComeWhenDue = (change : Change) → PausesByParts change → (config : Config) (stage : Stage Actor) (graph : Graph) → Begins config stage graph → (events : List (Event Order))
    → (control : Controlling) → HasControl config (go (kind change config) stage events) control → has_begun control.spot ≡ true → IsDue config (settled config (go (kind change config) stage events))

-- in phase 2, where no allocation waits and there was always room, each marked address of the collection set has the header of an
-- object that has moved
abbrev pub IsEvacuated : Config → (Word → ℕ) → Type 0
IsEvacuated config memory = memory Phase ≡ evacuation_phase → bit_at (memory Ask) 1 ≡ 0 → is_out_of_room (memory Evac) ≡ false
    → (address : ℕ) → config.region_words ≤ address → IsCollected config (memory Cset) address → HasMark config (λ number. memory (Black number)) address → is_forwarded (memory (Heap address)) ≡ true

-- so it is wherever the control reads the image in a pause
abbrev pub EvacuationIsWhole : Type 0
EvacuationIsWhole = (change : Change) → PausesByParts change → (config : Config) (stage : Stage Actor) (graph : Graph) → Begins config stage graph → (events : List (Event Order))
    → (control : Controlling) → HasControl config (go (kind change config) stage events) control → (index : ℕ) (extent : Extent) → control.spot ≡ LoadWord index extent
    → IsEvacuated config (settled config (go (kind change config) stage events))

-- and of the image itself where it has read all of it, with the last word that it finds: each marked object was copied before updating begins
abbrev pub ImagesAreEvacuated : Type 0
ImagesAreEvacuated = (change : Change) → PausesByParts change → (config : Config) (stage : Stage Actor) (graph : Graph) → Begins config stage graph
    → (number index got : ℕ) (actor : Actor) (control : Controlling) → Finds (kind change config) stage number actor Nothing got → actor.machine ≡ controlling control → control.spot ≡ LoadWord index Whole → index + 1 ≡ image_words config
    → IsEvacuated config (image_view config (control.image ++ got ∷ []))

-- a word is null, or names no address of the collection set
abbrev pub NamesNoSet : Config → (Word → ℕ) → Word → Type 0
NamesNoSet config memory word = memory word ≢ 0 → IsCollected config (memory Cset) (memory word) → ⊥

-- Words and machines stand for a graph by some plot, in which no root, no answer that is an address, and no field of a current copy names
-- the collection set.
pub record AreUpdated (config : Config) (stage : Stage Actor) (graph : Graph) : Type 0 where
  pub stands : StandsFor config stage graph
  pub roots : (mutator index : ℕ) → mutator < config.mutators → index < 16 → NamesNoSet config (settled config stage) (Root mutator index)
  pub answers : (mutator : ℕ) → mutator < config.mutators → 1 < settled config stage (Answer mutator) → NamesNoSet config (settled config stage) (Answer mutator)
  pub fields : (address refs nums k : ℕ) (name : Name) → stands.block address ≡ Some (thing name refs nums) → k < refs → NamesNoSet config (settled config stage) (Heap (address + 3 + k))

-- so it is wherever the control reads the image in a pause in phase 3, where no allocation waits
abbrev pub UpdatingIsWhole : Type 0
UpdatingIsWhole = (change : Change) → PausesByParts change → (config : Config) (stage : Stage Actor) (graph : Graph) → Begins config stage graph → (events : List (Event Order))
    → (control : Controlling) → HasControl config (go (kind change config) stage events) control → (index : ℕ) (extent : Extent) → control.spot ≡ LoadWord index extent
    → settled config (go (kind change config) stage events) Phase ≡ updating_phase → bit_at (settled config (go (kind change config) stage events) Ask) 1 ≡ 0
    → AreUpdated config (go (kind change config) stage events) (after graph (history change config stage events))
