-- What a pause may count on, whatever the machines were doing when it was wanted.
use Rattle.std.specs.Prelude.{ℕ, ◌≡◌, ◌⊎◌, ◌+◌, ◌<◌, true, false, List, length, Some, slice_get, slice_index, if◌then◌else◌}
use Rattle.heap_words.specs.declared.config.Config.{Config}
use Rattle.heap_words.specs.Words.{is_image, image_start}
use Rattle.heap_words.specs.Steps.{Stage}
use Rattle.shen_graph.specs.declared.order.Order.{Order}
use Rattle.handshake.specs.Standing.{is_within, is_pausing}
use Rattle.mutator.specs.declared.spot.Spot.TheVariants.{Waiting}
use Rattle.mutator.specs.declared.waits.WaitSpot.TheVariants as wait
use Rattle.mutator.specs.Orders.{takes_at}
use Rattle.mutator.specs.Rows.{Mutating, touch_of}
use Rattle.collector_rows.specs.declared.control_spot.ControlSpot.{ControlSpot}
use Rattle.collector_rows.specs.declared.control_spot.ControlSpot.TheVariants.{LoadWord, StoreWord}
use Rattle.collector_rows.specs.declared.extent.Extent.{Extent}
use Rattle.collector_rows.specs.Extent.{is_of_extent, extent_by, counts, Counting}
use Rattle.collector_rows.specs.ControlRows.{Controlling}
use Rattle.heap_world.specs.Change.{image_words}
use Rattle.collector_rows.specs.HelperRows.{Helping, help_touch}
use Rattle.step_core.specs.Actor.{helping, controlling, Actor}
use Rattle.step_core.specs.Machines.{helping_by}
use Rattle.step_core.specs.Settled.{control_number}
use Rattle.step_core.specs.Sound.{IsMutator}
use Rattle.step_core.specs.Standing.{standing_at, help_standing, control_standing}

-- the control works in a pause, or has done so and not ended it yet: it is behind its last check, and has not let the others go on
pub record IsInPause (config : Config) (stage : Stage Actor) : Type 0 where
  pub actor : Actor
  pub control : Controlling
  pub here : slice_get stage.machines (control_number config) ≡ Some actor
  pub is : actor.machine ≡ controlling control
  pub pausing : is_pausing (control_standing control.spot) ≡ true

-- the machine of a number is a helper that stands so
pub record IsHelper (stage : Stage Actor) (number : ℕ) (actor : Actor) (helper : Helping) : Type 0 where
  pub here : slice_get stage.machines number ≡ Some actor
  pub is : actor.machine ≡ helping helper

-- No mutator is in the heap, where calls load the phase and do their work until they leave: each is between two calls, enters, or
-- waits for an object; and no helper is. None makes an access to a word of the image, but a mutator that waits looks for its answer.
pub record IsEmpty (config : Config) (stage : Stage Actor) : Type 0 where
  pub nobody : (number : ℕ) (actor : Actor) (mutator : Mutating) → IsMutator stage number actor mutator → is_within (standing_at mutator.spot) ≡ false
  pub no_helper : (number : ℕ) (actor : Actor) (helper : Helping) → IsHelper stage number actor helper → is_within (help_standing helper.spot) ≡ false
  pub no_access : (number : ℕ) (actor : Actor) (helper : Helping) (order : Order) → IsHelper stage number actor helper → is_image (help_touch config (helping_by config order helper)).word ≡ false
  pub only_polls : (number : ℕ) (actor : Actor) (mutator : Mutating) (order : Order) → IsMutator stage number actor mutator → takes_at mutator.spot mutator.made order ≡ true
      → (is_image (touch_of config mutator order).word ≡ false) ⊎ (mutator.spot ≡ Waiting wait.Poll)

-- of the first words of an image those that count are those of the table
abbrev pub AreRead : Config → List ℕ → Counting → ℕ → Type 0
AreRead config words counting bound = (index : ℕ) → index < bound → counts config counting.extent counting.image index ≡ true → slice_index counting.image index ≡ slice_index words (image_start config + index)

-- the first words of an image are those of the table, where they are of an extent, and else 0
abbrev pub AreLoaded : Config → List ℕ → Extent → List ℕ → ℕ → Type 0
AreLoaded config words extent image bound = (index : ℕ) → index < bound → slice_index image index ≡ (if is_of_extent config extent index then slice_index words (image_start config + index) else 0)

-- what the control knows in a pause: which words of the image it has read or written, and that the next one is of the extent, or counts
abbrev pub IsAim : Config → List ℕ → ControlSpot → List ℕ → Type 0
IsAim config words (LoadWord index extent) image = (length image ≡ index) × AreLoaded config words extent image index × (is_of_extent config extent index ≡ true)
IsAim config words (StoreWord index extent) image = (length image ≡ image_words config) × AreRead config words (record { extent = extent; image = image }) index × (counts config extent image index ≡ true)
IsAim config words _ image = Unit {0}

-- the extent of its pause is that of the words that it has loaded
abbrev pub IsOfExtent : Config → ℕ → ControlSpot → List ℕ → Type 0
IsOfExtent config phase (LoadWord index extent) image = extent ≡ extent_by config phase image
IsOfExtent config phase _ image = Unit {0}
