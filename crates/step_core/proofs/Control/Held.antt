-- The image that counts in a stage.
use Rattle.std.proofs.Common.{◌≡◌, ◌≢◌, ℕ, ◌<◌, true, false, Option, Some, refl, sym, ap, ◌∙◌}
use Rattle.std.specs.Prelude.{slice_get, slice_set}
use Rattle.heap_words.proofs.Lists.{slice_get-set_other}
use Rattle.heap_words.specs.declared.config.Config.{Config}
use Rattle.heap_words.specs.Steps.{Stage}
use Rattle.collector_rows.specs.Extent.{Counting}
use Rattle.handshake.specs.Standing.{is_within, is_pausing}
use Rattle.handshake.specs.Shaken.{IsShaken}
use Rattle.handshake.proofs.Still.{pause_empty}
use Rattle.collector_rows.specs.declared.control_spot.ControlSpot.{ControlSpot}
use Rattle.collector_rows.specs.declared.control_spot.ControlSpot.TheVariants.{StoreWord}
use Rattle.step_core.specs.Actor.{Machine, controlling, Actor}
use Rattle.step_core.specs.Settled.{stored_image, image_read, image_of, control_number}
use Rattle.step_core.specs.Machines.{standing_of}
use Rattle.step_core.proofs.Handshake.Machines.{standing}

-- the handshake is kept in a stage
abbrev pub IsKept : Config → Stage Actor → Type 0
IsKept config stage = IsShaken config standing stage

-- while an image counts the control works in a pause
pub holding_pauses : (machine : Machine) (image : Counting) → image_read machine ≡ Some image → is_pausing (standing_of machine) ≡ true
holding_pauses (controlling control) image image_is = by_spot control.spot image_is
  where
    by_spot : (spot : ControlSpot) → stored_image spot control.image ≡ Some image → is_pausing (standing_of (controlling (record control { spot = spot }))) ≡ true
    by_spot (StoreWord index extent) image_stored = refl
    by_spot _ image_stored = absurd (cc (image_stored))
holding_pauses _ image image_is = absurd (cc (image_is))

module _ (config : Config) (stage : Stage Actor) where
  -- the image that counts in the stage
  abbrev pub held_image : Option Counting
  held_image = image_of (slice_get stage.machines (control_number config))

  -- then every other machine is outside
  pub outside_held : IsKept config stage → (image : Counting) → held_image ≡ Some image → (actor_number : ℕ) (actor : Actor) → actor_number < control_number config → slice_get stage.machines actor_number ≡ Some actor → is_within (standing_of actor.machine) ≡ false
  outside_held shaken image image_held actor_number actor number_below actor_there =
      let image_is : image_read shaken.control.machine ≡ Some image = ap image_of (sym shaken.there) ∙ image_held in
      pause_empty config (λ any_actor. standing_of any_actor.machine) stage shaken (holding_pauses shaken.control.machine image image_is) actor_number actor number_below actor_there

  -- the image that counts after an event of another machine is the same
  pub other_holds : (number : ℕ) (new : Actor) → number ≢ control_number config → image_of (slice_get (slice_set stage.machines number new) (control_number config)) ≡ held_image
  other_holds number new not_control = ap image_of (slice_get-set_other stage.machines number (control_number config) new (λ is_control. not_control (sym is_control)))
