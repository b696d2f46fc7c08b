-- What the control has read or written of the image stays while another machine makes a step: in a pause that machine is outside.
use Rattle.std.proofs.Common.{◌≡◌, ℕ, ◌+◌, ◌<◌, true, false, List, Some, refl, sym, ap, ◌∙◌, subst}
use Rattle.std.specs.Prelude.{slice_get, slice_index, if◌then◌else◌}
use Rattle.std.proofs.lemmas.Option.{same_Some}
use Rattle.heap_words.specs.declared.config.Config.{Config}
use Rattle.heap_words.specs.Words.{image_start}
use Rattle.heap_words.specs.Steps.{Stage}
use Rattle.shen_graph.specs.Graph.{Graph}
use Rattle.shen_graph.specs.History.{Entry, after, of_thread}
use Rattle.handshake.specs.Standing.{is_within, is_pausing}
use Rattle.handshake.proofs.Still.{pause_empty}
use Rattle.collector_rows.specs.declared.control_spot.ControlSpot.{ControlSpot}
use Rattle.collector_rows.specs.declared.control_spot.ControlSpot.TheVariants.{LoadWord, StoreWord}
use Rattle.collector_rows.specs.Extent.{is_of_extent}
use Rattle.collector_rows.specs.ControlRows.{Controlling}
use Rattle.step_core.specs.Actor.{controlling, Actor}
use Rattle.step_core.specs.Machines.{HasNumber, standing_of}
use Rattle.step_core.specs.Settled.{control_number}
use Rattle.step_core.specs.Sound.{world_of}
use Rattle.step_core.specs.Standing.{control_standing}
use Rattle.step_core.proofs.Machines.Owed.{IsAim, Follows}
use Rattle.step_core.proofs.Control.Held.{IsKept}
use Rattle.step_core.proofs.Machines.Roles.{number_of}

module _ (config : Config) (graph : Graph) (stage : Stage Actor) (past : List Entry) (follows : Follows config graph stage past) (shaken : IsKept config stage) (number : ℕ) (old : Actor) (machine_there : slice_get stage.machines number ≡ Some old)
    (number_below : number < control_number config) (words_then : List ℕ)
    (stays : is_within (standing_of old.machine) ≡ false → (i : ℕ) → slice_index words_then (image_start config + i) ≡ slice_index stage.words (image_start config + i)) where
  -- while the control works in a pause, the machine is outside
  out_then : (actor_number : ℕ) (actor : Actor) → slice_get stage.machines actor_number ≡ Some actor → (control : Controlling) → actor.machine ≡ controlling control → is_pausing (control_standing control.spot) ≡ true
      → is_within (standing_of old.machine) ≡ false
  out_then actor_number actor actor_there control actor_controls pausing =
      let number_is : actor_number ≡ control_number config = subst (λ machine. HasNumber config actor_number machine) actor_controls (number_of config stage.words (world_of config stage follows.block follows.ghost (after graph past)) (of_thread past (actor_number + 1)) actor_number actor actor.machine (follows.machines actor_number actor actor_there)) in
      let same_actor : actor ≡ shaken.control = same_Some actor shaken.control (sym actor_there ∙ ap (slice_get stage.machines) number_is ∙ shaken.there) in
      pause_empty config (λ any_actor. standing_of any_actor.machine) stage shaken (ap (λ any_actor. is_pausing (standing_of any_actor.machine)) (sym same_actor) ∙ ap (λ machine. is_pausing (standing_of machine)) actor_controls ∙ pausing)
      number old number_below machine_there

  pub aims_stay : (actor_number : ℕ) (actor : Actor) → slice_get stage.machines actor_number ≡ Some actor → (control : Controlling) → actor.machine ≡ controlling control → IsAim config stage.words control.spot control.image → IsAim config words_then control.spot control.image
  aims_stay actor_number actor actor_there control actor_controls aim = by_spot control.spot (out_then actor_number actor actor_there control actor_controls) aim
    where
      by_spot : (spot : ControlSpot) → (is_pausing (control_standing spot) ≡ true → is_within (standing_of old.machine) ≡ false) → IsAim config stage.words spot control.image → IsAim config words_then spot control.image
      by_spot (LoadWord index extent) outside_then known_aim = (known_aim.0, λ word_index index_below. known_aim.1 word_index index_below ∙ ap (λ value. if is_of_extent config extent word_index then value else 0) (sym (stays (outside_then refl) word_index)), known_aim.2)
      by_spot (StoreWord index extent) outside_then known_aim = (known_aim.0, λ word_index index_below counted. known_aim.1 word_index index_below counted ∙ sym (stays (outside_then refl) word_index), known_aim.2)
      by_spot _ outside_then known_aim = tt
