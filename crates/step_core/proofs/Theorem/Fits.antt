-- A helper, and the control, makes its access inside the table, and the word that it finds is fit, under each order that it takes.
use Rattle.std.proofs.Common.{◌≡◌, ℕ, ◌<◌, true, false, List, ⊎_elim, Some, sym, ◌∙◌, subst}
use Rattle.std.specs.Prelude.{slice_get, slice_index}
use Rattle.std.proofs.lemmas.Bool.{cases_Bool, false≢true, and_parts}
use Rattle.heap_words.specs.declared.config.Config.{Config}
use Rattle.heap_words.specs.Access.{table_index}
use Rattle.heap_words.specs.Words.{word_at, table_words}
use Rattle.heap_words.proofs.Stores.{is_word_from}
use Rattle.heap_words.proofs.Rows.{word_inside}
use Rattle.heap_words.specs.Touch.{placed}
use Rattle.heap_words.specs.Steps.{Stage}
use Rattle.heap_words.proofs.Touches.{table_index-access_at}
use Rattle.shen_graph.specs.declared.command.Command.{Command}
use Rattle.shen_graph.specs.declared.order.Order.{Order}
use Rattle.shen_graph.specs.declared.order.Order.TheVariants.{Nothing, Begin, End, Hint}
use Rattle.shen_graph.specs.Graph.{Graph}
use Rattle.shen_graph.specs.History.{Entry, after}
use Rattle.handshake.specs.Standing.{is_within}
use Rattle.heap_world.specs.World.{World}
use Rattle.heap_world.specs.Change.{Change}
use Rattle.collector_rows.specs.ByParts.{PausesByParts}
use Rattle.collector_rows.specs.HelperRows.{Helping, help_touch}
use Rattle.collector_rows.specs.HelperReady as help
use Rattle.collector_rows.specs.declared.control_spot.ControlSpot.{ControlSpot}
use Rattle.collector_rows.specs.declared.control_spot.ControlSpot.TheVariants.{Working, LoadWord}
use Rattle.collector_rows.specs.ControlRows as controls
use Rattle.collector_rows.specs.ControlRows.{Controlling, control_access, word_stored}
use Rattle.collector_rows.specs.ControlReady.{UnitGoesOn}
use Rattle.collector_rows.proofs.ControlStays.{accesses_inside}
use Rattle.step_core.specs.Actor.{Machine, helping, controlling, Actor}
use Rattle.step_core.specs.Fit.{IsWholeImage}
use Rattle.step_core.specs.Machines.{takes_of, plan_of, helping_by, controlling_by, IsFitFor}
use Rattle.step_core.specs.Sound.{world_of}
use Rattle.step_core.specs.Standing.{help_standing}
use Rattle.step_core.proofs.Machines.Owed.{IsHelper, IsControl, Follows}
use Rattle.step_core.proofs.Control.Held.{IsKept, held_image, outside_held}
use Rattle.step_core.proofs.Control.Images.{settled_found}
use Rattle.step_core.proofs.Control.Events.{whole_stands, work_fit}
use Rattle.step_core.proofs.Helpers.Stable.{help_word, help_fits, help_fits_outside}
use Rattle.step_core.proofs.Theorem.Hinted.{replaced, there, follows_replaced, kept_replaced, helper_takes_place, control_takes_place}

-- Under no order.
module _ (change : Change) (law : PausesByParts change) (config : Config) (graph : Graph) (stage : Stage Actor) (entries : List Entry) (stage_follows : Follows config graph stage entries) (shaken : IsKept config stage)
    (number : ℕ) (command : Command) (calls : List Entry) where
  abbrev the_world : World
  the_world = world_of config stage stage_follows.block stage_follows.ghost (after graph entries)

  abbrev actor_of : Machine → Actor
  actor_of machine = record { machine = machine; command = command; calls = calls }

  helper_is : (helper : Helping) → slice_get stage.machines number ≡ Some (actor_of (helping helper)) → IsHelper config the_world number helper
  helper_is helper helper_there = stage_follows.machines number (actor_of (helping helper)) helper_there

  helper_by_itself : (helper : Helping) → slice_get stage.machines number ≡ Some (actor_of (helping helper)) → table_index (placed config (help_touch config helper)) < table_words config
  helper_by_itself helper helper_there =
      subst (λ any_index. any_index < table_words config) (sym (table_index-access_at (word_at config (help_touch config helper).word) (help_touch config helper).form))
      (word_inside config (help_touch config helper).word (help_word config the_world number helper stage_follows.shared (helper_is helper helper_there)))

  fit_by_itself : (helper : Helping) → slice_get stage.machines number ≡ Some (actor_of (helping helper)) → help.IsFit config helper (slice_index stage.words (table_index (placed config (help_touch config helper))))
  fit_by_itself helper helper_there = ⊎_elim
      (λ (helper_within : is_within (help_standing helper.spot) ≡ true).
      subst (λ got. help.IsFit config helper got) (sym (settled_found config stage.words (help_touch config helper) (held_image config stage) (is_word_from config (help_touch config helper).word (help_word config the_world number helper stage_follows.shared (helper_is helper helper_there)))
      (λ image image_held. absurd (false≢true (sym (outside_held config stage shaken image image_held number (actor_of (helping helper)) (helper_is helper helper_there).below helper_there) ∙ helper_within)))))
      (help_fits config the_world number helper stage_follows.shared (helper_is helper helper_there)))
      (λ (helper_outside : is_within (help_standing helper.spot) ≡ false). help_fits_outside config helper.seat helper.spot _ helper_outside)
      (cases_Bool (is_within (help_standing helper.spot)))

  control_is : (control : Controlling) → slice_get stage.machines number ≡ Some (actor_of (controlling control)) → IsControl config stage.words the_world number control
  control_is control control_there = stage_follows.machines number (actor_of (controlling control)) control_there

  control_by_itself : (control : Controlling) → slice_get stage.machines number ≡ Some (actor_of (controlling control)) → table_index (control_access config control) < table_words config
  control_by_itself control control_there = accesses_inside config control.spot (word_stored control.spot control.image) (control_is control control_there).ready

  -- the control at a spot
  module _ (seen phase cset hints : ℕ) (image : List ℕ) where
    abbrev control_at : ControlSpot → Controlling
    control_at spot = record { spot = spot; seen = seen; phase = phase; cset = cset; hints = hints; image = image }

    fit_whole : (spot : ControlSpot) → slice_get stage.machines number ≡ Some (actor_of (controlling (control_at spot))) → IsWholeImage config phase spot image (slice_index stage.words (table_index (control_access config (control_at spot))))
    fit_whole (LoadWord index extent) control_there = λ all_words. whole_stands change law config graph stage entries number seen phase cset hints image command calls stage_follows shaken index extent control_there all_words
    fit_whole _ control_there = tt

    fit_unit : (spot : ControlSpot) → slice_get stage.machines number ≡ Some (actor_of (controlling (control_at spot))) → UnitGoesOn config spot (slice_index stage.words (table_index (control_access config (control_at spot))))
    fit_unit (Working spot) control_there = work_fit change law config graph stage entries number seen phase cset hints image command calls stage_follows shaken spot control_there
    fit_unit _ control_there = tt

  control_fit_by_itself : (control : Controlling) → slice_get stage.machines number ≡ Some (actor_of (controlling control))
      → IsWholeImage config control.phase control.spot control.image (slice_index stage.words (table_index (control_access config control))) × UnitGoesOn config control.spot (slice_index stage.words (table_index (control_access config control)))
  control_fit_by_itself control control_there = (fit_whole control.seen control.phase control.cset control.hints control.image control.spot control_there, fit_unit control.seen control.phase control.cset control.hints control.image control.spot control_there)

-- who takes a hint loads no image
whole_hinted : (config : Config) (phase : ℕ) (spot : ControlSpot) (image : List ℕ) (got : ℕ) → controls.takes_hint spot ≡ true → IsWholeImage config phase spot image got
whole_hinted config phase (Working spot) image got takes = tt
whole_hinted config phase _ image got takes = absurd (cc (takes))

-- Under each order: with a hint it is so in the stage in which the machine goes on with the hint.
module _ (change : Change) (law : PausesByParts change) (config : Config) (graph : Graph) (stage : Stage Actor) (entries : List Entry) (stage_follows : Follows config graph stage entries) (shaken : IsKept config stage) (number : ℕ) where
  abbrev named : Machine → Command → List Entry → Actor
  named machine command calls = record { machine = machine; command = command; calls = calls }

  pub helper_inside : (order : Order) (helper : Helping) (command : Command) (calls : List Entry) → slice_get stage.machines number ≡ Some (named (helping helper) command calls) → takes_of (helping helper) order ≡ true
      → table_index (plan_of config order (helping helper)) < table_words config
  helper_inside Nothing helper command calls helper_there takes = helper_by_itself change law config graph stage entries stage_follows shaken number command calls helper helper_there
  helper_inside (Hint address) helper command calls helper_there takes =
      let hint_place = helper_takes_place config number (Hint address) helper command calls in
      let next_helper : Helping = helping_by config (Hint address) helper in
      helper_by_itself change law config graph (replaced config stage number (named (helping helper) command calls) (named (helping next_helper) command calls) helper_there hint_place) entries
      (follows_replaced config stage number (named (helping helper) command calls) (named (helping next_helper) command calls) helper_there hint_place graph entries stage_follows)
      (kept_replaced config stage number (named (helping helper) command calls) (named (helping next_helper) command calls) helper_there hint_place shaken) number command calls next_helper
      (there config stage number (named (helping helper) command calls) (named (helping next_helper) command calls) helper_there hint_place)
  helper_inside (Begin begun) helper command calls helper_there takes = absurd (cc (takes))
  helper_inside End helper command calls helper_there takes = absurd (cc (takes))

  pub helper_fit : (order : Order) (helper : Helping) (command : Command) (calls : List Entry) → slice_get stage.machines number ≡ Some (named (helping helper) command calls) → takes_of (helping helper) order ≡ true
      → IsFitFor config order (slice_index stage.words (table_index (plan_of config order (helping helper)))) (helping helper)
  helper_fit Nothing helper command calls helper_there takes = fit_by_itself change law config graph stage entries stage_follows shaken number command calls helper helper_there
  helper_fit (Hint address) helper command calls helper_there takes =
      let hint_place = helper_takes_place config number (Hint address) helper command calls in
      let next_helper : Helping = helping_by config (Hint address) helper in
      fit_by_itself change law config graph (replaced config stage number (named (helping helper) command calls) (named (helping next_helper) command calls) helper_there hint_place) entries
      (follows_replaced config stage number (named (helping helper) command calls) (named (helping next_helper) command calls) helper_there hint_place graph entries stage_follows)
      (kept_replaced config stage number (named (helping helper) command calls) (named (helping next_helper) command calls) helper_there hint_place shaken) number command calls next_helper
      (there config stage number (named (helping helper) command calls) (named (helping next_helper) command calls) helper_there hint_place)
  helper_fit (Begin begun) helper command calls helper_there takes = absurd (cc (takes))
  helper_fit End helper command calls helper_there takes = absurd (cc (takes))

  pub control_inside : (order : Order) (control : Controlling) (command : Command) (calls : List Entry) → slice_get stage.machines number ≡ Some (named (controlling control) command calls) → takes_of (controlling control) order ≡ true
      → table_index (plan_of config order (controlling control)) < table_words config
  control_inside Nothing control command calls control_there takes = control_by_itself change law config graph stage entries stage_follows shaken number command calls control control_there
  control_inside (Hint address) control command calls control_there takes =
      let hint_place = control_takes_place config number (Hint address) control command calls in
      let next_control : Controlling = controlling_by config (Hint address) control in
      control_by_itself change law config graph (replaced config stage number (named (controlling control) command calls) (named (controlling next_control) command calls) control_there hint_place) entries
      (follows_replaced config stage number (named (controlling control) command calls) (named (controlling next_control) command calls) control_there hint_place graph entries stage_follows)
      (kept_replaced config stage number (named (controlling control) command calls) (named (controlling next_control) command calls) control_there hint_place shaken) number command calls next_control
      (there config stage number (named (controlling control) command calls) (named (controlling next_control) command calls) control_there hint_place)
  control_inside (Begin begun) control command calls control_there takes = absurd (cc (takes))
  control_inside End control command calls control_there takes = absurd (cc (takes))

  pub control_fit : (order : Order) (control : Controlling) (command : Command) (calls : List Entry) → slice_get stage.machines number ≡ Some (named (controlling control) command calls) → takes_of (controlling control) order ≡ true
      → IsFitFor config order (slice_index stage.words (table_index (plan_of config order (controlling control)))) (controlling control)
  control_fit Nothing control command calls control_there takes = control_fit_by_itself change law config graph stage entries stage_follows shaken number command calls control control_there
  control_fit (Hint address) control command calls control_there takes =
      let hint_place = control_takes_place config number (Hint address) control command calls in
      let next_control : Controlling = controlling_by config (Hint address) control in
      let control_fits = control_fit_by_itself change law config graph (replaced config stage number (named (controlling control) command calls) (named (controlling next_control) command calls) control_there hint_place) entries
      (follows_replaced config stage number (named (controlling control) command calls) (named (controlling next_control) command calls) control_there hint_place graph entries stage_follows)
      (kept_replaced config stage number (named (controlling control) command calls) (named (controlling next_control) command calls) control_there hint_place shaken) number command calls next_control
      (there config stage number (named (controlling control) command calls) (named (controlling next_control) command calls) control_there hint_place) in
      (whole_hinted config control.phase control.spot control.image _ (and_parts _ _ takes).0, control_fits.1)
  control_fit (Begin begun) control command calls control_there takes = absurd (cc (takes))
  control_fit End control command calls control_there takes = absurd (cc (takes))
