-- An event of a helper leads from a stage that follows its history to one that does.
use Rattle.std.proofs.Common.{◌≡◌, ◌≢◌, ℕ, ◌+◌, ◌<◌, true, false, List, [], ◌++◌, Some, sym, ap, ◌∙◌, subst, arith}
use Rattle.std.specs.Prelude.{slice_get, slice_set, slice_index}
use Rattle.std.proofs.lemmas.List.{length-set}
use Rattle.heap_words.specs.declared.config.Config.{Config}
use Rattle.heap_words.specs.Access.{table_index}
use Rattle.heap_words.specs.Words.{is_word, is_image, image_start}
use Rattle.heap_words.proofs.Stores.{is_word_from}
use Rattle.heap_words.specs.Steps.{Stage, moved}
use Rattle.heap_words.specs.Touch.{Touch, placed, touched}
use Rattle.shen_graph.specs.declared.command.Command.{Command}
use Rattle.shen_graph.specs.declared.order.Order.TheVariants.{Nothing}
use Rattle.shen_graph.specs.Graph.{Graph}
use Rattle.shen_graph.specs.History.{Entry, after}
use Rattle.handshake.specs.Standing.{is_within}
use Rattle.collector_rows.specs.HelperRows.{Helping, is_gone, help_touch}
use Rattle.heap_world.specs.World.{World}
use Rattle.heap_world.specs.Change.{Change}
use Rattle.collector_rows.specs.Extent.{Counting}
use Rattle.step_core.specs.Actor.{helping, Actor}
use Rattle.step_core.specs.Machines.{took_of, kind}
use Rattle.step_core.specs.Settled.{settled, settled_by, control_number}
use Rattle.step_core.specs.Sound.{world_of}
use Rattle.step_core.specs.Standing.{help_standing}
use Rattle.step_core.proofs.Control.Aims.{aims_stay}
use Rattle.step_core.proofs.Machines.Owed.{IsHelper, Follows, Owes}
use Rattle.step_core.proofs.Control.Held.{IsKept, held_image, outside_held, other_holds}
use Rattle.step_core.proofs.Helpers.Stable.{help_leaves_image, help_word}
use Rattle.step_core.proofs.Helpers.UnitSteps.{help_step}
use Rattle.step_core.proofs.Control.Images.{words_after, settled_touched, settled_found, image_kept}
use Rattle.step_core.proofs.History.Owing.{follows_owes}
use Rattle.step_core.proofs.Helpers.Quiet.{quiet_owes}

module _ (change : Change) (config : Config) (graph : Graph) (stage : Stage Actor) (past : List Entry) (number : ℕ) (this_helper : Helping) (command : Command) (calls : List Entry)
    (past_follows : Follows config graph stage past) (shaken : IsKept config stage) (helper_there : slice_get stage.machines number ≡ Some (record { machine = helping this_helper; command = command; calls = calls })) (helper_going : is_gone this_helper.spot ≡ false) where
  abbrev before : Actor
  before = record { machine = helping this_helper; command = command; calls = calls }

  abbrev world_then : World
  world_then = world_of config stage past_follows.block past_follows.ghost (after graph past)

  abbrev touch : Touch
  touch = help_touch config this_helper

  helper : IsHelper config world_then number this_helper
  helper = past_follows.machines number before helper_there

  below : number < control_number config
  below = helper.below

  not_control : number ≢ control_number config
  not_control = λ same_number. (let number_less = below in omega (arith, number_less, same_number))

  word : is_word config touch.word ≡ true
  word = is_word_from config touch.word (help_word config world_then number this_helper past_follows.shared helper)

  -- while an image counts it is outside, and its access is of no word of the image
  left_image : (image : Counting) → held_image config stage ≡ Some image → is_image touch.word ≡ false
  left_image image image_held = help_leaves_image config this_helper.seat this_helper.spot (outside_held config stage shaken image image_held number before below helper_there)

  abbrev words_then : List ℕ
  words_then = words_after config stage.words touch

  image_words_stay : is_within (help_standing this_helper.spot) ≡ false → (index : ℕ) → slice_index words_then (image_start config + index) ≡ slice_index stage.words (image_start config + index)
  image_words_stay helper_outside index = image_kept config stage.words touch index word (help_leaves_image config this_helper.seat this_helper.spot helper_outside)

  abbrev new_then : ℕ → Actor
  new_then got = took_of change config before Nothing got (helping this_helper)

  pub follows_helper : Follows config graph (moved (kind change config) stage number before Nothing) (past ++ [])
  unfolding kind
  follows_helper =
      let place : ℕ = table_index (placed config touch) in
      let owes : Owes config stage.words words_then world_then past number stage.machines (touched world_then.memory touch) [] (new_then (world_then.memory touch.word)) =
      quiet_owes config stage.words (held_image config stage) past_follows.block past_follows.ghost (after graph past) past number stage.machines touch past_follows.words word left_image (new_then (world_then.memory touch.word)) past_follows.shared past_follows.promised_to
      (help_step config world_then number this_helper past_follows.shared helper helper_going) (λ other_number other_actor differs actor_there actor_known. aims_stay config graph stage past past_follows shaken number before helper_there below words_then image_words_stay other_number other_actor actor_there) in
      let word_found : slice_index stage.words place ≡ world_then.memory touch.word = settled_found config stage.words touch (held_image config stage) word left_image in
      let memory_then : settled config (record { words = words_then; machines = slice_set stage.machines number (new_then (slice_index stage.words place)) }) ≡ touched world_then.memory touch =
      ap (settled_by config words_then) (other_holds config stage number (new_then (slice_index stage.words place)) not_control) ∙ settled_touched config stage.words touch (held_image config stage) word past_follows.words left_image in
      follows_owes config graph stage past number before (new_then (slice_index stage.words place)) words_then [] past_follows
      (subst (λ memory. Owes config stage.words words_then world_then past number stage.machines memory [] (new_then (slice_index stage.words place))) (sym memory_then)
      (subst (λ got. Owes config stage.words words_then world_then past number stage.machines (touched world_then.memory touch) [] (new_then got)) (sym word_found) owes))
      helper_there (length-set stage.words _ _ ∙ past_follows.words)
