-- Copying out what is left, one address after the other.
use Rattle.heap_words.specs.Phases.{evacuation_phase}
use Rattle.std.proofs.Common.{◌≡◌, ◌≢◌, ℕ, ◌+◌, ◌*◌, ◌==◌, ◌&&◌, cond, true, false, suc, Option, Some, None, refl, sym, ap, ◌∙◌, subst, ⊎_elim}
use Rattle.std.proofs.lemmas.Bool.{cases_Bool, cond-true, cond-false, true≢false, eq-eqb, ne_eqb}
use Rattle.std.proofs.Math.Path.{fun_ext}
use Rattle.heap_words.specs.declared.config.Config.{Config}
use Rattle.heap_words.specs.Words.{Word, Phase}
use Rattle.cycle_words.specs.Evacuation.Copied.{CanCopyOut, copy_room, copy_in, copied_in, copied_out}
use Rattle.cycle_words.specs.Finishing.Copies.{is_left, is_found, has_copy_room, copied_from, is_room_from, CanCopyFrom, all_copied, is_room_for_all}
use Rattle.cycle_words.proofs.Finishing.Copies.{copied_next, copied_stuck, copied_skips}
use Rattle.degenerated.specs.Steps.{turn_taken, has_turn_room}

module _ (config : Config) (memory : Word → ℕ) (address : ℕ) where
  -- nothing is left
  pub nothing_taken : is_left config memory address ≡ false → memory ≡ turn_taken config memory address
  nothing_taken none_left = fun_ext (λ word. sym (cond-false (is_left config memory address) (copied_out config memory address word) (memory word) none_left))

  pub nothing_finds : is_left config memory address ≡ false → true ≡ has_turn_room config memory address
  nothing_finds none_left = sym (cond-false (is_left config memory address) (has_copy_room config memory address) true none_left)

  -- an object is left
  pub object_taken : is_left config memory address ≡ true → copied_out config memory address ≡ turn_taken config memory address
  object_taken object_left = fun_ext (λ word. sym (cond-true (is_left config memory address) (copied_out config memory address word) (memory word) object_left))

  pub object_finds : is_left config memory address ≡ true → has_copy_room config memory address ≡ has_turn_room config memory address
  object_finds object_left = sym (cond-true (is_left config memory address) (has_copy_room config memory address) true object_left)

  -- there is a copy exactly where some region has room
  pub copy_tells : (found : Option ℕ) → is_found (copy_in config memory found) ≡ is_found found
  copy_tells None = refl
  copy_tells (Some region) = refl

  no_room_keeps : (found : Option ℕ) → is_found found ≡ false → copied_in config memory address found ≡ memory
  no_room_keeps None no_room = refl
  no_room_keeps (Some region) no_room = absurd (true≢false no_room)

  stays : has_copy_room config memory address ≡ false → copied_out config memory address ≡ memory
  stays no_room = no_room_keeps (copy_room config memory address) no_room

  -- the turn of the first address, and then those of the others
  module _ (addresses : ℕ) where
    room_is : is_room_from config memory address (suc addresses) ≡ cond (is_left config memory address) (has_copy_room config memory address && is_room_from config (copied_out config memory address) (address + 1) addresses) (is_room_from config memory (address + 1) addresses)
    unfolding is_room_from
    room_is = refl

    pub can_here : CanCopyFrom config memory address (suc addresses) → is_left config memory address ≡ true → CanCopyOut config memory address
    unfolding CanCopyFrom
    can_here can_copy_from object_left = (can_copy_from.0 object_left).0

    module _ (has_room : has_turn_room config memory address ≡ true) where
      found : is_left config memory address ≡ true → has_copy_room config memory address ≡ true
      found object_left = object_finds object_left ∙ has_room

      pub goes_on : copied_from config memory address (suc addresses) ≡ copied_from config (turn_taken config memory address) (address + 1) addresses
      goes_on = ⊎_elim
          (λ (object_left : is_left config memory address ≡ true). copied_next config memory address addresses object_left (found object_left) ∙ ap (λ memory_then. copied_from config memory_then (address + 1) addresses) (object_taken object_left))
          (λ (none_left : is_left config memory address ≡ false). copied_skips config memory address addresses none_left ∙ ap (λ memory_then. copied_from config memory_then (address + 1) addresses) (nothing_taken none_left))
          (cases_Bool (is_left config memory address))

      pub room_goes_on : is_room_from config memory address (suc addresses) ≡ is_room_from config (turn_taken config memory address) (address + 1) addresses
      room_goes_on = ⊎_elim
          (λ (object_left : is_left config memory address ≡ true).
          room_is
          ∙ cond-true (is_left config memory address) (has_copy_room config memory address && is_room_from config (copied_out config memory address) (address + 1) addresses) (is_room_from config memory (address + 1) addresses) object_left
          ∙ ap (λ room_here. room_here && is_room_from config (copied_out config memory address) (address + 1) addresses) (found object_left)
          ∙ ap (λ memory_then. is_room_from config memory_then (address + 1) addresses) (object_taken object_left))
          (λ (none_left : is_left config memory address ≡ false).
          room_is
          ∙ cond-false (is_left config memory address) (has_copy_room config memory address && is_room_from config (copied_out config memory address) (address + 1) addresses) (is_room_from config memory (address + 1) addresses) none_left
          ∙ ap (λ memory_then. is_room_from config memory_then (address + 1) addresses) (nothing_taken none_left))
          (cases_Bool (is_left config memory address))

      pub can_go_on : CanCopyFrom config memory address (suc addresses) → CanCopyFrom config (turn_taken config memory address) (address + 1) addresses
      unfolding CanCopyFrom
      can_go_on can_copy_from = ⊎_elim
          (λ (object_left : is_left config memory address ≡ true). subst (λ memory_then. CanCopyFrom config memory_then (address + 1) addresses) (object_taken object_left) ((can_copy_from.0 object_left).1 (found object_left)))
          (λ (none_left : is_left config memory address ≡ false). subst (λ memory_then. CanCopyFrom config memory_then (address + 1) addresses) (nothing_taken none_left) (can_copy_from.1 none_left))
          (cases_Bool (is_left config memory address))

    -- or it ends here
    module _ (no_room : has_turn_room config memory address ≡ false) where
      is_one_left : is_left config memory address ≡ true
      is_one_left = ⊎_elim
          (λ (object_left : is_left config memory address ≡ true). object_left)
          (λ (not_left : is_left config memory address ≡ false). absurd (true≢false (nothing_finds not_left ∙ no_room)))
          (cases_Bool (is_left config memory address))

      not_found : has_copy_room config memory address ≡ false
      not_found = object_finds is_one_left ∙ no_room

      pub ends_here : copied_from config memory address (suc addresses) ≡ turn_taken config memory address
      ends_here = copied_stuck config memory address addresses is_one_left not_found ∙ sym (stays not_found) ∙ object_taken is_one_left

      pub no_room_here : is_room_from config memory address (suc addresses) ≡ false
      no_room_here =
          room_is
          ∙ cond-true (is_left config memory address) (has_copy_room config memory address && is_room_from config (copied_out config memory address) (address + 1) addresses) (is_room_from config memory (address + 1) addresses) is_one_left
          ∙ ap (λ room_here. room_here && is_room_from config (copied_out config memory address) (address + 1) addresses) not_found

  pub room_for_none : is_room_from config memory address 0 ≡ true
  unfolding is_room_from
  room_for_none = refl

-- outside phase 2 nothing is copied
module _ (config : Config) (memory : Word → ℕ) where
  pub not_copied : memory Phase ≢ evacuation_phase → memory ≡ all_copied config memory
  not_copied other_phase = fun_ext (λ word. sym (cond-false (memory Phase == evacuation_phase) _ (memory word) (ne_eqb (memory Phase) 2 other_phase)))

  pub room_not_copied : memory Phase ≢ evacuation_phase → true ≡ is_room_for_all config memory
  room_not_copied other_phase = sym (cond-false (memory Phase == evacuation_phase) _ true (ne_eqb (memory Phase) 2 other_phase))

  pub set_copied : memory Phase ≡ evacuation_phase → copied_from config memory config.region_words (config.regions * config.region_words) ≡ all_copied config memory
  set_copied phase_two = fun_ext (λ word. sym (cond-true (memory Phase == evacuation_phase) _ (memory word) (eq-eqb (memory Phase) 2 phase_two)))

  pub room_set_copied : memory Phase ≡ evacuation_phase → is_room_from config memory config.region_words (config.regions * config.region_words) ≡ is_room_for_all config memory
  room_set_copied phase_two = sym (cond-true (memory Phase == evacuation_phase) _ true (eq-eqb (memory Phase) 2 phase_two))
