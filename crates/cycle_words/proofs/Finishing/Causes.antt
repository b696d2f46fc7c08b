-- Why finishing a cycle falls short.
use Rattle.heap_words.specs.Phases.{evacuation_phase}
use Rattle.std.proofs.Common.{◌≡◌, ◌≢◌, ℕ, ◌+◌, ◌*◌, ◌==◌, ◌&&◌, true, false, Option, Some, None, zero, suc, ⊎_elim, refl, sym, ap, ◌∙◌, subst}
use Rattle.std.proofs.Math.Path.{fun_ext}
use Rattle.std.proofs.lemmas.Bool.{cases_Bool, cases_eq, cond-true, cond-false, eq-eqb, ne_eqb, true≢false}
use Rattle.heap_words.specs.declared.config.Config.{Config}
use Rattle.heap_words.specs.Words.{Word, Phase, Wait}
use Rattle.image_graph.specs.Full.{served}
use Rattle.cycle_words.specs.Evacuation.Copied.{copy_room, copied_out}
use Rattle.cycle_words.specs.Finishing.Copies.{is_left, is_found, has_copy_room, copied_from, is_room_from, all_copied}
use Rattle.cycle_words.specs.Finishing.Laws.{IsStuck, StopsForRoom, ServingServesAll}
use Rattle.cycle_words.proofs.Finishing.Copies.{copied_next, copied_stuck, copied_skips}
use Rattle.cycle_words.proofs.Finishing.Whole.{nobody_is, nobody_from, waits_if_left, left_if_waits}

-- where no region was found there is none
none_found : (found : Option ℕ) → is_found found ≡ false → found ≡ None
none_found None not_found = refl
none_found (Some found_region) not_found = absurd (true≢false not_found)

room_first : (config : Config) (memory : Word → ℕ) (address : ℕ) → is_room_from config memory address zero ≡ true
unfolding is_room_from
room_first config memory address = refl

room_next : (config : Config) (memory : Word → ℕ) (address addresses : ℕ) → is_left config memory address ≡ true → has_copy_room config memory address ≡ true → is_room_from config memory address (suc addresses) ≡ is_room_from config (copied_out config memory address) (address + 1) addresses
unfolding is_room_from
room_next config memory address addresses left_over room =
    cond-true (is_left config memory address) (has_copy_room config memory address && is_room_from config (copied_out config memory address) (address + 1) addresses) (is_room_from config memory (address + 1) addresses) left_over
    ∙ ap (λ has_room. has_room && is_room_from config (copied_out config memory address) (address + 1) addresses) room

room_else : (config : Config) (memory : Word → ℕ) (address addresses : ℕ) → is_left config memory address ≡ false → is_room_from config memory address (suc addresses) ≡ is_room_from config memory (address + 1) addresses
unfolding is_room_from
room_else config memory address addresses not_left = cond-false (is_left config memory address) (has_copy_room config memory address && is_room_from config (copied_out config memory address) (address + 1) addresses) (is_room_from config memory (address + 1) addresses) not_left

stuck : (config : Config) (addresses : ℕ) (memory : Word → ℕ) (address : ℕ) → is_room_from config memory address addresses ≡ false → IsStuck config (copied_from config memory address addresses)
stuck config zero memory address no_room = absurd (true≢false (sym (room_first config memory address) ∙ no_room))
stuck config (suc addresses) memory address no_room = ⊎_elim
    (λ (left_over : is_left config memory address ≡ true). ⊎_elim
    (λ (room : has_copy_room config memory address ≡ true).
    subst (IsStuck config) (sym (copied_next config memory address addresses left_over room)) (stuck config addresses (copied_out config memory address) (address + 1) (sym (room_next config memory address addresses left_over room) ∙ no_room)))
    (λ (no_copy_room : has_copy_room config memory address ≡ false).
    subst (IsStuck config) (sym (copied_stuck config memory address addresses left_over no_copy_room)) (record { object = address; left = left_over; no_room = none_found (copy_room config memory address) no_copy_room }))
    (cases_Bool (has_copy_room config memory address)))
    (λ (not_left : is_left config memory address ≡ false).
    subst (IsStuck config) (sym (copied_skips config memory address addresses not_left)) (stuck config addresses memory (address + 1) (sym (room_else config memory address addresses not_left) ∙ no_room)))
    (cases_Bool (is_left config memory address))

pub stops_for_room : StopsForRoom
stops_for_room given_config given_memory no_room = ⊎_elim
    (λ (phase_two : given_memory Phase ≡ evacuation_phase).
    let test = eq-eqb (given_memory Phase) 2 phase_two in
    let words : all_copied given_config given_memory ≡ copied_from given_config given_memory given_config.region_words (given_config.regions * given_config.region_words) =
    fun_ext (λ word. cond-true (given_memory Phase == evacuation_phase) (copied_from given_config given_memory given_config.region_words (given_config.regions * given_config.region_words) word) (given_memory word) test) in
    subst (IsStuck given_config) (sym words)
    (stuck given_config (given_config.regions * given_config.region_words) given_memory given_config.region_words (sym (cond-true (given_memory Phase == evacuation_phase) (is_room_from given_config given_memory given_config.region_words (given_config.regions * given_config.region_words)) true test) ∙ no_room)))
    (λ (other_phase : given_memory Phase ≢ evacuation_phase).
    absurd (true≢false (sym (cond-false (given_memory Phase == evacuation_phase) (is_room_from given_config given_memory given_config.region_words (given_config.regions * given_config.region_words)) true (ne_eqb (given_memory Phase) 2 other_phase)) ∙ no_room)))
    (cases_eq (given_memory Phase) 2)

pub serving_serves_all : ServingServesAll
serving_serves_all given_config given_memory = record {
  nobody = (
    λ nobody_left asked_mutator left_waiting. waits_if_left given_config given_memory asked_mutator left_waiting (nobody_is given_config (served given_config given_memory given_config.mutators) nobody_left asked_mutator left_waiting.below),
    λ none_left. nobody_from given_config (served given_config given_memory given_config.mutators) (λ mutator inside. ⊎_elim
        (λ (idle : served given_config given_memory given_config.mutators (Wait mutator) ≡ 0). idle)
        (λ (waits : served given_config given_memory given_config.mutators (Wait mutator) ≢ 0). absurd (none_left mutator (left_if_waits given_config given_memory mutator inside waits)))
        (cases_eq (served given_config given_memory given_config.mutators (Wait mutator)) 0)),
  );
  waits = λ thread inside. (λ waits. left_if_waits given_config given_memory thread inside waits, λ left_waiting. waits_if_left given_config given_memory thread left_waiting);
}
