-- A pause for which no room is needed is made of a part of the words in phases 0, 2 and 3.
use Rattle.heap_words.specs.Phases.{marking_phase, evacuation_phase, idle_phase}
use Rattle.std.proofs.Common.{◌≡◌, ◌≢◌, ℕ, Bool, true, false, ⊎_elim, refl, sym, ap, ◌∙◌, subst}
use Rattle.std.specs.Prelude.{◌==◌, ◌&&◌, ◌||◌, if◌then◌else◌}
use Rattle.std.specs.Int.{bit_at}
use Rattle.std.proofs.Math.Path.{fun_ext}
use Rattle.std.proofs.lemmas.Bool.{cases_Bool, cond-true, cond-false, ne_eqb, eq-eqb}
use Rattle.heap_words.specs.declared.config.Config.{Config}
use Rattle.heap_words.specs.Words.{Word, Phase, Evac, Ask}
use Rattle.heap_words.specs.Counter.{is_out_of_room}
use Rattle.cycle_words.specs.Marking.Init.{init_marked}
use Rattle.cycle_words.specs.Updating.Changes.{init_updated, final_updated}
use Rattle.cycle_pauses.specs.Evacuation.Collect.{evac_next}
use Rattle.cycle_pauses.specs.Collect.{is_room_needed, next_in_cycle, room_made, collected}
use Rattle.cycle_pauses.specs.Brief.{is_off_heap, is_ahead, IsPartOf, IsMadeOfPart, CollectsByPart}
use Rattle.cycle_pauses.proofs.Brief.EachPause.{init_marked_made, init_updated_made, final_updated_made}

-- whether room is needed is told by three words
abbrev need_by : (ask phase evac : ℕ) → Bool
need_by ask phase evac = (bit_at ask 1 == 1) || ((phase == evacuation_phase) && is_out_of_room evac)

pub need_same : (memory second_memory : Word → ℕ) → memory Ask ≡ second_memory Ask → memory Phase ≡ second_memory Phase → memory Evac ≡ second_memory Evac → is_room_needed memory ≡ is_room_needed second_memory
need_same memory second_memory ask phase evac =
    ap (λ ask. need_by ask (memory Phase) (memory Evac)) ask ∙ ap (λ phase. need_by (second_memory Ask) phase (memory Evac)) phase ∙ ap (λ evac. need_by (second_memory Ask) (second_memory Phase) evac) evac

-- without need of room the cycle goes on
module _ (config : Config) (memory : Word → ℕ) (no_room_needed : is_room_needed memory ≡ false) where
  goes_on : (word : Word) → collected config memory word ≡ next_in_cycle config memory word
  goes_on word = cond-false (is_room_needed memory) (room_made config memory word) (next_in_cycle config memory word) no_room_needed

  pub marks : memory Phase ≡ idle_phase → collected config memory ≡ init_marked config memory
  marks zero_phase = fun_ext (λ word. goes_on word
      ∙ cond-true (memory Phase == idle_phase) (init_marked config memory word) (if memory Phase == marking_phase then evac_next config memory word else (if memory Phase == evacuation_phase then init_updated config memory word else final_updated config memory word)) (eq-eqb (memory Phase) 0 zero_phase))

  pub later : memory Phase ≢ idle_phase → memory Phase ≢ marking_phase → (word : Word) → collected config memory word ≡ (if memory Phase == evacuation_phase then init_updated config memory word else final_updated config memory word)
  later not_idle not_marking word = goes_on word
      ∙ cond-false (memory Phase == idle_phase) (init_marked config memory word) (if memory Phase == marking_phase then evac_next config memory word else (if memory Phase == evacuation_phase then init_updated config memory word else final_updated config memory word)) (ne_eqb (memory Phase) 0 not_idle)
      ∙ cond-false (memory Phase == marking_phase) (evac_next config memory word) (if memory Phase == evacuation_phase then init_updated config memory word else final_updated config memory word) (ne_eqb (memory Phase) 1 not_marking)

  pub begins_updating : memory Phase ≢ idle_phase → memory Phase ≢ marking_phase → (memory Phase == evacuation_phase) ≡ true → collected config memory ≡ init_updated config memory
  begins_updating not_idle not_marking phase_two = fun_ext (λ word. later not_idle not_marking word ∙ cond-true (memory Phase == evacuation_phase) (init_updated config memory word) (final_updated config memory word) phase_two)

  pub ends_updating : memory Phase ≢ idle_phase → memory Phase ≢ marking_phase → (memory Phase == evacuation_phase) ≡ false → collected config memory ≡ final_updated config memory
  ends_updating not_idle not_marking other_phase = fun_ext (λ word. later not_idle not_marking word ∙ cond-false (memory Phase == evacuation_phase) (init_updated config memory word) (final_updated config memory word) other_phase)

-- what is made of both alike
made_as : (inside : Word → Bool) (whole_memory whole_result part_result second_whole second_part : Word → ℕ) → whole_result ≡ second_whole → part_result ≡ second_part → IsMadeOfPart inside whole_memory second_whole second_part → IsMadeOfPart inside whole_memory whole_result part_result
made_as inside whole_memory memory made_of_part second_whole second_part same_whole same_part second_made = subst (λ second_made. IsMadeOfPart inside whole_memory second_made made_of_part) (sym same_whole) (subst (λ part_made. IsMadeOfPart inside whole_memory second_whole part_made) (sym same_part) second_made)

pub begins : (config : Config) (whole_memory part_memory : Word → ℕ) → IsPartOf is_off_heap whole_memory part_memory → is_room_needed part_memory ≡ false → part_memory Phase ≡ idle_phase → IsMadeOfPart is_off_heap whole_memory (collected config whole_memory) (collected config part_memory)
begins config whole_memory part_memory part_of no_room_needed zero_phase =
    let calm_whole : is_room_needed whole_memory ≡ false = need_same whole_memory part_memory (part_of.same Ask refl) (part_of.same Phase refl) (part_of.same Evac refl) ∙ no_room_needed in
    made_as is_off_heap whole_memory (collected config whole_memory) (collected config part_memory) (init_marked config whole_memory) (init_marked config part_memory)
    (marks config whole_memory calm_whole (part_of.same Phase refl ∙ zero_phase)) (marks config part_memory no_room_needed zero_phase) (init_marked_made config whole_memory part_memory part_of)

pub updates : (config : Config) (whole_memory part_memory : Word → ℕ) → IsPartOf is_ahead whole_memory part_memory → is_room_needed part_memory ≡ false → part_memory Phase ≢ idle_phase → part_memory Phase ≢ marking_phase → IsMadeOfPart is_ahead whole_memory (collected config whole_memory) (collected config part_memory)
updates config whole_memory part_memory part_of no_room_needed not_idle not_marking =
    let phase : whole_memory Phase ≡ part_memory Phase = part_of.same Phase refl in
    let calm_whole : is_room_needed whole_memory ≡ false = need_same whole_memory part_memory (part_of.same Ask refl) phase (part_of.same Evac refl) ∙ no_room_needed in
    let whole_not_idle : whole_memory Phase ≢ idle_phase = λ in_phase. not_idle (sym phase ∙ in_phase) in
    let whole_not_marking : whole_memory Phase ≢ marking_phase = λ in_phase. not_marking (sym phase ∙ in_phase) in
    ⊎_elim
    (λ (phase_two : (part_memory Phase == evacuation_phase) ≡ true). made_as is_ahead whole_memory (collected config whole_memory) (collected config part_memory) (init_updated config whole_memory) (init_updated config part_memory)
    (begins_updating config whole_memory calm_whole whole_not_idle whole_not_marking (ap (λ phase_value. phase_value == 2) phase ∙ phase_two)) (begins_updating config part_memory no_room_needed not_idle not_marking phase_two) (init_updated_made config whole_memory part_memory part_of))
    (λ (other_phase : (part_memory Phase == evacuation_phase) ≡ false). made_as is_ahead whole_memory (collected config whole_memory) (collected config part_memory) (final_updated config whole_memory) (final_updated config part_memory)
    (ends_updating config whole_memory calm_whole whole_not_idle whole_not_marking (ap (λ phase_value. phase_value == 2) phase ∙ other_phase)) (ends_updating config part_memory no_room_needed not_idle not_marking other_phase) (final_updated_made config whole_memory part_memory part_of))
    (cases_Bool (part_memory Phase == evacuation_phase))

pub collects_by_part : CollectsByPart
collects_by_part = record { begins = begins; updates = updates }
