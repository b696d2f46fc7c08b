-- The end of updating frees the collection set and no other region.
use Rattle.std.proofs.Common.{◌≡◌, ℕ, true, false, inl, inr, ⊎_elim, sym, ◌∙◌}
use Rattle.std.specs.Int.{bit_at}
use Rattle.std.proofs.lemmas.Bool.{eq-eqb, eqb-true, ne_eqb, true≢false}
use Rattle.heap_words.specs.Words.{Word, Cset, Free}
use Rattle.regions.specs.Sets.{IsIn}
use Rattle.cycle_words.proofs.Marking.Vanished.{free_was, free_is, top_out, top_stays, tams_out, tams_stays, limit_out, limit_stays}
use Rattle.cycle_words.specs.Updating.Changes.{is_chosen}
use Rattle.cycle_pauses.specs.Updating.Laws.{SetIsFreed}

-- a region is chosen where it is in the set
pub chosen_if : (memory : Word → ℕ) (region : ℕ) → IsIn (memory Cset) region → is_chosen memory region ≡ true
chosen_if memory region set_has = eq-eqb (bit_at (memory Cset) region) 1 set_has

pub spared_if : (memory : Word → ℕ) (region : ℕ) → (IsIn (memory Cset) region → ⊥) → is_chosen memory region ≡ false
spared_if memory region away = ne_eqb (bit_at (memory Cset) region) 1 away

pub not_in_set : (memory : Word → ℕ) (region : ℕ) → is_chosen memory region ≡ false → IsIn (memory Cset) region → ⊥
not_in_set memory region spared set_has = true≢false (sym (chosen_if memory region set_has) ∙ spared)

pub in_set : (memory : Word → ℕ) (region : ℕ) → is_chosen memory region ≡ true → IsIn (memory Cset) region
in_set memory region chosen = eqb-true (bit_at (memory Cset) region) 1 chosen

pub set_is_freed : SetIsFreed
set_is_freed = record {
  chosen_ones = λ config memory region region_below set_has.
      let region_gone = chosen_if memory region set_has in
      record {
        is_free = free_is config (is_chosen memory) memory region region_below (inr region_gone);
        top = top_out config (is_chosen memory) memory region region_gone;
        tams = tams_out config (is_chosen memory) memory region region_gone;
        limit = limit_out config (is_chosen memory) memory region region_gone;
      };
  others = λ config memory region region_below away.
      let spared = spared_if memory region away in
      record {
        was_free = λ now_free. ⊎_elim
            (λ (was_free : IsIn (memory Free) region). was_free)
            (λ (region_gone : is_chosen memory region ≡ true). absurd (away (in_set memory region region_gone)))
            (free_was config (is_chosen memory) memory region region_below now_free);
        still_free = λ now_free. free_is config (is_chosen memory) memory region region_below (inl now_free);
        top = top_stays config (is_chosen memory) memory region spared;
        tams = tams_stays config (is_chosen memory) memory region spared;
        limit = limit_stays config (is_chosen memory) memory region spared;
      };
}
