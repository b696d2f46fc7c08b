-- The words at a range of places, by their names; and sets of empty regions.
use Rattle.std.proofs.Common.{◌≡◌, ℕ, ◌+◌, ◌-◌, ◌*◌, ◌/◌, ◌%◌, ◌^◌, ◌<◌, ◌≤◌, ◌==◌, ◌&&◌, nat_le, nat_lt, cond, suc, List, get_or, refl, ap, ◌∙◌, subst, arith}
use Rattle.std.proofs.lemmas.Bool.Decides.{nat_tests}
use Rattle.heap_words.specs.declared.config.Config.{Config}
use Rattle.heap_words.specs.Words.{Root, Count, Answer, Grey, Wait, word_at, view}
use Rattle.heap_words.proofs.Stores.{view_word, view_none}
use Rattle.image_graph.specs.Full.{empty_regions}
use Rattle.image_graph.specs.Pinned.{set_of}
use Rattle.full_cycle.specs.Steps.{IsChanged}

pub changed_to : (start new_start end new_end : ℕ) (change : ℕ → ℕ) (before after : List ℕ) → start ≡ new_start → end ≡ new_end → IsChanged start end change before after → IsChanged new_start new_end change before after
changed_to start new_start end new_end change before after from same_end changed =
    subst (λ bound. IsChanged bound new_end change before after) from (subst (λ bound. IsChanged start bound change before after) same_end changed)

-- what holds of all roots holds of the words of their row
pub roots_row : (config : Config) (words : List ℕ) (P : ℕ → Type 0) → ((mutator index : ℕ) → mutator < config.mutators → index < 16 → P (view config words (Root mutator index)))
    → (place : ℕ) → word_at config (Root 0 0) ≤ place → place < word_at config (Count 0) → P (get_or words place 0)
roots_row config words P each_root row_place low high =
    let offset : ℕ = row_place - word_at config (Root 0 0) in
    let offset_is : word_at config (Root 0 0) + offset ≡ row_place = omega (arith, low) in
    let few : offset / 16 < config.mutators = omega (arith, high, offset_is) in
    let index : offset % 16 < 16 = omega arith in
    let word_there : word_at config (Root (offset / 16) (offset % 16)) ≡ row_place = omega (arith, offset_is) in
    subst P (view_word config words (Root (offset / 16) (offset % 16)) (few, index) ∙ ap (λ index. get_or words index 0) word_there) (each_root (offset / 16) (offset % 16) few index)

-- and of all answers
pub answers_row : (config : Config) (words : List ℕ) (P : ℕ → Type 0) → ((mutator : ℕ) → mutator < config.mutators → P (view config words (Answer mutator)))
    → (index : ℕ) → word_at config (Answer 0) ≤ index → index < word_at config (Grey 0) → P (get_or words index 0)
answers_row config words P each_answer index low high =
    let asked_mutator : ℕ = index - word_at config (Answer 0) in
    let place_is : word_at config (Answer 0) + asked_mutator ≡ index = omega (arith, low) in
    let few : asked_mutator < config.mutators = omega (arith, high, place_is) in
    let word_there : word_at config (Answer asked_mutator) ≡ index = omega (arith, place_is) in
    subst P (view_word config words (Answer asked_mutator) few ∙ ap (λ index. get_or words index 0) word_there) (each_answer asked_mutator few)

-- no word behind a range is changed
pub behind_range : (from end index : ℕ) (change : ℕ → ℕ) (before after : List ℕ) → IsChanged from end change before after → end ≤ index → get_or after index 0 ≡ get_or before index 0
behind_range from end index change before after changed behind_end = changed index ∙ outside (change (get_or before index 0)) (get_or before index 0)
  where
    outside : (changed_value old_value : ℕ) → cond (nat_le from index && nat_lt index end) changed_value old_value ≡ old_value
    outside changed_value old_value = grind (arith, nat_tests)

pub nobody_waits : (config : Config) (words : List ℕ) (mutator : ℕ) → config.mutators ≤ mutator → view config words (Wait mutator) ≡ 0
nobody_waits config words mutator no_mutator = view_none config words (Wait mutator) (grind (arith, nat_tests))

-- Empty regions.

pub empty_none : (top : ℕ → ℕ) → 0 ≡ empty_regions top 0
unfolding set_of
empty_none top = refl

pub empty_more : (top : ℕ → ℕ) (region new_bits free_bits edge : ℕ) → edge ≡ top region → new_bits ≡ cond (edge == 0) 1 0 * 2 ^ region → free_bits ≡ empty_regions top region → free_bits + new_bits ≡ empty_regions top (region + 1)
unfolding set_of
empty_more top region new_bits free_bits edge edge_is set_is free_is =
    let next_region : suc region ≡ region + 1 = omega arith in
    let new_bits_are : new_bits ≡ cond (top region == 0) 1 0 * 2 ^ region = set_is ∙ ap (λ limit. cond (limit == 0) 1 0 * 2 ^ region) edge_is in
    let step : empty_regions top (suc region) ≡ cond (top region == 0) 1 0 * 2 ^ region + empty_regions top region = refl in
    let sum : free_bits + new_bits ≡ empty_regions top (suc region) = omega (arith, new_bits_are, free_is, step) in
    sum ∙ ap (empty_regions top) next_region
