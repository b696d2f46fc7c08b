-- Ranges of places that were changed, by the names of words.
use Rattle.std.proofs.Common.{◌≡◌, ℕ, ◌<◌, ◌≤◌, ◌&&◌, true, false, nat_le, nat_lt, List, ⊎_elim, sym, ap, ◌∙◌}
use Rattle.std.proofs.lemmas.Bool.{cond-true, cond-false, cases_Bool, and_from, and_parts, le-leb, lt-ltb, leb-true, ltb-true}
use Rattle.heap_words.specs.declared.config.Config.{Config}
use Rattle.heap_words.specs.Words.{Word, IsWord, is_word, word_at, view}
use Rattle.heap_words.proofs.Stores.{is_word_true, view_word, view_none}
use Rattle.full_cycle.specs.Steps.{IsChanged}

module _ (config : Config) (from end : ℕ) (change : ℕ → ℕ) (before after : List ℕ) (changed : IsChanged from end change before after) where
  -- words of the range are changed
  pub hit : (word : Word) → change 0 ≡ 0 → (IsWord config word → (from ≤ word_at config word) × (word_at config word < end)) → view config after word ≡ change (view config before word)
  hit asked_word zero_stays inside = ⊎_elim
      (λ (real_word : is_word config asked_word ≡ true).
      let word = is_word_true config asked_word real_word in
      let range = inside word in
      view_word config after asked_word word ∙ changed (word_at config asked_word)
      ∙ cond-true (nat_le from (word_at config asked_word) && nat_lt (word_at config asked_word) end) _ _ (and_from (nat_le from (word_at config asked_word)) (nat_lt (word_at config asked_word) end) (le-leb _ _ range.0) (lt-ltb _ _ range.1))
      ∙ ap change (sym (view_word config before asked_word word)))
      (λ (not_word : is_word config asked_word ≡ false). view_none config after asked_word not_word ∙ sym zero_stays ∙ ap change (sym (view_none config before asked_word not_word)))
      (cases_Bool (is_word config asked_word))

  -- and no others
  pub miss : (word : Word) → (IsWord config word → from ≤ word_at config word → word_at config word < end → ⊥) → view config after word ≡ view config before word
  miss asked_word outside = ⊎_elim
      (λ (real_word : is_word config asked_word ≡ true).
      let word = is_word_true config asked_word real_word in
      view_word config after asked_word word ∙ changed (word_at config asked_word)
      ∙ ⊎_elim
      (λ (within : (nat_le from (word_at config asked_word) && nat_lt (word_at config asked_word) end) ≡ true).
      let range = and_parts (nat_le from (word_at config asked_word)) (nat_lt (word_at config asked_word) end) within in
      absurd (outside word (leb-true _ _ range.0) (ltb-true _ _ range.1)))
      (λ (outside_range : (nat_le from (word_at config asked_word) && nat_lt (word_at config asked_word) end) ≡ false). cond-false (nat_le from (word_at config asked_word) && nat_lt (word_at config asked_word) end) _ _ outside_range)
      (cases_Bool (nat_le from (word_at config asked_word) && nat_lt (word_at config asked_word) end))
      ∙ sym (view_word config before asked_word word))
      (λ (not_word : is_word config asked_word ≡ false). view_none config after asked_word not_word ∙ sym (view_none config before asked_word not_word))
      (cases_Bool (is_word config asked_word))
