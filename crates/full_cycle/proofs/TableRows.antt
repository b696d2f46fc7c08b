-- Rows of the table that a step of a full collection changes.
use Rattle.std.proofs.Common.{◌≡◌, ℕ, ◌<◌, ◌≤◌, List, refl, ap, ◌∙◌, arith}
use Rattle.std.proofs.Math.Path.{fun_ext}
use Rattle.heap_words.specs.declared.config.Config.{Config}
use Rattle.heap_words.specs.Words.{Word, Pause, Left, End, State, Phase, Cset, Free, Evac, Claim, Ask, Top, Tams, Limit, Current, Root, Count, Buffer, Wait, Answer, Grey, Black, Heap, Share, Pin, IsWord, word_at, view, write, heap_start}
use Rattle.full_cycle.specs.Steps.{renewed_by, roots_renewed, calm, IsChanged}
use Rattle.full_cycle.proofs.Rows.{hit, miss}

module _ (config : Config) (old first_done second_done third_done fourth_done all_done : List ℕ)
    (first_cleared : IsChanged (word_at config Phase) (word_at config Free) (λ word. 0) old first_done)
    (second_cleared : IsChanged (word_at config Evac) (word_at config (Top 0)) (λ word. 0) first_done second_done)
    (third_cleared : IsChanged (word_at config (Tams 0)) (word_at config (Root 0 0)) (λ word. 0) second_done third_done)
    (fourth_cleared : IsChanged (word_at config (Count 0)) (word_at config (Buffer 0 0)) (λ word. 0) third_done fourth_done)
    (fifth_cleared : IsChanged (word_at config (Grey 0)) (heap_start config) (λ word. 0) fourth_done all_done) where
  phase_hit : (word : Word) → (IsWord config word → (word_at config Phase ≤ word_at config word) × (word_at config word < word_at config Free)) → view config first_done word ≡ 0
  phase_hit asked_word inside = hit config (word_at config Phase) (word_at config Free) (λ word. 0) old first_done first_cleared asked_word refl inside

  phase_miss : (word : Word) → (IsWord config word → word_at config Phase ≤ word_at config word → word_at config word < word_at config Free → ⊥) → view config first_done word ≡ view config old word
  phase_miss asked_word outside = miss config (word_at config Phase) (word_at config Free) (λ word. 0) old first_done first_cleared asked_word outside

  evac_hit : (word : Word) → (IsWord config word → (word_at config Evac ≤ word_at config word) × (word_at config word < word_at config (Top 0))) → view config second_done word ≡ 0
  evac_hit asked_word inside = hit config (word_at config Evac) (word_at config (Top 0)) (λ word. 0) first_done second_done second_cleared asked_word refl inside

  evac_miss : (word : Word) → (IsWord config word → word_at config Evac ≤ word_at config word → word_at config word < word_at config (Top 0) → ⊥) → view config second_done word ≡ view config first_done word
  evac_miss asked_word outside = miss config (word_at config Evac) (word_at config (Top 0)) (λ word. 0) first_done second_done second_cleared asked_word outside

  tams_hit : (word : Word) → (IsWord config word → (word_at config (Tams 0) ≤ word_at config word) × (word_at config word < word_at config (Root 0 0))) → view config third_done word ≡ 0
  tams_hit asked_word inside = hit config (word_at config (Tams 0)) (word_at config (Root 0 0)) (λ word. 0) second_done third_done third_cleared asked_word refl inside

  tams_miss : (word : Word) → (IsWord config word → word_at config (Tams 0) ≤ word_at config word → word_at config word < word_at config (Root 0 0) → ⊥) → view config third_done word ≡ view config second_done word
  tams_miss asked_word outside = miss config (word_at config (Tams 0)) (word_at config (Root 0 0)) (λ word. 0) second_done third_done third_cleared asked_word outside

  count_hit : (word : Word) → (IsWord config word → (word_at config (Count 0) ≤ word_at config word) × (word_at config word < word_at config (Buffer 0 0))) → view config fourth_done word ≡ 0
  count_hit asked_word inside = hit config (word_at config (Count 0)) (word_at config (Buffer 0 0)) (λ word. 0) third_done fourth_done fourth_cleared asked_word refl inside

  count_miss : (word : Word) → (IsWord config word → word_at config (Count 0) ≤ word_at config word → word_at config word < word_at config (Buffer 0 0) → ⊥) → view config fourth_done word ≡ view config third_done word
  count_miss asked_word outside = miss config (word_at config (Count 0)) (word_at config (Buffer 0 0)) (λ word. 0) third_done fourth_done fourth_cleared asked_word outside

  bits_hit : (word : Word) → (IsWord config word → (word_at config (Grey 0) ≤ word_at config word) × (word_at config word < heap_start config)) → view config all_done word ≡ 0
  bits_hit asked_word inside = hit config (word_at config (Grey 0)) (heap_start config) (λ word. 0) fourth_done all_done fifth_cleared asked_word refl inside

  bits_miss : (word : Word) → (IsWord config word → word_at config (Grey 0) ≤ word_at config word → word_at config word < heap_start config → ⊥) → view config all_done word ≡ view config fourth_done word
  bits_miss asked_word outside = miss config (word_at config (Grey 0)) (heap_start config) (λ word. 0) fourth_done all_done fifth_cleared asked_word outside

  calm_at : (word : Word) → write (view config all_done) Share 0 word ≡ calm (view config old) word
  calm_at Share = refl
  calm_at Pause = bits_miss Pause (λ real_word low high. omega (arith, real_word, low, high)) ∙ count_miss Pause (λ real_word low high. omega (arith, real_word, low, high)) ∙ tams_miss Pause (λ real_word low high. omega (arith, real_word, low, high)) ∙ evac_miss Pause (λ real_word low high. omega (arith, real_word, low, high)) ∙ phase_miss Pause (λ real_word low high. omega (arith, real_word, low, high))
  calm_at Left = bits_miss Left (λ real_word low high. omega (arith, real_word, low, high)) ∙ count_miss Left (λ real_word low high. omega (arith, real_word, low, high)) ∙ tams_miss Left (λ real_word low high. omega (arith, real_word, low, high)) ∙ evac_miss Left (λ real_word low high. omega (arith, real_word, low, high)) ∙ phase_miss Left (λ real_word low high. omega (arith, real_word, low, high))
  calm_at End = bits_miss End (λ real_word low high. omega (arith, real_word, low, high)) ∙ count_miss End (λ real_word low high. omega (arith, real_word, low, high)) ∙ tams_miss End (λ real_word low high. omega (arith, real_word, low, high)) ∙ evac_miss End (λ real_word low high. omega (arith, real_word, low, high)) ∙ phase_miss End (λ real_word low high. omega (arith, real_word, low, high))
  calm_at (State seat) = bits_miss (State seat) (λ real_word low high. omega (arith, real_word, low, high)) ∙ count_miss (State seat) (λ real_word low high. omega (arith, real_word, low, high)) ∙ tams_miss (State seat) (λ real_word low high. omega (arith, real_word, low, high)) ∙ evac_miss (State seat) (λ real_word low high. omega (arith, real_word, low, high)) ∙ phase_miss (State seat) (λ real_word low high. omega (arith, real_word, low, high))
  calm_at Phase = bits_miss Phase (λ real_word low high. omega (arith, real_word, low, high)) ∙ count_miss Phase (λ real_word low high. omega (arith, real_word, low, high)) ∙ tams_miss Phase (λ real_word low high. omega (arith, real_word, low, high)) ∙ evac_miss Phase (λ real_word low high. omega (arith, real_word, low, high)) ∙ phase_hit Phase (λ real_word. (omega (arith, real_word), omega (arith, real_word)))
  calm_at Cset = bits_miss Cset (λ real_word low high. omega (arith, real_word, low, high)) ∙ count_miss Cset (λ real_word low high. omega (arith, real_word, low, high)) ∙ tams_miss Cset (λ real_word low high. omega (arith, real_word, low, high)) ∙ evac_miss Cset (λ real_word low high. omega (arith, real_word, low, high)) ∙ phase_hit Cset (λ real_word. (omega (arith, real_word), omega (arith, real_word)))
  calm_at Free = bits_miss Free (λ real_word low high. omega (arith, real_word, low, high)) ∙ count_miss Free (λ real_word low high. omega (arith, real_word, low, high)) ∙ tams_miss Free (λ real_word low high. omega (arith, real_word, low, high)) ∙ evac_miss Free (λ real_word low high. omega (arith, real_word, low, high)) ∙ phase_miss Free (λ real_word low high. omega (arith, real_word, low, high))
  calm_at Evac = bits_miss Evac (λ real_word low high. omega (arith, real_word, low, high)) ∙ count_miss Evac (λ real_word low high. omega (arith, real_word, low, high)) ∙ tams_miss Evac (λ real_word low high. omega (arith, real_word, low, high)) ∙ evac_hit Evac (λ real_word. (omega (arith, real_word), omega (arith, real_word)))
  calm_at Claim = bits_miss Claim (λ real_word low high. omega (arith, real_word, low, high)) ∙ count_miss Claim (λ real_word low high. omega (arith, real_word, low, high)) ∙ tams_miss Claim (λ real_word low high. omega (arith, real_word, low, high)) ∙ evac_hit Claim (λ real_word. (omega (arith, real_word), omega (arith, real_word)))
  calm_at Ask = bits_miss Ask (λ real_word low high. omega (arith, real_word, low, high)) ∙ count_miss Ask (λ real_word low high. omega (arith, real_word, low, high)) ∙ tams_miss Ask (λ real_word low high. omega (arith, real_word, low, high)) ∙ evac_hit Ask (λ real_word. (omega (arith, real_word), omega (arith, real_word)))
  calm_at (Top region) = bits_miss (Top region) (λ real_word low high. omega (arith, real_word, low, high)) ∙ count_miss (Top region) (λ real_word low high. omega (arith, real_word, low, high)) ∙ tams_miss (Top region) (λ real_word low high. omega (arith, real_word, low, high)) ∙ evac_miss (Top region) (λ real_word low high. omega (arith, real_word, low, high)) ∙ phase_miss (Top region) (λ real_word low high. omega (arith, real_word, low, high))
  calm_at (Tams region) = bits_miss (Tams region) (λ real_word low high. omega (arith, real_word, low, high)) ∙ count_miss (Tams region) (λ real_word low high. omega (arith, real_word, low, high)) ∙ tams_hit (Tams region) (λ real_word. (omega (arith, real_word), omega (arith, real_word)))
  calm_at (Limit region) = bits_miss (Limit region) (λ real_word low high. omega (arith, real_word, low, high)) ∙ count_miss (Limit region) (λ real_word low high. omega (arith, real_word, low, high)) ∙ tams_hit (Limit region) (λ real_word. (omega (arith, real_word), omega (arith, real_word)))
  calm_at (Current seat) = bits_miss (Current seat) (λ real_word low high. omega (arith, real_word, low, high)) ∙ count_miss (Current seat) (λ real_word low high. omega (arith, real_word, low, high)) ∙ tams_hit (Current seat) (λ real_word. (omega (arith, real_word), omega (arith, real_word)))
  calm_at (Root mutator index) = bits_miss (Root mutator index) (λ real_word low high. omega (arith, real_word, low, high)) ∙ count_miss (Root mutator index) (λ real_word low high. omega (arith, real_word, low, high)) ∙ tams_miss (Root mutator index) (λ real_word low high. omega (arith, real_word, low, high)) ∙ evac_miss (Root mutator index) (λ real_word low high. omega (arith, real_word, low, high)) ∙ phase_miss (Root mutator index) (λ real_word low high. omega (arith, real_word, low, high))
  calm_at (Count mutator) = bits_miss (Count mutator) (λ real_word low high. omega (arith, real_word, low, high)) ∙ count_hit (Count mutator) (λ real_word. (omega (arith, real_word), omega (arith, real_word)))
  calm_at (Buffer mutator entry) = bits_miss (Buffer mutator entry) (λ real_word low high. omega (arith, real_word, low, high)) ∙ count_miss (Buffer mutator entry) (λ real_word low high. omega (arith, real_word, low, high)) ∙ tams_miss (Buffer mutator entry) (λ real_word low high. omega (arith, real_word, low, high)) ∙ evac_miss (Buffer mutator entry) (λ real_word low high. omega (arith, real_word, low, high)) ∙ phase_miss (Buffer mutator entry) (λ real_word low high. omega (arith, real_word, low, high))
  calm_at (Wait mutator) = bits_miss (Wait mutator) (λ real_word low high. omega (arith, real_word, low, high)) ∙ count_miss (Wait mutator) (λ real_word low high. omega (arith, real_word, low, high)) ∙ tams_miss (Wait mutator) (λ real_word low high. omega (arith, real_word, low, high)) ∙ evac_miss (Wait mutator) (λ real_word low high. omega (arith, real_word, low, high)) ∙ phase_miss (Wait mutator) (λ real_word low high. omega (arith, real_word, low, high))
  calm_at (Answer mutator) = bits_miss (Answer mutator) (λ real_word low high. omega (arith, real_word, low, high)) ∙ count_miss (Answer mutator) (λ real_word low high. omega (arith, real_word, low, high)) ∙ tams_miss (Answer mutator) (λ real_word low high. omega (arith, real_word, low, high)) ∙ evac_miss (Answer mutator) (λ real_word low high. omega (arith, real_word, low, high)) ∙ phase_miss (Answer mutator) (λ real_word low high. omega (arith, real_word, low, high))
  calm_at (Grey number) = bits_hit (Grey number) (λ real_word. (omega (arith, real_word), omega (arith, real_word)))
  calm_at (Black number) = bits_hit (Black number) (λ real_word. (omega (arith, real_word), omega (arith, real_word)))
  calm_at (Heap address) = bits_miss (Heap address) (λ real_word low high. omega (arith, real_word, low, high)) ∙ count_miss (Heap address) (λ real_word low high. omega (arith, real_word, low, high)) ∙ tams_miss (Heap address) (λ real_word low high. omega (arith, real_word, low, high)) ∙ evac_miss (Heap address) (λ real_word low high. omega (arith, real_word, low, high)) ∙ phase_miss (Heap address) (λ real_word low high. omega (arith, real_word, low, high))
  calm_at (Pin mutator slot) = bits_miss (Pin mutator slot) (λ real_word low high. omega (arith, real_word, low, high)) ∙ count_miss (Pin mutator slot) (λ real_word low high. omega (arith, real_word, low, high)) ∙ tams_miss (Pin mutator slot) (λ real_word low high. omega (arith, real_word, low, high)) ∙ evac_miss (Pin mutator slot) (λ real_word low high. omega (arith, real_word, low, high)) ∙ phase_miss (Pin mutator slot) (λ real_word low high. omega (arith, real_word, low, high))

  -- once five ranges are cleared, and no region is shared, nothing is left of a collection in progress
  pub calmed : write (view config all_done) Share 0 ≡ calm (view config old)
  calmed = fun_ext calm_at

module _ (config : Config) (places old first_done second_done : List ℕ)
    (first_cleared : IsChanged (word_at config (Root 0 0)) (word_at config (Count 0)) (renewed_by config.region_words places) old first_done)
    (second_cleared : IsChanged (word_at config (Answer 0)) (word_at config (Grey 0)) (renewed_by config.region_words places) first_done second_done) where
  root_hit : (word : Word) → (IsWord config word → (word_at config (Root 0 0) ≤ word_at config word) × (word_at config word < word_at config (Count 0))) → view config first_done word ≡ renewed_by config.region_words places (view config old word)
  root_hit word inside = hit config (word_at config (Root 0 0)) (word_at config (Count 0)) (renewed_by config.region_words places) old first_done first_cleared word refl inside

  root_miss : (word : Word) → (IsWord config word → word_at config (Root 0 0) ≤ word_at config word → word_at config word < word_at config (Count 0) → ⊥) → view config first_done word ≡ view config old word
  root_miss word outside = miss config (word_at config (Root 0 0)) (word_at config (Count 0)) (renewed_by config.region_words places) old first_done first_cleared word outside

  answer_hit : (word : Word) → (IsWord config word → (word_at config (Answer 0) ≤ word_at config word) × (word_at config word < word_at config (Grey 0))) → view config second_done word ≡ renewed_by config.region_words places (view config first_done word)
  answer_hit word inside = hit config (word_at config (Answer 0)) (word_at config (Grey 0)) (renewed_by config.region_words places) first_done second_done second_cleared word refl inside

  answer_miss : (word : Word) → (IsWord config word → word_at config (Answer 0) ≤ word_at config word → word_at config word < word_at config (Grey 0) → ⊥) → view config second_done word ≡ view config first_done word
  answer_miss word outside = miss config (word_at config (Answer 0)) (word_at config (Grey 0)) (renewed_by config.region_words places) first_done second_done second_cleared word outside

  renewed_at : (word : Word) → view config second_done word ≡ roots_renewed config places (view config old) word
  renewed_at Share = answer_miss Share (λ real_word low high. omega (arith, real_word, low, high)) ∙ root_miss Share (λ real_word low high. omega (arith, real_word, low, high))
  renewed_at Pause = answer_miss Pause (λ real_word low high. omega (arith, real_word, low, high)) ∙ root_miss Pause (λ real_word low high. omega (arith, real_word, low, high))
  renewed_at Left = answer_miss Left (λ real_word low high. omega (arith, real_word, low, high)) ∙ root_miss Left (λ real_word low high. omega (arith, real_word, low, high))
  renewed_at End = answer_miss End (λ real_word low high. omega (arith, real_word, low, high)) ∙ root_miss End (λ real_word low high. omega (arith, real_word, low, high))
  renewed_at (State seat) = answer_miss (State seat) (λ real_word low high. omega (arith, real_word, low, high)) ∙ root_miss (State seat) (λ real_word low high. omega (arith, real_word, low, high))
  renewed_at Phase = answer_miss Phase (λ real_word low high. omega (arith, real_word, low, high)) ∙ root_miss Phase (λ real_word low high. omega (arith, real_word, low, high))
  renewed_at Cset = answer_miss Cset (λ real_word low high. omega (arith, real_word, low, high)) ∙ root_miss Cset (λ real_word low high. omega (arith, real_word, low, high))
  renewed_at Free = answer_miss Free (λ real_word low high. omega (arith, real_word, low, high)) ∙ root_miss Free (λ real_word low high. omega (arith, real_word, low, high))
  renewed_at Evac = answer_miss Evac (λ real_word low high. omega (arith, real_word, low, high)) ∙ root_miss Evac (λ real_word low high. omega (arith, real_word, low, high))
  renewed_at Claim = answer_miss Claim (λ real_word low high. omega (arith, real_word, low, high)) ∙ root_miss Claim (λ real_word low high. omega (arith, real_word, low, high))
  renewed_at Ask = answer_miss Ask (λ real_word low high. omega (arith, real_word, low, high)) ∙ root_miss Ask (λ real_word low high. omega (arith, real_word, low, high))
  renewed_at (Top region) = answer_miss (Top region) (λ real_word low high. omega (arith, real_word, low, high)) ∙ root_miss (Top region) (λ real_word low high. omega (arith, real_word, low, high))
  renewed_at (Tams region) = answer_miss (Tams region) (λ real_word low high. omega (arith, real_word, low, high)) ∙ root_miss (Tams region) (λ real_word low high. omega (arith, real_word, low, high))
  renewed_at (Limit region) = answer_miss (Limit region) (λ real_word low high. omega (arith, real_word, low, high)) ∙ root_miss (Limit region) (λ real_word low high. omega (arith, real_word, low, high))
  renewed_at (Current seat) = answer_miss (Current seat) (λ real_word low high. omega (arith, real_word, low, high)) ∙ root_miss (Current seat) (λ real_word low high. omega (arith, real_word, low, high))
  renewed_at (Root mutator index) = answer_miss (Root mutator index) (λ real_word low high. omega (arith, real_word, low, high)) ∙ root_hit (Root mutator index) (λ real_word. (omega (arith, real_word), omega (arith, real_word)))
  renewed_at (Count mutator) = answer_miss (Count mutator) (λ real_word low high. omega (arith, real_word, low, high)) ∙ root_miss (Count mutator) (λ real_word low high. omega (arith, real_word, low, high))
  renewed_at (Buffer mutator entry) = answer_miss (Buffer mutator entry) (λ real_word low high. omega (arith, real_word, low, high)) ∙ root_miss (Buffer mutator entry) (λ real_word low high. omega (arith, real_word, low, high))
  renewed_at (Wait mutator) = answer_miss (Wait mutator) (λ real_word low high. omega (arith, real_word, low, high)) ∙ root_miss (Wait mutator) (λ real_word low high. omega (arith, real_word, low, high))
  renewed_at (Answer mutator) = answer_hit (Answer mutator) (λ real_word. (omega (arith, real_word), omega (arith, real_word))) ∙ ap (renewed_by config.region_words places) (root_miss (Answer mutator) (λ real_word low high. omega (arith, real_word, low, high)))
  renewed_at (Grey number) = answer_miss (Grey number) (λ real_word low high. omega (arith, real_word, low, high)) ∙ root_miss (Grey number) (λ real_word low high. omega (arith, real_word, low, high))
  renewed_at (Black number) = answer_miss (Black number) (λ real_word low high. omega (arith, real_word, low, high)) ∙ root_miss (Black number) (λ real_word low high. omega (arith, real_word, low, high))
  renewed_at (Heap address) = answer_miss (Heap address) (λ real_word low high. omega (arith, real_word, low, high)) ∙ root_miss (Heap address) (λ real_word low high. omega (arith, real_word, low, high))
  renewed_at (Pin mutator slot) = answer_miss (Pin mutator slot) (λ real_word low high. omega (arith, real_word, low, high)) ∙ root_miss (Pin mutator slot) (λ real_word low high. omega (arith, real_word, low, high))

  -- once two ranges are renewed, roots and answers are
  pub roots_are_renewed : view config second_done ≡ roots_renewed config places (view config old)
  roots_are_renewed = fun_ext renewed_at
