-- Answers before an access and after it, of a machine of any role: those of the table, and those that count.
use Rattle.std.proofs.Common.{◌≡◌, ℕ, ◌+◌, ◌⊎◌, inl, inr, ⊎_elim, true, false, List, length, Option, Some, None, refl, sym, ap, ◌∙◌}
use Rattle.std.specs.Prelude.{nat_le, if◌then◌else◌}
use Rattle.std.proofs.lemmas.Bool.{cases_Bool, cond-false, false≢true}
use Rattle.heap_words.specs.declared.config.Config.{Config}
use Rattle.heap_words.specs.Encoding.{object_words}
use Rattle.heap_words.specs.Words.{Word, Answer, Heap, is_word, is_image, same_word, view, table_words}
use Rattle.heap_words.proofs.Stores.{same_word_true}
use Rattle.heap_words.specs.Touch.{Touch, touched}
use Rattle.heap_world.specs.World.{World}
use Rattle.heap_world.specs.Rely.{Rely}
use Rattle.collector_rows.specs.Extent.{Counting}
use Rattle.step_core.specs.Settled.{settled_by}
use Rattle.step_core.proofs.Machines.Owed.{words_promised}
use Rattle.step_core.proofs.Control.Images.{words_after, view-placed}
use Rattle.step_core.proofs.Machines.Roles.{CountsTheSame}

-- an access of a word outside the image leaves the words of the image
pub touched_image : (memory : Word → ℕ) (touch : Touch) (word : Word) → is_image touch.word ≡ false → is_image word ≡ true → touched memory touch word ≡ memory word
touched_image memory touch word outside in_image = cond-false (same_word touch.word word) _ _ (⊎_elim
    (λ (same_name : same_word touch.word word ≡ true). absurd (false≢true (sym outside ∙ ap is_image (same_word_true touch.word word same_name) ∙ in_image)))
    (λ (names_differ : same_word touch.word word ≡ false). names_differ)
    (cases_Bool (same_word touch.word word)))

-- and so what is promised
touched_promises : (memory : Word → ℕ) (touch : Touch) (mutator : ℕ) → is_image touch.word ≡ false → words_promised (touched memory touch) mutator ≡ words_promised memory mutator
touched_promises memory touch mutator outside =
    ap (λ value. if nat_le value 1 then 0 else object_words (touched memory touch (Heap (value + 1)))) (touched_image memory touch (Answer mutator) outside refl)
    ∙ ap (λ value. if nat_le (memory (Answer mutator)) 1 then 0 else object_words value) (touched_image memory touch (Heap (memory (Answer mutator) + 1)) outside refl)

module _ (config : Config) (words : List ℕ) (found : Option Counting) (touch : Touch) (world next_world : World) (memory_before : world.memory ≡ settled_by config words found) (memory_after : next_world.memory ≡ touched world.memory touch) (words_long : length words ≡ table_words config)
    (word_is : is_word config touch.word ≡ true) where
  abbrev words_then : List ℕ
  words_then = words_after config words touch

  -- where no image counts, the table does
  pub whole_before : found ≡ None → (mutator : ℕ) → view config words (Answer mutator) ≡ world.memory (Answer mutator)
  whole_before no_image mutator = ap (λ image. settled_by config words image (Answer mutator)) (sym no_image) ∙ ap (λ memory. memory (Answer mutator)) (sym memory_before)

  -- and it does then
  pub whole_then : found ≡ None → (mutator : ℕ) → view config words_then (Answer mutator) ≡ next_world.memory (Answer mutator)
  whole_then no_image mutator =
      ap (λ memory. memory (Answer mutator))
      (view-placed config words touch word_is words_long ∙ ap (λ image. touched (settled_by config words image) touch) (sym no_image) ∙ ap (λ memory. touched memory touch) (sym memory_before) ∙ sym memory_after)

  -- while one counts, the table's answers stay
  pub raw_stays : is_image touch.word ≡ false → (mutator : ℕ) → view config words_then (Answer mutator) ≡ view config words (Answer mutator)
  raw_stays outside mutator = ap (λ memory. memory (Answer mutator)) (view-placed config words touch word_is words_long) ∙ touched_image (view config words) touch (Answer mutator) outside refl

  -- so do those that count
  pub now_stays : is_image touch.word ≡ false → (mutator : ℕ) → next_world.memory (Answer mutator) ≡ world.memory (Answer mutator)
  now_stays outside mutator = ap (λ memory. memory (Answer mutator)) memory_after ∙ touched_image world.memory touch (Answer mutator) outside refl

  -- and nothing changes by which crowding is measured
  pub counts_same : next_world.graph ≡ world.graph → is_image touch.word ≡ false → CountsTheSame world next_world
  counts_same same_graph outside = record { graph = same_graph; promised = λ mutator. ap (λ memory. words_promised memory mutator) memory_after ∙ touched_promises world.memory touch mutator outside }

  module _ (outside_image : (image : Counting) → found ≡ Some image → is_image touch.word ≡ false) where
    -- the answer in the table of a machine that can rely on the step
    pub other_raw : (held_image : Option Counting) → found ≡ held_image → (mutator : ℕ) → Rely config mutator world next_world → view config words_then (Answer mutator) ≡ view config words (Answer mutator)
    other_raw None found_is mutator rely = whole_then found_is mutator ∙ rely.answer ∙ sym (whole_before found_is mutator)
    other_raw (Some image) is_held mutator rely = raw_stays (outside_image image is_held) mutator

    -- that is the answer that counts, or nothing changes by which crowding is measured
    pub other_counts : ((image : Counting) → found ≡ Some image → next_world.graph ≡ world.graph) → (held_image : Option Counting) → found ≡ held_image → (mutator : ℕ) → (view config words (Answer mutator) ≡ world.memory (Answer mutator)) ⊎ CountsTheSame world next_world
    other_counts same_graph None found_is mutator = inl (whole_before found_is mutator)
    other_counts same_graph (Some image) is_held mutator = inr (counts_same (same_graph image is_held) (outside_image image is_held))
