-- What is known of an object that is kept, and of words that lead to one.
use Rattle.std.proofs.Common.{◌≡◌, ◌≢◌, ℕ, ◌+◌, ◌<◌, ◌≤◌, ◌==◌, true, false, map, ⊎_elim, sym, ap, ◌∙◌, arith}
use Rattle.std.specs.List.{range_with_len}
use Rattle.std.proofs.lemmas.Bool.{cond-true, cond-false, cases_Bool, ne_eqb}
use Rattle.heap_words.specs.declared.config.Config.{Config}
use Rattle.heap_words.specs.Words.{Word, Heap, IsWord}
use Rattle.heap_words.specs.Encoding.{refs_in, object_words}
use Rattle.heap_world.specs.Walk.{has, with_address, with_addresses}
use Rattle.image_graph.specs.Plot.{heap_end}
use Rattle.image_graph.specs.Full.{now_in, held_in, kept_in, copies_of}
use Rattle.image_graph.specs.declared.image.Image.{Image}
use Rattle.image_graph.specs.State.{memory_of, found_of, IsUnchanged}
use Rattle.full_cycle.specs.Collect.{current_address, CanCollect, LeadsToHeld}
use Rattle.image_graph.proofs.Same.{memory_same}
use Rattle.full_cycle.proofs.Listed.{noted_more}

pub kept_is : (config : Config) (memory : Word → ℕ) (address : ℕ) → 0 < kept_in config memory address → kept_in config memory address ≡ object_words (memory (Heap (address + 1)))
kept_is config memory address positive = ⊎_elim
    (λ (is_held : has (held_in config memory) address ≡ true). cond-true (has (held_in config memory) address) (object_words (memory (Heap (address + 1)))) 0 is_held)
    (λ (not_held : has (held_in config memory) address ≡ false). absurd (let none_kept : kept_in config memory address ≡ 0 = cond-false (has (held_in config memory) address) (object_words (memory (Heap (address + 1)))) 0 not_held in omega (arith, none_kept, positive)))
    (cases_Bool (has (held_in config memory) address))

module _ (config : Config) (memory : Word → ℕ) (can_collect : CanCollect config memory) where
  -- a kept object lies in the heap with its fields
  pub object_inside : (address : ℕ) → 0 < kept_in config memory address → (config.region_words ≤ address) × (address + 3 + refs_in (memory (Heap (address + 1))) ≤ heap_end config)
  object_inside address positive = (can_collect.apart.above address positive, omega (arith, can_collect.inside address positive, kept_is config memory address positive))

  pub field_word : (address offset : ℕ) → 0 < kept_in config memory address → offset < 3 + refs_in (memory (Heap (address + 1))) → IsWord config (Heap (address + offset))
  field_word address offset positive offset_below = let object_within = object_inside address positive in (omega (arith, object_within.0), omega (arith, object_within.1, offset_below))

  pub copy_inside : (word : ℕ) → word ≢ 0 → LeadsToHeld config memory word → IsWord config (Heap (now_in memory word))
  copy_inside word some_word leads =
      let led_to = leads some_word in
      let object_within = object_inside (now_in memory word) led_to.2 in
      (object_within.0, omega (arith, object_within.1))

pub copy_is : (memory : Word → ℕ) (word : ℕ) → word ≢ 0 → now_in memory word ≡ current_address memory word
copy_is memory word some_word = sym (cond-false (word == 0) 0 (now_in memory word) (ne_eqb word 0 some_word))

-- one word more was noted
pub noted_step : (old_image next_image last_image : Image) (f : ℕ → ℕ) (count word : ℕ) → IsUnchanged old_image next_image
    → found_of next_image ≡ with_addresses (found_of old_image) (copies_of (memory_of old_image) (map f (range_with_len 0 count)))
    → word ≡ f count → found_of last_image ≡ with_address (found_of next_image) (current_address (memory_of next_image) word)
    → found_of last_image ≡ with_addresses (found_of old_image) (copies_of (memory_of old_image) (map f (range_with_len 0 (count + 1))))
noted_step image other_image last_image f count word unchanged before word_is noted =
    noted
    ∙ ap (λ addresses. with_address addresses (current_address (memory_of other_image) word)) before
    ∙ ap (λ (memory : Word → ℕ). with_address (with_addresses (found_of image) (copies_of (memory_of image) (map f (range_with_len 0 count)))) (current_address memory word)) (memory_same image other_image unchanged)
    ∙ ap (λ own_word. with_address (with_addresses (found_of image) (copies_of (memory_of image) (map f (range_with_len 0 count)))) (current_address (memory_of image) own_word)) word_is
    ∙ noted_more (memory_of image) f count (found_of image)
