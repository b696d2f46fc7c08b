-- Settling buffers is made of each part of the words that has tops and the words of buffers, and no word of the heap.
use Rattle.std.proofs.Common.{◌≡◌, ◌≢◌, ℕ, ◌+◌, ◌-◌, Bool, true, false, zero, suc, ⊎_elim, sym, ap, ◌∙◌, subst, arith}
use Rattle.std.specs.Prelude.{◌==◌, ◌||◌, nat_lt, if◌then◌else◌}
use Rattle.std.proofs.lemmas.Bool.{cases_Bool, cond-true, cond-false, ne_eqb, false≢true}
use Rattle.heap_words.specs.declared.config.Config.{Config}
use Rattle.heap_words.specs.Ranges.{seat_count}
use Rattle.heap_words.specs.Words.{Word, Top, Current, Heap, same_word, write}
use Rattle.heap_words.specs.Encoding.{filler_header, next_in, end_in}
use Rattle.heap_words.proofs.Stores.{same_word_true}
use Rattle.regions.specs.Place.{base_of}
use Rattle.image_graph.specs.SeatBuffers.{buffer_region, filled_over}
use Rattle.image_graph.specs.Settled.{settled_at, settled_below, buffers_settled}
use Rattle.cycle_pauses.specs.Brief.{IsPartOf, IsMadeOfPart}

-- a word is made where it is written in both alike: it passes the test, or the value is not 0
module _ (inside : Word → Bool) (whole_memory : Word → ℕ) where
  abbrev Made : (made part_memory : Word → ℕ) → Type 0
  Made made part_memory = IsMadeOfPart inside whole_memory made part_memory

  -- what is made of the part alone
  pub first_made : (part_memory : Word → ℕ) → IsPartOf inside whole_memory part_memory → Made whole_memory part_memory
  first_made part_memory part_of = record {
    within = part_of.same;
    outside = λ word word_outside. sym (cond-true (part_memory word == 0) (whole_memory word) (part_memory word) (ap (λ value. value == 0) (part_of.nothing word word_outside)));
  }

  -- where the word that is written is another than this one both stay, and where it is this one both are the value
  made_within : (memory part_made : Word → ℕ) (written_word : Word) (value : ℕ) → Made memory part_made → (word : Word) → inside word ≡ true → write memory written_word value word ≡ write part_made written_word value word
  made_within memory part_made written_word value made word word_inside = ap (λ value_before. if same_word written_word word then value else value_before) (made.within word word_inside)

  made_outside : (memory part_made : Word → ℕ) (written_word : Word) (value : ℕ) → (inside written_word ≡ false → value ≢ 0) → Made memory part_made → (word : Word) → inside word ≡ false
      → write memory written_word value word ≡ (if write part_made written_word value word == 0 then whole_memory word else write part_made written_word value word)
  made_outside memory part_made written_word value some_value made word word_outside = ⊎_elim
      (λ (same_name : same_word written_word word ≡ true).
      let value_differs : value ≢ 0 = some_value (ap inside (same_word_true written_word word same_name) ∙ word_outside) in
      let written : write part_made written_word value word ≡ value = cond-true (same_word written_word word) value (part_made word) same_name in
      cond-true (same_word written_word word) value (memory word) same_name
      ∙ sym (ap (λ made_value. if made_value == 0 then whole_memory word else made_value) written ∙ cond-false (value == 0) (whole_memory word) value (ne_eqb value 0 value_differs)))
      (λ (different_name : same_word written_word word ≡ false).
      let unwritten : write part_made written_word value word ≡ part_made word = cond-false (same_word written_word word) value (part_made word) different_name in
      cond-false (same_word written_word word) value (memory word) different_name ∙ made.outside word word_outside ∙ sym (ap (λ made_value. if made_value == 0 then whole_memory word else made_value) unwritten))
      (cases_Bool (same_word written_word word))

  written : (memory part_made : Word → ℕ) (word : Word) (value : ℕ) → (inside word ≡ false → value ≢ 0) → Made memory part_made → Made (write memory word value) (write part_made word value)
  written memory part_made word value some_value made = record { within = made_within memory part_made word value made; outside = made_outside memory part_made word value some_value made }

  -- one of two, of both alike
  chosen : (holds : Bool) (first_whole first_part second_whole second_part : Word → ℕ) → Made first_whole first_part → Made second_whole second_part → Made (if holds then first_whole else second_whole) (if holds then first_part else second_part)
  chosen true memory other_part second_whole second_part first_made second_made = first_made
  chosen false memory other_part second_whole second_part first_made second_made = second_made

  filled : (memory part_made : Word → ℕ) (word : ℕ) → Made memory part_made → Made (filled_over memory word) (filled_over part_made word)
  filled memory part_made word made =
      chosen (nat_lt (next_in word) (end_in word)) (write memory (Heap (next_in word)) (filler_header (end_in word - next_in word))) (write part_made (Heap (next_in word)) (filler_header (end_in word - next_in word))) memory part_made
      (written memory part_made (Heap (next_in word)) (filler_header (end_in word - next_in word)) (λ word_outside no_header. omega (arith, no_header)) made) made

  module _ (config : Config) (currents : (seat : ℕ) → inside (Current seat) ≡ true) (tops : (region : ℕ) → inside (Top region) ≡ true) where
    -- whether a buffer stays, by its word and the top of its region
    abbrev stays : (word top : ℕ) → Bool
    stays word top = (word == 0) || (end_in word == base_of config (buffer_region config word) + top)

    abbrev turned : (Word → ℕ) → (seat word top : ℕ) → Word → ℕ
    turned memory seat word top = if stays word top then memory else write (filled_over memory word) (Current seat) 0

    turned_made : (memory part_made : Word → ℕ) (seat word top : ℕ) → Made memory part_made → Made (turned memory seat word top) (turned part_made seat word top)
    turned_made memory part_made seat word top made =
        chosen (stays word top) memory part_made (write (filled_over memory word) (Current seat) 0) (write (filled_over part_made word) (Current seat) 0) made
        (written (filled_over memory word) (filled_over part_made word) (Current seat) 0 (λ word_outside. absurd (false≢true (sym word_outside ∙ currents seat))) (filled memory part_made word made))

    turn_same : (memory part_made : Word → ℕ) (seat : ℕ) → Made memory part_made → turned memory seat (part_made (Current seat)) (part_made (Top (buffer_region config (part_made (Current seat))))) ≡ settled_at config memory seat
    turn_same memory part_made seat made =
        ap (λ top. turned memory seat (part_made (Current seat)) top) (sym (made.within (Top (buffer_region config (part_made (Current seat)))) (tops (buffer_region config (part_made (Current seat))))))
        ∙ ap (λ word. turned memory seat word (memory (Top (buffer_region config word)))) (sym (made.within (Current seat) (currents seat)))

    turn_made : (memory part_made : Word → ℕ) (seat : ℕ) → Made memory part_made → Made (settled_at config memory seat) (settled_at config part_made seat)
    turn_made memory part_made seat made =
        subst (λ made. Made made (settled_at config part_made seat)) (turn_same memory part_made seat made)
        (turned_made memory part_made seat (part_made (Current seat)) (part_made (Top (buffer_region config (part_made (Current seat))))) made)

    turns_made : (memory part_made : Word → ℕ) → Made memory part_made → (turns : ℕ) → Made (settled_below config memory turns) (settled_below config part_made turns)
    unfolding settled_below
    turns_made memory part_made made zero = made
    turns_made memory part_made made (suc seat) = turn_made (settled_below config memory seat) (settled_below config part_made seat) seat (turns_made memory part_made made seat)

    pub settled_made : (part_memory : Word → ℕ) → IsPartOf inside whole_memory part_memory → Made (buffers_settled config whole_memory) (buffers_settled config part_memory)
    settled_made part_memory part_of = turns_made whole_memory part_memory (first_made part_memory part_of) (seat_count config.mutators config.helpers)
