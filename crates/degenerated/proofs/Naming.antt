-- Roots and answers that are updated one after the other.
use Rattle.std.proofs.Common.{◌≡◌, ℕ, ◌+◌, ◌==◌, ◌&&◌, nat_le, nat_lt, cond, Bool, true, false, List, length, ⊎_elim, refl, sym, ap, ◌∙◌, arith}
use Rattle.std.specs.Int.{bit_at}
use Rattle.std.proofs.lemmas.Bool.{cases_Bool, cond-false, and_parts, and_right, leb-true, lt-ltb}
use Rattle.std.proofs.lemmas.Bool.Decides.{nat_tests}
use Rattle.std.proofs.Math.Path.{fun_ext}
use Rattle.heap_words.specs.declared.config.Config.{Config}
use Rattle.heap_words.specs.Words.{Word, Cset, Root, Answer, Heap, table_words, heap_in, view, write}
use Rattle.heap_words.proofs.Stores.{view_none}
use Rattle.regions.specs.Place.{region_with}
use Rattle.regions.specs.Table.{now_of}
use Rattle.image_graph.specs.Full.{now_in}
use Rattle.cycle_words.specs.Evacuation.Begun.{is_collected}
use Rattle.cycle_words.specs.Finishing.Updated.{updated_word, is_kept_field, all_updated}
use Rattle.cycle_words.proofs.Finishing.Fields.{low_spared}
use Rattle.degenerated.specs.Steps.{updated_by, fields_updated, is_of_first, row_updated, roots_updated, answers_updated}
use Rattle.degenerated.proofs.KeptHeap.{kept_is}
use Rattle.degenerated.proofs.UpdatedFields.{field_stays, lies_there}

module _ (config : Config) (now : ℕ → ℕ) (memory : Word → ℕ) where
  -- the roots of a mutator

  none_of_row_at : (mutator : ℕ) (word : Word) → memory word ≡ row_updated config now mutator 0 memory word
  none_of_row_at mutator (Root asked_mutator index) = none_yet (updated_by config now memory (memory (Root asked_mutator index))) (memory (Root asked_mutator index))
    where
      none_yet : (x y : ℕ) → y ≡ cond ((mutator == asked_mutator) && nat_lt index 0) x y
      none_yet x y = grind (arith, nat_tests)
  none_of_row_at mutator _ = refl

  pub none_of_row : (mutator : ℕ) → memory ≡ row_updated config now mutator 0 memory
  none_of_row mutator = fun_ext (none_of_row_at mutator)

  one_of_row : (value before : ℕ → ℕ → ℕ) (mutator index asked_mutator asked_index : ℕ)
      → cond ((mutator == asked_mutator) && (index == asked_index)) (value mutator index) (cond ((mutator == asked_mutator) && nat_lt asked_index index) (value asked_mutator asked_index) (before asked_mutator asked_index)) ≡ cond ((mutator == asked_mutator) && nat_lt asked_index (index + 1)) (value asked_mutator asked_index) (before asked_mutator asked_index)
  one_of_row value before mutator index asked_mutator asked_index = grind (arith, nat_tests)

  row_next_at : (mutator index : ℕ) (word : Word) → write (row_updated config now mutator index memory) (Root mutator index) (updated_by config now memory (memory (Root mutator index))) word ≡ row_updated config now mutator (index + 1) memory word
  row_next_at mutator index (Root asked_mutator asked_index) = one_of_row (λ mutator index. updated_by config now memory (memory (Root mutator index))) (λ mutator index. memory (Root mutator index)) mutator index asked_mutator asked_index
  row_next_at mutator index _ = refl

  pub row_next : (mutator index : ℕ) → write (row_updated config now mutator index memory) (Root mutator index) (updated_by config now memory (memory (Root mutator index))) ≡ row_updated config now mutator (index + 1) memory
  row_next mutator index = fun_ext (row_next_at mutator index)

  pub row_still : (mutator index : ℕ) → row_updated config now mutator index memory (Root mutator index) ≡ memory (Root mutator index)
  row_still mutator index = not_yet (updated_by config now memory (memory (Root mutator index))) (memory (Root mutator index))
    where
      not_yet : (x y : ℕ) → cond ((mutator == mutator) && nat_lt index index) x y ≡ y
      not_yet x y = grind (arith, nat_tests)

  -- the roots of all mutators

  no_roots_at : (word : Word) → memory word ≡ roots_updated config now 0 memory word
  no_roots_at (Root mutator index) = none_yet (updated_by config now memory (memory (Root mutator index))) (memory (Root mutator index))
    where
      none_yet : (x y : ℕ) → y ≡ cond (nat_lt mutator 0 && nat_lt index 16) x y
      none_yet x y = grind (arith, nat_tests)
  no_roots_at _ = refl

  pub no_roots : memory ≡ roots_updated config now 0 memory
  no_roots = fun_ext no_roots_at

  one_row : (value : ℕ → ℕ) (mutator asked_mutator asked_index x : ℕ)
      → cond ((mutator == asked_mutator) && nat_lt asked_index 16) (value (cond (nat_lt asked_mutator mutator && nat_lt asked_index 16) (value x) x)) (cond (nat_lt asked_mutator mutator && nat_lt asked_index 16) (value x) x)
      ≡ cond (nat_lt asked_mutator (mutator + 1) && nat_lt asked_index 16) (value x) x
  one_row value mutator asked_mutator asked_index x = grind (arith, nat_tests)

  roots_next_at : (thread : ℕ) (word : Word) → row_updated config now thread 16 (roots_updated config now thread memory) word ≡ roots_updated config now (thread + 1) memory word
  roots_next_at thread (Root mutator index) = one_row (updated_by config now memory) thread mutator index (memory (Root mutator index))
  roots_next_at thread _ = refl

  pub roots_next : (mutator : ℕ) → row_updated config now mutator 16 (roots_updated config now mutator memory) ≡ roots_updated config now (mutator + 1) memory
  roots_next mutator = fun_ext (roots_next_at mutator)

  -- the answers

  no_answers_at : (word : Word) → memory word ≡ answers_updated config now 0 memory word
  no_answers_at (Answer mutator) = none_yet (updated_by config now memory (memory (Answer mutator))) (memory (Answer mutator))
    where
      none_yet : (x y : ℕ) → y ≡ cond (nat_lt mutator 0) x y
      none_yet x y = grind (arith, nat_tests)
  no_answers_at _ = refl

  pub no_answers : memory ≡ answers_updated config now 0 memory
  no_answers = fun_ext no_answers_at

  one_answer : (value before : ℕ → ℕ) (mutator asked_mutator : ℕ) → cond (mutator == asked_mutator) (value mutator) (cond (nat_lt asked_mutator mutator) (value asked_mutator) (before asked_mutator)) ≡ cond (nat_lt asked_mutator (mutator + 1)) (value asked_mutator) (before asked_mutator)
  one_answer value before mutator asked_mutator = grind (arith, nat_tests)

  answers_next_at : (mutator : ℕ) (word : Word) → write (answers_updated config now mutator memory) (Answer mutator) (updated_by config now memory (memory (Answer mutator))) word ≡ answers_updated config now (mutator + 1) memory word
  answers_next_at mutator (Answer asked_mutator) = one_answer (λ mutator. updated_by config now memory (memory (Answer mutator))) (λ mutator. memory (Answer mutator)) mutator asked_mutator
  answers_next_at mutator _ = refl

  pub answers_next : (mutator : ℕ) → write (answers_updated config now mutator memory) (Answer mutator) (updated_by config now memory (memory (Answer mutator))) ≡ answers_updated config now (mutator + 1) memory
  answers_next mutator = fun_ext (answers_next_at mutator)

  pub answer_still : (mutator : ℕ) → answers_updated config now mutator memory (Answer mutator) ≡ memory (Answer mutator)
  answer_still mutator = not_yet (updated_by config now memory (memory (Answer mutator))) (memory (Answer mutator))
    where
      not_yet : (x y : ℕ) → cond (nat_lt mutator mutator) x y ≡ y
      not_yet x y = grind (arith, nat_tests)

-- all together, by the headers as they were
module _ (config : Config) (words : List ℕ) (table_length : length words ≡ table_words config) where
  abbrev memory_then : Word → ℕ
  memory_then = view config words

  abbrev now : ℕ → ℕ
  now = now_of config.region_words (heap_in config words)

  abbrev fields : Word → ℕ
  fields = fields_updated config now (is_of_first config config.regions) memory_then

  -- null stays null
  null_stays : updated_word config memory_then 0 ≡ 0
  null_stays = low_spared config memory_then 0 (omega arith)

  same_update : (address : ℕ) → updated_by config now memory_then address ≡ updated_word config memory_then address
  same_update address = ⊎_elim
      (λ (address_collected : is_collected config memory_then address ≡ true).
      let both_tests = and_parts (nat_le config.region_words address) (bit_at (memory_then Cset) (region_with config address) == 1) address_collected in
      ap (λ kept_address. cond (is_collected config memory_then address) kept_address address) (kept_is config words table_length address (leb-true config.region_words address both_tests.0)))
      (λ (not_collected : is_collected config memory_then address ≡ false). cond-false (is_collected config memory_then address) (now address) address not_collected ∙ sym (cond-false (is_collected config memory_then address) (now_in memory_then address) address not_collected))
      (cases_Bool (is_collected config memory_then address))

  -- a word that is there is updated, and another one is null
  there_or_null : (holds : Bool) (address : ℕ) → (holds ≡ false → address ≡ 0) → cond holds (updated_by config now memory_then address) address ≡ updated_word config memory_then address
  there_or_null true address null_if_absent = same_update address
  there_or_null false address null_if_absent = null_if_absent refl ∙ sym null_stays ∙ ap (updated_word config memory_then) (sym (null_if_absent refl))

  all_at : (word : Word) → answers_updated config now config.mutators (roots_updated config now config.mutators fields) word ≡ all_updated config memory_then word
  all_at (Heap address) =
      by_field (is_of_first config config.regions address) (is_kept_field config memory_then address) (updated_by config now memory_then (memory_then (Heap address))) (memory_then (Heap address)) (λ is_field. within address is_field)
      ∙ ap (λ new_value. cond (is_kept_field config memory_then address) new_value (memory_then (Heap address))) (same_update (memory_then (Heap address)))
    where
      within : (address : ℕ) → is_kept_field config memory_then address ≡ true → is_of_first config config.regions address ≡ true
      within field_address kept_field =
          let lies_inside = lies_there config memory_then field_address (field_stays config memory_then field_address kept_field) in
          lt-ltb (region_with config field_address) config.regions lies_inside.of_region

      by_field : (holds other_holds : Bool) (new_value old_value : ℕ) → (other_holds ≡ true → holds ≡ true) → cond (holds && other_holds) new_value old_value ≡ cond other_holds new_value old_value
      by_field holds true new_value old_value implies = ap (λ z. cond (z && true) new_value old_value) (implies refl)
      by_field holds false new_value old_value implies = ap (λ z. cond z new_value old_value) (and_right holds false refl)
  all_at (Root mutator index) = there_or_null (nat_lt mutator config.mutators && nat_lt index 16) (memory_then (Root mutator index)) (λ outside. view_none config words (Root mutator index) outside)
  all_at (Answer mutator) = there_or_null (nat_lt mutator config.mutators) (memory_then (Answer mutator)) (λ outside. view_none config words (Answer mutator) outside)
  all_at _ = refl

  pub all : answers_updated config now config.mutators (roots_updated config now config.mutators fields) ≡ all_updated config memory_then
  all = fun_ext all_at
