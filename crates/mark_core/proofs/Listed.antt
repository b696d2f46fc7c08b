-- What is noted of rows of words.
use Rattle.std.proofs.Common.{◌≡◌, ℕ, ◌+◌, ◌<◌, ◌≤◌, cond, nat_le, Bool, true, false, zero, suc, List, [], ◌∷◌, ◌++◌, map, refl, sym, ap, ◌∙◌, arith}
use Rattle.std.specs.List.{range_with_len}
use Rattle.std.proofs.lemmas.Bool.{cond-true, cond-false, le-leb, lt-leb}
use Rattle.std.proofs.lemmas.List.FromFn.{map-range_with_len_more}
use Rattle.heap_words.specs.declared.config.Config.{Config}
use Rattle.heap_words.specs.Words.{Word, Root, Count, Buffer, Answer, Pin}
use Rattle.heap_world.specs.Walk.{with_address, with_addresses}
use Rattle.heap_world.proofs.TakenDown.{with_addresses-push}
use Rattle.image_graph.specs.Full.{roots_below, answers_below}
use Rattle.image_graph.specs.Pinned.{pins_below}
use Rattle.image_graph.proofs.FoundInTurn.{noted_both}
use Rattle.cycle_words.specs.Marking.Marks.{is_grey}
use Rattle.cycle_words.specs.Marking.Close.{greys_below, entries_below}

-- one word more of a row
pub word_more : (f : ℕ → ℕ) (count : ℕ) (order : List ℕ)
    → with_address (with_addresses order (map f (range_with_len 0 count))) (f count) ≡ with_addresses order (map f (range_with_len 0 (count + 1)))
word_more f count order =
    sym (with_addresses-push order (map f (range_with_len 0 count)) (f count)) ∙ ap (with_addresses order) (sym (map-range_with_len_more f 0 count count (omega arith)))

none_more : (order xs : List ℕ) → with_addresses order xs ≡ with_addresses order (xs ++ [])
none_more order [] = refl
none_more order (word ∷ xs) = none_more (with_address order word) xs

-- one word more of a list, where a test says so
if_more : (holds : Bool) (word : ℕ) (order xs : List ℕ) → holds ≡ true → with_address (with_addresses order xs) word ≡ with_addresses order (xs ++ cond holds (word ∷ []) [])
if_more holds word order xs test_true = sym (with_addresses-push order xs word) ∙ ap (λ added_words. with_addresses order (xs ++ added_words)) (sym (cond-true holds (word ∷ []) [] test_true))

if_none : (holds : Bool) (word : ℕ) (order xs : List ℕ) → holds ≡ false → with_addresses order xs ≡ with_addresses order (xs ++ cond holds (word ∷ []) [])
if_none holds word order xs test_false = none_more order xs ∙ ap (λ added_words. with_addresses order (xs ++ added_words)) (sym (cond-false holds (word ∷ []) [] test_false))

module _ (memory : Word → ℕ) where
  -- the roots of one mutator more
  pub roots_more : (mutator : ℕ) (order : List ℕ)
      → with_addresses (with_addresses order (roots_below memory mutator)) (map (λ index. memory (Root mutator index)) (range_with_len 0 16)) ≡ with_addresses order (roots_below memory (mutator + 1))
  roots_more mutator order =
      let next_mutator : suc mutator ≡ mutator + 1 = omega arith in
      noted_both order (roots_below memory mutator) (map (λ index. memory (Root mutator index)) (range_with_len 0 16)) ∙ ap (λ mutators. with_addresses order (roots_below memory mutators)) next_mutator

  -- the pin slots of one mutator more
  pub pins_more : (mutator : ℕ) (order : List ℕ)
      → with_addresses (with_addresses order (pins_below memory mutator)) (map (λ slot. memory (Pin mutator slot)) (range_with_len 0 4)) ≡ with_addresses order (pins_below memory (mutator + 1))
  pins_more mutator order =
      let next_mutator : suc mutator ≡ mutator + 1 = omega arith in
      noted_both order (pins_below memory mutator) (map (λ slot. memory (Pin mutator slot)) (range_with_len 0 4)) ∙ ap (λ mutators. with_addresses order (pins_below memory mutators)) next_mutator

  -- the answer of one mutator more, if it is an address
  pub answer_more : (mutator : ℕ) (order : List ℕ) → 1 < memory (Answer mutator)
      → with_address (with_addresses order (answers_below memory mutator)) (memory (Answer mutator)) ≡ with_addresses order (answers_below memory (mutator + 1))
  answer_more mutator order some_answer =
      let next_mutator : suc mutator ≡ mutator + 1 = omega arith in
      let one_answer : cond (nat_le (memory (Answer mutator)) 1) [] (memory (Answer mutator) ∷ []) ≡ memory (Answer mutator) ∷ [] = cond-false (nat_le (memory (Answer mutator)) 1) [] (memory (Answer mutator) ∷ []) (lt-leb (memory (Answer mutator)) 1 some_answer) in
      sym (with_addresses-push order (answers_below memory mutator) (memory (Answer mutator)))
      ∙ ap (λ added_words. with_addresses order (answers_below memory mutator ++ added_words)) (sym one_answer)
      ∙ ap (λ mutators. with_addresses order (answers_below memory mutators)) next_mutator

  pub answer_none : (mutator : ℕ) (order : List ℕ) → memory (Answer mutator) ≤ 1 → with_addresses order (answers_below memory mutator) ≡ with_addresses order (answers_below memory (mutator + 1))
  answer_none mutator order no_answer =
      let next_mutator : suc mutator ≡ mutator + 1 = omega arith in
      let empty : cond (nat_le (memory (Answer mutator)) 1) [] (memory (Answer mutator) ∷ []) ≡ [] = cond-true (nat_le (memory (Answer mutator)) 1) [] (memory (Answer mutator) ∷ []) (le-leb (memory (Answer mutator)) 1 no_answer) in
      none_more order (answers_below memory mutator)
      ∙ ap (λ added_words. with_addresses order (answers_below memory mutator ++ added_words)) (sym empty)
      ∙ ap (λ mutators. with_addresses order (answers_below memory mutators)) next_mutator

  -- the entries of one buffer more
  pub entries_more : (mutator : ℕ) (order : List ℕ)
      → with_addresses (with_addresses order (entries_below memory mutator)) (map (λ entry. memory (Buffer mutator entry)) (range_with_len 0 (memory (Count mutator)))) ≡ with_addresses order (entries_below memory (mutator + 1))
  entries_more mutator order =
      let next_mutator : suc mutator ≡ mutator + 1 = omega arith in
      noted_both order (entries_below memory mutator) (map (λ entry. memory (Buffer mutator entry)) (range_with_len 0 (memory (Count mutator)))) ∙ ap (λ mutators. with_addresses order (entries_below memory mutators)) next_mutator

  -- one address more, which is grey or is not
  pub grey_more : (config : Config) (count : ℕ) (order : List ℕ) → is_grey config memory (config.region_words + count) ≡ true
      → with_address (with_addresses order (greys_below config memory count)) (config.region_words + count) ≡ with_addresses order (greys_below config memory (count + 1))
  grey_more config count order grey_there =
      let next_count : suc count ≡ count + 1 = omega arith in
      if_more (is_grey config memory (config.region_words + count)) (config.region_words + count) order (greys_below config memory count) grey_there ∙ ap (λ number. with_addresses order (greys_below config memory number)) next_count

  pub grey_none : (config : Config) (count : ℕ) (order : List ℕ) → is_grey config memory (config.region_words + count) ≡ false
      → with_addresses order (greys_below config memory count) ≡ with_addresses order (greys_below config memory (count + 1))
  grey_none config count order not_grey =
      let next_count : suc count ≡ count + 1 = omega arith in
      if_none (is_grey config memory (config.region_words + count)) (config.region_words + count) order (greys_below config memory count) not_grey ∙ ap (λ number. with_addresses order (greys_below config memory number)) next_count

  -- addresses none of which is grey
  pub greys_pass : (config : Config) (count further : ℕ) (order : List ℕ) → ((address : ℕ) → config.region_words + count ≤ address → address < config.region_words + (count + further) → is_grey config memory address ≡ false)
      → with_addresses order (greys_below config memory count) ≡ with_addresses order (greys_below config memory (count + further))
  greys_pass config count zero order none_grey = let same_count : count ≡ count + 0 = omega arith in ap (λ number. with_addresses order (greys_below config memory number)) same_count
  greys_pass config count (suc further) order none_grey =
      let next_count : count + further + 1 ≡ count + suc further = omega arith in
      greys_pass config count further order (λ address from address_below. none_grey address from (omega (arith, address_below)))
      ∙ grey_none config (count + further) order (none_grey (config.region_words + (count + further)) (omega arith) (omega arith))
      ∙ ap (λ number. with_addresses order (greys_below config memory number)) next_count

-- one word of a row was noted
pub noted_step : (before now after : List ℕ) (f : ℕ → ℕ) (count word : ℕ) → now ≡ with_addresses before (map f (range_with_len 0 count)) → word ≡ f count → after ≡ with_address now word
    → after ≡ with_addresses before (map f (range_with_len 0 (count + 1)))
noted_step before now after f count word so_far right_word noted =
    noted ∙ ap (λ address_list. with_address address_list word) so_far ∙ ap (with_address (with_addresses before (map f (range_with_len 0 count)))) right_word ∙ word_more f count before
