-- What is noted of rows of words.
use Rattle.std.proofs.Common.{◌≡◌, ℕ, ◌+◌, ◌<◌, ◌≤◌, cond, nat_le, suc, List, [], ◌∷◌, ◌++◌, length, slice_get, map, Some, refl, sym, ap, ◌∙◌, arith}
use Rattle.std.specs.List.{range_with_len}
use Rattle.std.proofs.lemmas.Bool.{cond-true, cond-false, le-leb, lt-leb}
use Rattle.std.proofs.lemmas.List.{map-append}
use Rattle.std.proofs.lemmas.List.FromFn.{map-range_with_len_more}
use Rattle.heap_words.specs.declared.config.Config.{Config}
use Rattle.heap_words.specs.Words.{Word, Root, Answer, Pin, heap_size}
use Rattle.heap_world.specs.Walk.{with_address, with_addresses}
use Rattle.heap_world.proofs.TakenDown.{with_addresses-push}
use Rattle.image_graph.specs.Full.{copies_of, roots_below, answers_below, root_words, held_words, field_words, held_in}
use Rattle.image_graph.specs.Pinned.{pins_below}
use Rattle.image_graph.proofs.FoundInTurn.{noted_both}
use Rattle.image_graph.proofs.FoundInTurn as turns
use Rattle.full_cycle.specs.Collect.{current_address, found_in_turns}

-- one word more of a row
pub noted_more : (memory : Word → ℕ) (f : ℕ → ℕ) (index : ℕ) (order : List ℕ)
    → with_address (with_addresses order (copies_of memory (map f (range_with_len 0 index)))) (current_address memory (f index))
    ≡ with_addresses order (copies_of memory (map f (range_with_len 0 (index + 1))))
noted_more memory f index order =
    sym (with_addresses-push order (copies_of memory (map f (range_with_len 0 index))) (current_address memory (f index)))
    ∙ ap (with_addresses order) (sym (ap (copies_of memory) (map-range_with_len_more f 0 index index (omega arith)) ∙ map-append (current_address memory) (map f (range_with_len 0 index)) (f index ∷ [])))

-- the roots of one mutator more
pub roots_more : (memory : Word → ℕ) (mutator : ℕ) (order : List ℕ)
    → with_addresses (with_addresses order (copies_of memory (roots_below memory mutator))) (copies_of memory (map (λ index. memory (Root mutator index)) (range_with_len 0 16)))
    ≡ with_addresses order (copies_of memory (roots_below memory (mutator + 1)))
roots_more memory mutator order =
    let next_number : suc mutator ≡ mutator + 1 = omega arith in
    let row : List ℕ = map (λ index. memory (Root mutator index)) (range_with_len 0 16) in
    noted_both order (copies_of memory (roots_below memory mutator)) (copies_of memory row)
    ∙ ap (with_addresses order) (sym (map-append (current_address memory) (roots_below memory mutator) row))
    ∙ ap (λ number. with_addresses order (copies_of memory (roots_below memory number))) next_number

-- the answer of one mutator more, if it is an address
pub answer_more : (memory : Word → ℕ) (mutator : ℕ) (order : List ℕ) → 1 < memory (Answer mutator)
    → with_address (with_addresses order (copies_of memory (answers_below memory mutator))) (current_address memory (memory (Answer mutator)))
    ≡ with_addresses order (copies_of memory (answers_below memory (mutator + 1)))
answer_more memory mutator order is_address =
    let next_number : suc mutator ≡ mutator + 1 = omega arith in
    let one_answer : cond (nat_le (memory (Answer mutator)) 1) [] (memory (Answer mutator) ∷ []) ≡ memory (Answer mutator) ∷ [] = cond-false (nat_le (memory (Answer mutator)) 1) [] (memory (Answer mutator) ∷ []) (lt-leb (memory (Answer mutator)) 1 is_address) in
    sym (with_addresses-push order (copies_of memory (answers_below memory mutator)) (current_address memory (memory (Answer mutator))))
    ∙ ap (with_addresses order) (sym (ap (λ answers. copies_of memory (answers_below memory mutator ++ answers)) one_answer ∙ map-append (current_address memory) (answers_below memory mutator) (memory (Answer mutator) ∷ [])))
    ∙ ap (λ number. with_addresses order (copies_of memory (answers_below memory number))) next_number

pub answer_none : (memory : Word → ℕ) (mutator : ℕ) (order : List ℕ) → memory (Answer mutator) ≤ 1
    → with_addresses order (copies_of memory (answers_below memory mutator)) ≡ with_addresses order (copies_of memory (answers_below memory (mutator + 1)))
answer_none memory mutator order no_answer =
    let next_number : suc mutator ≡ mutator + 1 = omega arith in
    let empty : cond (nat_le (memory (Answer mutator)) 1) [] (memory (Answer mutator) ∷ []) ≡ [] = cond-true (nat_le (memory (Answer mutator)) 1) [] (memory (Answer mutator) ∷ []) (le-leb (memory (Answer mutator)) 1 no_answer) in
    ap (with_addresses order) (sym (ap (λ answers. copies_of memory (answers_below memory mutator ++ answers)) empty ∙ map-append (current_address memory) (answers_below memory mutator) [] ∙ nothing (copies_of memory (answers_below memory mutator))))
    ∙ ap (λ number. with_addresses order (copies_of memory (answers_below memory number))) next_number
  where
    nothing : (answers : List ℕ) → answers ++ [] ≡ answers
    nothing [] = refl
    nothing (x ∷ answers) = ap (λ ys. x ∷ ys) (nothing answers)

-- the pin slots of one mutator more
pub pins_more : (memory : Word → ℕ) (mutator : ℕ) (order : List ℕ)
    → with_addresses (with_addresses order (copies_of memory (pins_below memory mutator))) (copies_of memory (map (λ slot. memory (Pin mutator slot)) (range_with_len 0 4)))
    ≡ with_addresses order (copies_of memory (pins_below memory (mutator + 1)))
pins_more memory mutator order =
    let next_number : suc mutator ≡ mutator + 1 = omega arith in
    let row : List ℕ = map (λ slot. memory (Pin mutator slot)) (range_with_len 0 4) in
    noted_both order (copies_of memory (pins_below memory mutator)) (copies_of memory row)
    ∙ ap (with_addresses order) (sym (map-append (current_address memory) (pins_below memory mutator) row))
    ∙ ap (λ number. with_addresses order (copies_of memory (pins_below memory number))) next_number

-- Turns.

module _ (config : Config) (memory : Word → ℕ) where
  abbrev found : ℕ → List ℕ
  found = found_in_turns config memory

  abbrev fields : ℕ → List ℕ
  fields address = copies_of memory (field_words memory address)

  pub no_turn : with_addresses (with_addresses (with_addresses [] (copies_of memory (roots_below memory config.mutators))) (copies_of memory (answers_below memory config.mutators))) (copies_of memory (pins_below memory config.mutators)) ≡ found 0
  no_turn =
      ap (λ addresses. with_addresses addresses (copies_of memory (pins_below memory config.mutators)))
      (noted_both [] (copies_of memory (roots_below memory config.mutators)) (copies_of memory (answers_below memory config.mutators))
      ∙ ap (with_addresses []) (sym (map-append (current_address memory) (roots_below memory config.mutators) (answers_below memory config.mutators))))
      ∙ noted_both [] (copies_of memory (root_words config memory)) (copies_of memory (pins_below memory config.mutators))
      ∙ ap (with_addresses []) (sym (map-append (current_address memory) (root_words config memory) (pins_below memory config.mutators)))
      ∙ turns.no_turn fields (copies_of memory (held_words config memory))

  pub next_turn : (index address : ℕ) → slice_get (found index) index ≡ Some address → with_addresses (found index) (fields address) ≡ found (index + 1)
  next_turn = turns.next_turn fields (copies_of memory (held_words config memory))

  pub last_turn : (n : ℕ) → length (found n) ≤ n → n ≤ heap_size config → found n ≡ held_in config memory
  last_turn n short at_most = turns.last_turn fields (copies_of memory (held_words config memory)) n (heap_size config) short at_most
