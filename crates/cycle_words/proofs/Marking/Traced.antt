-- Tracing comes to exactly what the list has that it finds.
use Rattle.std.proofs.Common.{◌≡◌, ◌≢◌, ℕ, ◌+◌, ◌-◌, ◌*◌, ◌<◌, ◌≤◌, ◌∷◌, [], true, false, zero, suc, cond, Bool, List, map, nat_eq, ⊎_elim, refl, sym, ap, ◌∙◌, subst, arith}
use Rattle.std.specs.List.{range_with_len}
use Rattle.std.proofs.lemmas.Bool.{cond-true, cond-false, cases_Bool, cases_eq, eq-eqb, or_left, false≢true}
use Rattle.heap_words.specs.declared.config.Config.{Config}
use Rattle.heap_words.specs.Words.{Word, Count, Buffer, Heap}
use Rattle.heap_words.specs.Encoding.{refs_in}
use Rattle.heap_world.specs.Walk.{has}
use Rattle.heap_world.proofs.TakenDown.{has-range}
use Rattle.image_graph.specs.Full.{field_words}
use Rattle.image_graph.proofs.HeldFound.{has_map, map_has, range_has, roots_found, found_held, found_closed}
use Rattle.image_graph.proofs.HeldRoots.{has_either, has_first, has_second, has_one}
use Rattle.cycle_words.specs.Marking.Marks.{is_grey, is_black}
use Rattle.cycle_words.specs.Marking.Close.{IsTraced, from_grey, from_buffer, from_field, greys_below, entries_below, starts_in, open_fields, traced_by, traced_in}

one_has : (x : ℕ) → has (x ∷ []) x ≡ true
one_has x = or_left (nat_eq x x) (has [] x) (eq-eqb x x refl)

-- a list that is there under a test
if_has : (holds : Bool) (listed asked : ℕ) → has (cond holds (listed ∷ []) []) asked ≡ true → (holds ≡ true) × (asked ≡ listed)
if_has true listed asked is_there = (refl, has_one listed asked is_there)
if_has false listed asked is_there = absurd (false≢true is_there)

has_if : (holds : Bool) (x : ℕ) → holds ≡ true → has (cond holds (x ∷ []) []) x ≡ true
has_if true x test_true = one_has x
has_if false x test_true = absurd (false≢true test_true)

module _ (config : Config) (memory : Word → ℕ) where
  abbrev region_words : ℕ
  region_words = config.region_words

  -- the grey addresses
  grey_in : (count address : ℕ) → has (greys_below config memory count) address ≡ true → is_grey config memory address ≡ true
  grey_in zero address is_listed = absurd (false≢true is_listed)
  grey_in (suc count) address is_listed = ⊎_elim
      (λ (earlier : has (greys_below config memory count) address ≡ true). grey_in count address earlier)
      (λ (in_last : has (cond (is_grey config memory (region_words + count)) ((region_words + count) ∷ []) []) address ≡ true).
      let found_last = if_has (is_grey config memory (region_words + count)) (region_words + count) address in_last in
      subst (λ found_address. is_grey config memory found_address ≡ true) (sym found_last.1) found_last.0)
      (has_either (greys_below config memory count) (cond (is_grey config memory (region_words + count)) ((region_words + count) ∷ []) []) address is_listed)

  grey_listed : (count offset : ℕ) → offset < count → is_grey config memory (region_words + offset) ≡ true → has (greys_below config memory count) (region_words + offset) ≡ true
  grey_listed zero offset offset_below grey_there = absurd (omega (arith, offset_below))
  grey_listed (suc count) offset offset_below grey_there = ⊎_elim
      (λ (last_offset : count ≡ offset).
      has_second (greys_below config memory count) (cond (is_grey config memory (region_words + count)) ((region_words + count) ∷ []) []) (region_words + offset)
      (subst (λ place. has (cond (is_grey config memory (region_words + place)) ((region_words + place) ∷ []) []) (region_words + offset) ≡ true) (sym last_offset) (has_if (is_grey config memory (region_words + offset)) (region_words + offset) grey_there)))
      (λ (other_offset : count ≢ offset).
      has_first (greys_below config memory count) (cond (is_grey config memory (region_words + count)) ((region_words + count) ∷ []) []) (region_words + offset) (grey_listed count offset (omega (arith, offset_below, other_offset)) grey_there))
      (cases_eq count offset)

  -- the entries of the buffers
  abbrev row : ℕ → List ℕ
  row mutator = map (λ entry. memory (Buffer mutator entry)) (range_with_len 0 (memory (Count mutator)))

  entry_in : (mutator address : ℕ) → has (entries_below memory mutator) address ≡ true → (other_mutator : ℕ) × (index : ℕ) × (other_mutator < mutator) × (index < memory (Count other_mutator)) × (memory (Buffer other_mutator index) ≡ address)
  entry_in zero address is_listed = absurd (false≢true is_listed)
  entry_in (suc mutator) address is_listed = ⊎_elim
      (λ (earlier : has (entries_below memory mutator) address ≡ true). let found_entry = entry_in mutator address earlier in (found_entry.0, found_entry.1, omega (arith, found_entry.2), found_entry.3, found_entry.4))
      (λ (in_last : has (row mutator) address ≡ true).
      let found_entry = has_map (λ index. memory (Buffer mutator index)) (range_with_len 0 (memory (Count mutator))) address in_last in
      let index_below = range_has 0 (memory (Count mutator)) found_entry.0 found_entry.1 in
      (mutator, found_entry.0, omega arith, omega (arith, index_below.1), found_entry.2))
      (has_either (entries_below memory mutator) (row mutator) address is_listed)

  entry_listed : (count mutator index : ℕ) → mutator < count → index < memory (Count mutator) → has (entries_below memory count) (memory (Buffer mutator index)) ≡ true
  entry_listed zero mutator index mutator_below index_below = absurd (omega (arith, mutator_below))
  entry_listed (suc count) mutator index mutator_below index_below = ⊎_elim
      (λ (last_mutator : count ≡ mutator).
      has_second (entries_below memory count) (row count) (memory (Buffer mutator index))
      (subst (λ row_number. has (row row_number) (memory (Buffer mutator index)) ≡ true) (sym last_mutator)
      (map_has (λ entry. memory (Buffer mutator entry)) (range_with_len 0 (memory (Count mutator))) index (has-range 0 (memory (Count mutator)) index (omega arith) (omega (arith, index_below))))))
      (λ (earlier_mutator : count ≢ mutator). has_first (entries_below memory count) (row count) (memory (Buffer mutator index)) (entry_listed count mutator index (omega (arith, mutator_below, earlier_mutator)) index_below))
      (cases_eq count mutator)

  pub start_traced : (address : ℕ) → address ≢ 0 → has (starts_in config memory) address ≡ true → IsTraced config memory address
  start_traced address some_address is_start = ⊎_elim
      (λ (address_grey : has (greys_below config memory (config.regions * config.region_words)) address ≡ true). from_grey address (grey_in (config.regions * config.region_words) address address_grey))
      (λ (entry : has (entries_below memory config.mutators) address ≡ true).
      let found_entry = entry_in config.mutators address entry in
      subst (IsTraced config memory) found_entry.4 (from_buffer found_entry.0 found_entry.1 found_entry.2 found_entry.3 (λ is_zero. some_address (sym found_entry.4 ∙ is_zero))))
      (has_either (greys_below config memory (config.regions * config.region_words)) (entries_below memory config.mutators) address is_start)

  -- fields
  abbrev field : ℕ → ℕ → ℕ
  field address index = memory (Heap (address + 3 + index))

  pub field_traced : (address traced_address : ℕ) → IsTraced config memory address → traced_address ≢ 0 → has (open_fields config memory address) traced_address ≡ true → IsTraced config memory traced_address
  field_traced address traced_address traced some_address open_field = ⊎_elim
      (λ (address_black : is_black config memory address ≡ true). absurd (false≢true (ap (λ field_list. has field_list traced_address) (sym (cond-true (is_black config memory address) [] (field_words memory address) address_black)) ∙ open_field)))
      (λ (not_black : is_black config memory address ≡ false).
      let in_fields : has (field_words memory address) traced_address ≡ true = ap (λ field_list. has field_list traced_address) (sym (cond-false (is_black config memory address) [] (field_words memory address) not_black)) ∙ open_field in
      let index = has_map (field address) (range_with_len 0 (refs_in (memory (Heap (address + 1))))) traced_address in_fields in
      let index_below = range_has 0 (refs_in (memory (Heap (address + 1)))) index.0 index.1 in
      subst (IsTraced config memory) index.2 (from_field address index.0 traced not_black (omega (arith, index_below.1)) (λ is_zero. some_address (sym index.2 ∙ is_zero))))
      (cases_Bool (is_black config memory address))

  pub listed_traced : (rounds traced_address : ℕ) → has (traced_by config memory rounds) traced_address ≡ true → IsTraced config memory traced_address
  listed_traced = found_held (open_fields config memory) (starts_in config memory) (IsTraced config memory) start_traced field_traced

  -- where all of it lies in the heap, all of it is found
  module _ (traced_inside : (traced_address : ℕ) → IsTraced config memory traced_address → (config.region_words ≤ traced_address) × (traced_address < config.region_words + config.regions * config.region_words)) where
    some_traced : (traced_address : ℕ) → IsTraced config memory traced_address → traced_address ≢ 0
    some_traced traced_address is_traced is_zero = let inside_heap = traced_inside traced_address is_traced in let least_words = config.in_range.least_words in omega (arith, inside_heap.0, is_zero, least_words)

    pub traced_listed : (traced_address : ℕ) → IsTraced config memory traced_address → has (traced_in config memory) traced_address ≡ true
    traced_listed _ (from_grey address grey_there) =
        let inside_heap = traced_inside address (from_grey address grey_there) in
        let same_address : region_words + (address - region_words) ≡ address = omega (arith, inside_heap.0) in
        roots_found (open_fields config memory) (starts_in config memory) (config.regions * config.region_words) address (some_traced address (from_grey address grey_there))
        (has_first (greys_below config memory (config.regions * config.region_words)) (entries_below memory config.mutators) address
        (subst (λ any_address. has (greys_below config memory (config.regions * config.region_words)) any_address ≡ true) same_address
        (grey_listed (config.regions * config.region_words) (address - region_words) (omega (arith, inside_heap.0, inside_heap.1)) (subst (λ any_address. is_grey config memory any_address ≡ true) (sym same_address) grey_there))))
    traced_listed _ (from_buffer mutator index index_below slot_below some_word) =
        roots_found (open_fields config memory) (starts_in config memory) (config.regions * config.region_words) (memory (Buffer mutator index)) some_word
        (has_second (greys_below config memory (config.regions * config.region_words)) (entries_below memory config.mutators) (memory (Buffer mutator index)) (entry_listed config.mutators mutator index index_below slot_below))
    traced_listed _ (from_field address index traced header_plain slot_below some_word) =
        found_closed (open_fields config memory) (starts_in config memory) (IsTraced config memory) start_traced field_traced config.region_words (config.regions * config.region_words) traced_inside address (field address index)
        (traced_listed address traced) some_word
        (ap (λ address_list. has address_list (field address index)) (cond-false (is_black config memory address) [] (field_words memory address) header_plain)
        ∙ map_has (field address) (range_with_len 0 (refs_in (memory (Heap (address + 1))))) index (has-range 0 (refs_in (memory (Heap (address + 1)))) index (omega arith) (omega (arith, slot_below))))
