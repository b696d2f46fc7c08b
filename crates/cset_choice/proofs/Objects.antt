-- Objects of a region lie in the heap.
use Rattle.std.proofs.Common.{◌≡◌, ℕ, ◌+◌, ◌^◌, ◌%◌, ◌<◌, ◌≤◌, ◌==◌, nat_le, true, false, zero, suc, sym, ap, ◌∙◌, subst, ⊎_elim, arith}
use Rattle.std.specs.Int.{bit_at}
use Rattle.std.proofs.lemmas.Bool.{cond-true, cases_lt, and_left, and_right, and_parts, eqb-true, leb-true, lt-leb, ne_eqb}
use Rattle.std.proofs.lemmas.Nat.{mod_below}
use Rattle.std.proofs.lemmas.Nat.Bits.{bit_at_above}
use Rattle.heap_words.specs.declared.config.Config.{Config}
use Rattle.heap_words.specs.Words.{Word, Cset, Heap, IsWord}
use Rattle.regions.specs.Places.{LieApart}
use Rattle.regions.specs.Tops.{sum_below}
use Rattle.regions.proofs.Sums.{sum_next}
use Rattle.regions.specs.Place.{region_with}
use Rattle.regions.proofs.PlaceLemmas.{regions_tile}
use Rattle.image_graph.specs.Make.{AreInHeap}
use Rattle.image_graph.proofs.Room.{room_in_heap}
use Rattle.cycle_words.specs.Marking.Marks.{is_black}
use Rattle.cycle_words.specs.Evacuation.Live.{words_at, marked_words}
use Rattle.cycle_words.specs.Evacuation.Begun.{is_collected}
use Rattle.cycle_words.proofs.Evacuation.RegionAddresses.{some_words, from_base}

-- one term more of a sum
pub sum_more : (f : ℕ → ℕ) (index words term : ℕ) → words ≡ sum_below f index → term ≡ f index → words + term ≡ sum_below f (index + 1)
sum_more f index words term sum_before term_is =
    let next_number : suc index ≡ index + 1 = omega arith in
    let step : sum_below f (index + 1) ≡ sum_below f index + f index = ap (sum_below f) (sym next_number) ∙ sum_next f index in
    omega (arith, sum_before, term_is, step)

-- terms that are 0
pub sum_pass : (f : ℕ → ℕ) (index count : ℕ) → ((passed_index : ℕ) → index ≤ passed_index → passed_index < index + count → f passed_index ≡ 0) → sum_below f index ≡ sum_below f (index + count)
sum_pass f index zero all_zero = let same_index : index ≡ index + 0 = omega arith in ap (sum_below f) same_index
sum_pass f index (suc count) all_zero =
    let next_number : index + suc count ≡ suc (index + count) = omega arith in
    let step : sum_below f (index + suc count) ≡ sum_below f (index + count) + f (index + count) = ap (sum_below f) next_number ∙ sum_next f (index + count) in
    let earlier_sum = sum_pass f index count (λ passed_index from index_below. all_zero passed_index from (omega (arith, index_below))) in
    omega (arith, earlier_sum, step, all_zero (index + count) (omega arith) (omega arith))

module _ (config : Config) where
  -- so many words from an address on that end within its region are of the heap
  pub object_in_heap : (address words : ℕ) → config.region_words ≤ address → region_with config address < config.regions → address % config.region_words + words ≤ config.region_words → AreInHeap config address words
  object_in_heap address words address_above region_below words_fit =
      subst (λ address. AreInHeap config address words) (from_base config.region_words address (some_words config) address_above) (room_in_heap config (region_with config address) (address % config.region_words) words region_below words_fit)

  -- each of them is a word
  pub word_of_heap : (address words offset : ℕ) → AreInHeap config address words → offset < words → IsWord config (Heap (address + offset))
  word_of_heap address words offset are_in_heap offset_below = (omega (arith, are_in_heap.from), omega (arith, are_in_heap.to, offset_below))

  -- the shape of a marked object is one
  pub shape_in_heap : (memory : Word → ℕ) (address : ℕ) → LieApart config.region_words (marked_words config memory) → IsWord config (Heap address) → is_black config memory address ≡ true → IsWord config (Heap (address + 1))
  shape_in_heap memory address lie_apart address_inside object_black =
      let same_words : marked_words config memory address ≡ words_at memory address = cond-true (is_black config memory address) (words_at memory address) 0 object_black in
      let within_region = lie_apart.within address (omega (arith, same_words)) in
      word_of_heap address (words_at memory address) 1 (object_in_heap address (words_at memory address) address_inside.0 (regions_tile.in_range config address address_inside) (omega (arith, within_region, same_words))) (omega arith)

  -- what is of the collection set is an address of the heap
  module _ (memory : Word → ℕ) (address : ℕ) (set_small : memory Cset < 2 ^ config.regions) where
    member_of_heap : config.region_words ≤ address → bit_at (memory Cset) (region_with config address) ≡ 1 → IsWord config (Heap address)
    member_of_heap address_above region_chosen =
        let region_below : region_with config address < config.regions = ⊎_elim
        (λ (region_less : region_with config address < config.regions). region_less)
        (λ (region_past : config.regions ≤ region_with config address).
        absurd (let no_bit = bit_at_above (memory Cset) config.regions (region_with config address) set_small region_past in omega (arith, region_chosen, no_bit)))
        (cases_lt (region_with config address) config.regions) in
        let least_words = some_words config in
        let are_in_heap = object_in_heap address 1 address_above region_below (omega (arith, mod_below address config.region_words least_words)) in
        (are_in_heap.from, omega (arith, are_in_heap.to))

    pub collected_of_heap : is_collected config memory address ≡ true → IsWord config (Heap address)
    collected_of_heap address_collected =
        let collected_parts = and_parts (nat_le config.region_words address) (bit_at (memory Cset) (region_with config address) == 1) address_collected in
        member_of_heap (leb-true config.region_words address collected_parts.0) (eqb-true (bit_at (memory Cset) (region_with config address)) 1 collected_parts.1)

    pub not_of_heap : (IsWord config (Heap address) → ⊥) → is_collected config memory address ≡ false
    not_of_heap not_word = ⊎_elim
        (λ (address_less : address < config.region_words). and_left (nat_le config.region_words address) (bit_at (memory Cset) (region_with config address) == 1) (lt-leb config.region_words address address_less))
        (λ (address_above : config.region_words ≤ address).
        and_right (nat_le config.region_words address) (bit_at (memory Cset) (region_with config address) == 1)
        (ne_eqb (bit_at (memory Cset) (region_with config address)) 1 (λ member. not_word (member_of_heap address_above member))))
        (cases_lt address config.region_words)
