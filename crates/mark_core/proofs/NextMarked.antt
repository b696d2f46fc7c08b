-- Which addresses have their bits in what is left of a word of marks, from the bit of one address on.
use Rattle.std.proofs.Common.{◌≡◌, ℕ, ◌+◌, ◌-◌, ◌/◌, ◌%◌, ◌^◌, ◌<◌, ◌≤◌, ◌==◌, ◌&&◌, w64, min, List, slice_index, sym, ap, ◌∙◌, ⊎_elim, arith}
use Rattle.std.specs.Int.{bit_at, trailing_zeros}
use Rattle.std.proofs.lemmas.Bool.{cases_lt, le-leb}
use Rattle.std.proofs.lemmas.Nat.{shr-shr}
use Rattle.std.proofs.lemmas.Nat.Bits.{bit_at-zero, bit_at-trailing_zeros, bit_at_above}
use Rattle.std.proofs.Math.Nat.{mul-le-mul, div-le_self}
use Rattle.heap_words.specs.declared.config.Config.{Config}
use Rattle.heap_words.specs.Words.{Heap, Grey, Black, IsWord, word_at, view, bit_words}
use Rattle.heap_words.proofs.Stores.{view_word}
use Rattle.regions.specs.Marks.{mark_word, mark_bit, mark_at}
use Rattle.regions.proofs.MarksApart.{word_inside}
use Rattle.cycle_words.specs.Marking.Marks.{is_grey, is_black}

module _ (config : Config) (marks : ℕ → ℕ) (start : ℕ) (start_high : config.region_words ≤ start) where
  abbrev whole : ℕ
  whole = marks (mark_word config start)

  abbrev rest : ℕ
  rest = whole / 2 ^ mark_bit config start

  digit : (offset : ℕ) → bit_at whole (mark_bit config start + offset) ≡ bit_at rest offset
  digit offset = ap (λ x. x % 2) (sym (shr-shr whole (mark_bit config start) offset))

  further : (offset : ℕ) → mark_bit config start + offset < 64 → mark_at config marks (start + offset) ≡ bit_at rest offset
  further offset bit_within =
      let word : mark_word config (start + offset) ≡ mark_word config start = omega (arith, start_high, bit_within) in
      let bit : mark_bit config (start + offset) ≡ mark_bit config start + offset = omega (arith, start_high, bit_within) in
      ap (λ word_number. bit_at (marks word_number) (mark_bit config (start + offset))) word ∙ ap (bit_at whole) bit ∙ digit offset

  in_word : (address : ℕ) → start ≤ address → address < start + (64 - mark_bit config start) → mark_at config marks address ≡ bit_at rest (address - start)
  in_word address at_most address_below =
      let same_address : start + (address - start) ≡ address = omega (arith, at_most) in
      ap (mark_at config marks) (sym same_address) ∙ further (address - start) (omega (arith, at_most, address_below))

  -- where no bit is left, none of the word's further addresses is marked
  pub none_left : (word place : ℕ) → word ≡ whole → place ≡ mark_bit config start → word / 2 ^ place ≡ 0 → (address : ℕ) → start ≤ address → address < start + (64 - place) → mark_at config marks address ≡ 0
  none_left word place whole_word same_place no_bit_left address at_most address_below =
      let same_rest : word / 2 ^ place ≡ rest = ap (λ any_word. any_word / 2 ^ place) whole_word ∙ ap (λ any_place. whole / 2 ^ any_place) same_place in
      in_word address at_most (omega (arith, address_below, same_place)) ∙ ap (λ x. bit_at x (address - start)) (sym same_rest ∙ no_bit_left) ∙ bit_at-zero (address - start)

  -- and else the lowest bit is that of the first one
  first_left : (bits : ℕ) → bits ≡ rest → 0 < bits → bits < 2 ^ 64 → whole < 2 ^ 64
      → (mark_at config marks (start + trailing_zeros w64 bits) ≡ 1) × ((address : ℕ) → start ≤ address → address < start + trailing_zeros w64 bits → mark_at config marks address ≡ 0)
  first_left bits same_rest some_bits bits_fit small_whole =
      let zeros = trailing_zeros w64 bits in
      let lowest = bit_at-trailing_zeros w64 bits some_bits bits_fit in
      let bit_set : bit_at rest zeros ≡ 1 = ap (λ x. bit_at x zeros) (sym same_rest) ∙ lowest.1 in
      let bit_within : mark_bit config start + zeros < 64 = ⊎_elim
      (λ (within_word : mark_bit config start + zeros < 64). within_word)
      (λ (past_word : 64 ≤ mark_bit config start + zeros). absurd (let no_bit = bit_at_above whole 64 (mark_bit config start + zeros) small_whole past_word in omega (arith, no_bit, digit zeros, bit_set)))
      (cases_lt (mark_bit config start + zeros) 64) in
      (further zeros bit_within ∙ bit_set, λ address from address_below. in_word address from (omega (arith, from, address_below, bit_within)) ∙ ap (λ x. bit_at x (address - start)) (sym same_rest) ∙ lowest.2 (address - start) (omega (arith, from, address_below)))

  -- so what is found is the first one, and of those before an end
  pub first_found : (word place end result : ℕ) → word ≡ whole → place ≡ mark_bit config start → word < 2 ^ 64 → (word / 2 ^ place ≡ 0 → ⊥)
      → result ≡ min end (start + trailing_zeros w64 (word / 2 ^ place))
      → ((address : ℕ) → start ≤ address → address < result → mark_at config marks address ≡ 0) × (result < end → mark_at config marks result ≡ 1)
  first_found word place end result whole_word same_place word_fits some_bit result_least =
      let bits = word / 2 ^ place in
      let same_rest : bits ≡ rest = ap (λ any_word. any_word / 2 ^ place) whole_word ∙ ap (λ any_place. whole / 2 ^ any_place) same_place in
      let fewer : bits ≤ word = div-le_self word (2 ^ place) in
      let lowest = first_left bits same_rest (omega (arith, some_bit)) (omega (arith, fewer, word_fits)) (omega (arith, whole_word, word_fits)) in (
        λ address from address_below. lowest.1 address from (omega (arith, address_below, result_least)),
        λ result_below. (let lowest_there : result ≡ start + trailing_zeros w64 bits = omega (arith, result_least, result_below) in ap (mark_at config marks) lowest_there ∙ lowest.0),
      )

-- there is a word of marks
pub some_marks : (config : Config) → 0 < bit_words config
some_marks config = let least_size = mul-le-mul config.in_range.least_regions config.in_range.least_words in omega (arith, least_size)

module _ (config : Config) (words : List ℕ) (row address digit : ℕ) (heap : IsWord config (Heap address)) (digit_there : mark_at config (λ word_number. slice_index words (row + word_number)) address ≡ digit) where
  -- the row is that of the grey bits
  pub grey_in_row : row ≡ word_at config (Grey 0) → is_grey config (view config words) address ≡ (digit == 1)
  grey_in_row start =
      let number = mark_word config address in
      let word_place : word_at config (Grey number) ≡ row + number = omega (arith, start) in
      let read : view config words (Grey number) ≡ slice_index words (row + number) = view_word config words (Grey number) (word_inside config address heap) ∙ ap (slice_index words) word_place in
      ap (λ in_heap. in_heap && (bit_at (view config words (Grey number)) (mark_bit config address) == 1)) (le-leb config.region_words address heap.0)
      ∙ ap (λ word. bit_at word (mark_bit config address) == 1) read ∙ ap (λ any_digit. any_digit == 1) digit_there

  -- or of the black ones
  pub black_in_row : row ≡ word_at config (Black 0) → is_black config (view config words) address ≡ (digit == 1)
  black_in_row start =
      let number = mark_word config address in
      let word_place : word_at config (Black number) ≡ row + number = omega (arith, start) in
      let read : view config words (Black number) ≡ slice_index words (row + number) = view_word config words (Black number) (word_inside config address heap) ∙ ap (slice_index words) word_place in
      ap (λ in_heap. in_heap && (bit_at (view config words (Black number)) (mark_bit config address) == 1)) (le-leb config.region_words address heap.0)
      ∙ ap (λ word. bit_at word (mark_bit config address) == 1) read ∙ ap (λ any_digit. any_digit == 1) digit_there
