-- Words of marks with the mark of one address more.
use Rattle.std.proofs.Common.{◌≡◌, ◌≢◌, ℕ, ◌+◌, ◌*◌, ◌<◌, ◌≤◌, ◌==◌, ◌||◌, nat_lt, cond, Bool, true, false, w64, List, [], ◌∷◌, ◌++◌, take, slice_get, Some, nat_eq, refl, sym, ap, ◌∙◌, ⊎_elim, arith}
use Rattle.std.specs.Int.{bit_at}
use Rattle.std.specs.Int.Bits.{or_zero_r}
use Rattle.std.specs.Int.RustNames.{bit_or}
use Rattle.std.proofs.lemmas.Bool.{cond-true, cond-false, cases_eq, cases_lt, eq-eqb, ne_eqb, lt-ltb, or_right}
use Rattle.std.proofs.lemmas.List.{take_more}
use Rattle.std.proofs.lemmas.Option.{slice_get_within, get_or_from_slice_get}
use Rattle.std.proofs.lemmas.Nat.Bits.{bit_at_or, bit_at_set_same, bit_at_set_other, bit_at_above, same_from_bits}
use Rattle.std.proofs.Math.Path.{fun_ext}
use Rattle.heap_words.specs.declared.config.Config.{Config}
use Rattle.heap_words.specs.Words.{Word, Grey, Black, write}
use Rattle.regions.specs.Marks.{mark_word, mark_bit, mark_mask}
use Rattle.heap_world.specs.Walk.{has}
use Rattle.heap_world.proofs.TakenDown.{has-push}
use Rattle.cycle_words.specs.Marking.Marks.{mark_bits}
use Rattle.cycle_words.proofs.Marking.Bits.{one, bits_at, bits_small}
use Rattle.mark_core.specs.Steps.{greyed, marked}
use Rattle.mark_core.proofs.Colours.{bits_agree, bits_none}

pub or_assoc : (a b d : ℕ) → bit_or (bit_or a b) d ≡ bit_or a (bit_or b d)
or_assoc a b d = same_from_bits _ _ (λ index. omega (arith, bit_at_or (bit_or a b) d index, bit_at_or a b index, bit_at_or a (bit_or b d) index, bit_at_or b d index))

-- an address is grey besides, or black
abbrev pub grey_besides : Config → ℕ → (Word → ℕ) → Word → ℕ
grey_besides config address memory = write memory (Grey (mark_word config address)) (bit_or (memory (Grey (mark_word config address))) (mark_mask config address))

abbrev pub black_besides : Config → ℕ → (Word → ℕ) → Word → ℕ
black_besides config address memory = write memory (Black (mark_word config address)) (bit_or (memory (Black (mark_word config address))) (mark_mask config address))

module _ (config : Config) (old_set new_set : ℕ → Bool) (address : ℕ) (address_high : config.region_words ≤ address) (new_there : new_set address ≡ true) (others_same : (other_address : ℕ) → other_address ≢ address → new_set other_address ≡ old_set other_address) where
  abbrev first : ℕ
  first = config.region_words + 64 * mark_word config address

  -- the word of its bit
  bit_here : (bit : ℕ) → bit_at (bit_or (mark_bits config old_set (mark_word config address)) (mark_mask config address)) bit ≡ bit_at (mark_bits config new_set (mark_word config address)) bit
  bit_here bit =
      let word = mark_bits config old_set (mark_word config address) in
      let mark_bit_below : mark_bit config address < 64 = omega arith in
      ⊎_elim
      (λ (same_bit : bit ≡ mark_bit config address).
      let bit_address : first + mark_bit config address ≡ address = omega (arith, address_high) in
      ap (bit_at (bit_or word (mark_mask config address))) same_bit ∙ bit_at_set_same w64 word (mark_bit config address) mark_bit_below
      ∙ sym (ap (bit_at (mark_bits config new_set (mark_word config address))) same_bit ∙ bits_at new_set first 64 (mark_bit config address) mark_bit_below ∙ ap (λ other_address. one (new_set other_address)) bit_address ∙ ap one new_there))
      (λ (other_bit : bit ≢ mark_bit config address).
      bit_at_set_other w64 word (mark_bit config address) mark_bit_below bit other_bit
      ∙ ⊎_elim
      (λ (bit_within : bit < 64).
      bits_at old_set first 64 bit bit_within ∙ ap one (sym (others_same (first + bit) (λ same_address. other_bit (omega (arith, same_address, address_high))))) ∙ sym (bits_at new_set first 64 bit bit_within))
      (λ (past_word : 64 ≤ bit). bit_at_above word 64 bit (bits_small old_set first 64) past_word ∙ sym (bit_at_above (mark_bits config new_set (mark_word config address)) 64 bit (bits_small new_set first 64) past_word))
      (cases_lt bit 64))
      (cases_eq bit (mark_bit config address))

  word_here : (old_bits : ℕ) → bit_or (bit_or old_bits (mark_bits config old_set (mark_word config address))) (mark_mask config address) ≡ bit_or old_bits (mark_bits config new_set (mark_word config address))
  word_here old_bits = or_assoc old_bits (mark_bits config old_set (mark_word config address)) (mark_mask config address) ∙ ap (bit_or old_bits) (same_from_bits _ _ bit_here)

  -- and another one
  word_there : (number : ℕ) → number ≢ mark_word config address → mark_bits config old_set number ≡ mark_bits config new_set number
  word_there number other_word = bits_agree old_set new_set (config.region_words + 64 * number) 64 (λ bit few. sym (others_same (config.region_words + 64 * number + bit) (λ same_address. other_word (omega (arith, same_address, few)))))

  -- a row of words
  row_more : (before : ℕ → ℕ) (old_row new_row : ℕ → ℕ) (words asked_word : ℕ) → mark_word config address < words → bit_or (old_row (mark_word config address)) (mark_mask config address) ≡ new_row (mark_word config address)
      → ((bit_word : ℕ) → bit_word ≢ mark_word config address → old_row bit_word ≡ new_row bit_word)
      → cond (mark_word config address == asked_word) (bit_or (cond (nat_lt (mark_word config address) words) (old_row (mark_word config address)) (before (mark_word config address))) (mark_mask config address)) (cond (nat_lt asked_word words) (old_row asked_word) (before asked_word))
      ≡ cond (nat_lt asked_word words) (new_row asked_word) (before asked_word)
  row_more before old_row new_row words asked_word word_inside with_bit other_rows_same =
      let bit_word = mark_word config address in
      ⊎_elim
      (λ (same_word : bit_word ≡ asked_word).
      cond-true (bit_word == asked_word) _ _ (eq-eqb bit_word asked_word same_word)
      ∙ ap (λ bits. bit_or bits (mark_mask config address)) (cond-true (nat_lt bit_word words) (old_row bit_word) (before bit_word) (lt-ltb bit_word words word_inside)) ∙ with_bit
      ∙ sym (cond-true (nat_lt bit_word words) (new_row bit_word) (before bit_word) (lt-ltb bit_word words word_inside))
      ∙ ap (λ any_word. cond (nat_lt any_word words) (new_row any_word) (before any_word)) same_word)
      (λ (other_word : bit_word ≢ asked_word).
      cond-false (bit_word == asked_word) _ _ (ne_eqb bit_word asked_word other_word) ∙ ap (λ bits. cond (nat_lt asked_word words) bits (before asked_word)) (other_rows_same asked_word (λ same_index. other_word (sym same_index))))
      (cases_eq bit_word asked_word)

  module _ (memory : Word → ℕ) (words : ℕ) (word_inside : mark_word config address < words) where
    marked_more_at : (word : Word) → black_besides config address (grey_besides config address (marked config old_set words memory)) word ≡ marked config new_set words memory word
    marked_more_at (Grey number) =
        row_more (λ number. memory (Grey number)) (λ number. bit_or (memory (Grey number)) (mark_bits config old_set number)) (λ number. bit_or (memory (Grey number)) (mark_bits config new_set number)) words number word_inside
        (word_here (memory (Grey (mark_word config address)))) (λ number other_word. ap (bit_or (memory (Grey number))) (word_there number other_word))
    marked_more_at (Black number) =
        row_more (λ number. memory (Black number)) (λ number. bit_or (memory (Black number)) (mark_bits config old_set number)) (λ number. bit_or (memory (Black number)) (mark_bits config new_set number)) words number word_inside
        (word_here (memory (Black (mark_word config address)))) (λ number other_word. ap (bit_or (memory (Black number))) (word_there number other_word))
    marked_more_at _ = refl

    pub marked_more : black_besides config address (grey_besides config address (marked config old_set words memory)) ≡ marked config new_set words memory
    marked_more = fun_ext marked_more_at

    greyed_more_at : (word : Word) → grey_besides config address (greyed config old_set words memory) word ≡ greyed config new_set words memory word
    greyed_more_at (Grey number) = row_more (λ number. memory (Grey number)) (mark_bits config old_set) (mark_bits config new_set) words number word_inside (same_from_bits _ _ bit_here) word_there
    greyed_more_at _ = refl

    pub greyed_more : grey_besides config address (greyed config old_set words memory) ≡ greyed config new_set words memory
    greyed_more = fun_ext greyed_more_at

-- without any address
none_or : (x : ℕ) (holds : Bool) (bits : ℕ) → bits ≡ 0 → x ≡ cond holds (bit_or x bits) x
none_or x true bits no_bits = sym (ap (bit_or x) no_bits ∙ or_zero_r x)
none_or x false bits no_bits = refl

none_in_word : (config : Config) (number : ℕ) → mark_bits config (has []) number ≡ 0
none_in_word config number = bits_none (has []) (config.region_words + 64 * number) 64 (λ k few. refl)

none_marked_at : (config : Config) (words : ℕ) (memory : Word → ℕ) (word : Word) → memory word ≡ marked config (has []) words memory word
none_marked_at config words memory (Grey number) = none_or (memory (Grey number)) (nat_lt number words) (mark_bits config (has []) number) (none_in_word config number)
none_marked_at config words memory (Black number) = none_or (memory (Black number)) (nat_lt number words) (mark_bits config (has []) number) (none_in_word config number)
none_marked_at config words memory _ = refl

pub none_marked : (config : Config) (words : ℕ) (memory : Word → ℕ) → memory ≡ marked config (has []) words memory
none_marked config words memory = fun_ext (λ word. none_marked_at config words memory word)

-- the first of a list, and one more of them
pub next_of : (xs : List ℕ) (index address : ℕ) → slice_get xs index ≡ Some address → take (index + 1) xs ≡ take index xs ++ address ∷ []
next_of xs index address address_found = take_more xs index 0 (slice_get_within xs index address address_found) ∙ ap (λ x. take index xs ++ x ∷ []) (get_or_from_slice_get xs index address 0 address_found)

pub has_next : (xs : List ℕ) (index address : ℕ) → slice_get xs index ≡ Some address → has (take (index + 1) xs) address ≡ true
has_next xs index address address_found = ap (λ address_list. has address_list address) (next_of xs index address address_found) ∙ has-push (take index xs) address address ∙ or_right (has (take index xs) address) (nat_eq address address) (eq-eqb address address refl)

pub has_others : (xs : List ℕ) (index address other_address : ℕ) → slice_get xs index ≡ Some address → other_address ≢ address → has (take (index + 1) xs) other_address ≡ has (take index xs) other_address
has_others xs index address other_address address_found addresses_differ =
    ap (λ address_list. has address_list other_address) (next_of xs index address address_found) ∙ has-push (take index xs) address other_address ∙ ap (λ holds. has (take index xs) other_address || holds) (ne_eqb other_address address addresses_differ) ∙ plain (has (take index xs) other_address)
  where
    plain : (holds : Bool) → (holds || false) ≡ holds
    plain true = refl
    plain false = refl
