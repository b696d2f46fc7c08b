-- What freeing one region after another makes of the words, and which regions it frees.
use Rattle.std.proofs.Common.{◌≡◌, ℕ, ◌+◌, ◌*◌, ◌%◌, ◌^◌, ◌<◌, ◌&&◌, ◌==◌, not, nat_lt, cond, Bool, true, false, suc, List, refl, sym, ap, ◌∙◌, arith}
use Rattle.std.specs.Int.{bit_at}
use Rattle.std.specs.Int.RustNames.{bit_or}
use Rattle.std.proofs.lemmas.Bool.Decides.{nat_tests}
use Rattle.std.proofs.lemmas.Nat.{or_comm, or_shifted, one_shl}
use Rattle.std.proofs.lemmas.Nat.Bits.{bit_at_or, bit_at_above, same_from_bits}
use Rattle.std.proofs.Math.Path.{fun_ext}
use Rattle.mark_core.proofs.FoundMarks.{or_assoc}
use Rattle.heap_words.specs.declared.config.Config.{Config}
use Rattle.heap_words.specs.Words.{Word, Free, Top, Tams, Limit, view, write}
use Rattle.heap_words.proofs.Stores.{view_none}
use Rattle.image_graph.specs.Pinned.{is_pinned}
use Rattle.cycle_words.specs.Marking.Marks.{bits_of}
use Rattle.cycle_words.specs.Marking.Final.{is_current, has_black, is_dead, freed}
use Rattle.cycle_words.proofs.Marking.Bits.{one, bits_small}
use Rattle.mark_core.specs.Steps.{freed_one, freed_below}

-- one region

freed_by_stores_at : (region : ℕ) (memory : Word → ℕ) (word : Word)
    → write (write (write (write memory Free (bit_or (memory Free) (1 * 2 ^ region % 2 ^ 64))) (Top region) 0) (Tams region) 0) (Limit region) 0 word ≡ freed_one region memory word
freed_by_stores_at region memory Free = refl
freed_by_stores_at region memory (Top other_region) = refl
freed_by_stores_at region memory (Tams other_region) = refl
freed_by_stores_at region memory (Limit other_region) = refl
freed_by_stores_at region memory _ = refl

pub freed_by_stores : (region : ℕ) (memory : Word → ℕ)
    → write (write (write (write memory Free (bit_or (memory Free) (1 * 2 ^ region % 2 ^ 64))) (Top region) 0) (Tams region) 0) (Limit region) 0 ≡ freed_one region memory
freed_by_stores region memory = fun_ext (λ word. freed_by_stores_at region memory word)

-- one bit more in a word

module _ (freed_region : ℕ → Bool) where
  bits_next : (count : ℕ) → bits_of freed_region 0 (count + 1) ≡ one (freed_region count) * 2 ^ count + bits_of freed_region 0 count
  unfolding bits_of
  bits_next count =
      let next_count : count + 1 ≡ suc count = omega arith in
      let same_count : 0 + count ≡ count = omega arith in
      ap (bits_of freed_region 0) next_count ∙ ap (λ region. one (freed_region region) * 2 ^ count + bits_of freed_region 0 count) same_count

  bit_set : (x count : ℕ) → count < 64 → freed_region count ≡ true → bit_or (bit_or x (bits_of freed_region 0 count)) (1 * 2 ^ count % 2 ^ 64) ≡ bit_or x (bits_of freed_region 0 (count + 1))
  bit_set x count count_below goes_out =
      let mask : 1 * 2 ^ count % 2 ^ 64 ≡ 1 * 2 ^ count = one_shl count 64 count_below ∙ once (2 ^ count) in
      let joined : bit_or (bits_of freed_region 0 count) (1 * 2 ^ count) ≡ 1 * 2 ^ count + bits_of freed_region 0 count =
      or_comm (bits_of freed_region 0 count) (1 * 2 ^ count) ∙ or_shifted 1 count (bits_of freed_region 0 count) (bits_small freed_region 0 count) in
      let next_bits : bits_of freed_region 0 (count + 1) ≡ 1 * 2 ^ count + bits_of freed_region 0 count = bits_next count ∙ ap (λ outcome. one outcome * 2 ^ count + bits_of freed_region 0 count) goes_out in
      or_assoc x (bits_of freed_region 0 count) (1 * 2 ^ count % 2 ^ 64) ∙ ap (bit_or x) (ap (bit_or (bits_of freed_region 0 count)) mask ∙ joined ∙ sym next_bits)
    where
      once : (y : ℕ) → y ≡ 1 * y
      once y = omega arith

  bit_left : (x count : ℕ) → freed_region count ≡ false → bit_or x (bits_of freed_region 0 count) ≡ bit_or x (bits_of freed_region 0 (count + 1))
  bit_left x count region_stays =
      ap (bit_or x) (sym (bits_next count ∙ ap (λ outcome. one outcome * 2 ^ count + bits_of freed_region 0 count) region_stays ∙ none (2 ^ count) (bits_of freed_region 0 count)))
    where
      none : (y z : ℕ) → 0 * y + z ≡ z
      none y z = omega arith

  -- one region more

  turned_out : (count region value : ℕ) → freed_region count ≡ true → cond (count == region) 0 (cond (nat_lt region count && freed_region region) 0 value) ≡ cond (nat_lt region (count + 1) && freed_region region) 0 value
  turned_out count region value goes_out = grind (arith, nat_tests)

  turned_left : (count region value : ℕ) → freed_region count ≡ false → cond (nat_lt region count && freed_region region) 0 value ≡ cond (nat_lt region (count + 1) && freed_region region) 0 value
  turned_left count region value region_stays = grind (arith, nat_tests)

  freed_next_at : (count : ℕ) (memory : Word → ℕ) (word : Word) → count < 64 → freed_region count ≡ true → freed_one count (freed_below freed_region count memory) word ≡ freed_below freed_region (count + 1) memory word
  freed_next_at count memory Free count_below goes_out = bit_set (memory Free) count count_below goes_out
  freed_next_at count memory (Top region) count_below goes_out = turned_out count region (memory (Top region)) goes_out
  freed_next_at count memory (Tams region) count_below goes_out = turned_out count region (memory (Tams region)) goes_out
  freed_next_at count memory (Limit region) count_below goes_out = turned_out count region (memory (Limit region)) goes_out
  freed_next_at count memory _ count_below goes_out = refl

  pub freed_next : (count : ℕ) (memory : Word → ℕ) → count < 64 → freed_region count ≡ true → freed_one count (freed_below freed_region count memory) ≡ freed_below freed_region (count + 1) memory
  freed_next count memory count_below goes_out = fun_ext (λ word. freed_next_at count memory word count_below goes_out)

  left_next_at : (count : ℕ) (memory : Word → ℕ) (word : Word) → freed_region count ≡ false → freed_below freed_region count memory word ≡ freed_below freed_region (count + 1) memory word
  left_next_at count memory Free region_stays = bit_left (memory Free) count region_stays
  left_next_at count memory (Top region) region_stays = turned_left count region (memory (Top region)) region_stays
  left_next_at count memory (Tams region) region_stays = turned_left count region (memory (Tams region)) region_stays
  left_next_at count memory (Limit region) region_stays = turned_left count region (memory (Limit region)) region_stays
  left_next_at count memory _ region_stays = refl

  pub left_next : (count : ℕ) (memory : Word → ℕ) → freed_region count ≡ false → freed_below freed_region count memory ≡ freed_below freed_region (count + 1) memory
  left_next count memory region_stays = fun_ext (λ word. left_next_at count memory word region_stays)

  -- none yet

  none_yet : (region value : ℕ) → value ≡ cond (nat_lt region 0 && freed_region region) 0 value
  none_yet region value = grind (arith, nat_tests)

  no_bit : (x : ℕ) → x ≡ bit_or x (bits_of freed_region 0 0)
  unfolding bits_of
  no_bit x = same_from_bits x (bit_or x 0) (λ index. omega (arith, bit_at_or x 0 index, bit_at_above 0 0 index))

  freed_none_at : (memory : Word → ℕ) (word : Word) → memory word ≡ freed_below freed_region 0 memory word
  freed_none_at memory Free = no_bit (memory Free)
  freed_none_at memory (Top region) = none_yet region (memory (Top region))
  freed_none_at memory (Tams region) = none_yet region (memory (Tams region))
  freed_none_at memory (Limit region) = none_yet region (memory (Limit region))
  freed_none_at memory _ = refl

  pub freed_none : (memory : Word → ℕ) → memory ≡ freed_below freed_region 0 memory
  freed_none memory = fun_ext (λ word. freed_none_at memory word)

  -- the region whose turn comes is dead exactly if it was at first

  bit_stays : (x count : ℕ) → bit_at (bit_or x (bits_of freed_region 0 count)) count ≡ bit_at x count
  bit_stays x count = omega (arith, bit_at_or x (bits_of freed_region 0 count) count, bit_at_above (bits_of freed_region 0 count) count count (bits_small freed_region 0 count) (omega arith))

  not_turned : (count value : ℕ) → cond (nat_lt count count && freed_region count) 0 value ≡ value
  not_turned count value = grind (arith, nat_tests)

  pub dead_still : (config : Config) (region : ℕ) (memory : Word → ℕ) → is_dead config (freed_below freed_region region memory) region ≡ is_dead config memory region
  dead_still config region memory =
      ap (λ free_bit. (free_bit == 0) && not (is_pinned config memory region) && not (is_current config memory region) && (freed_below freed_region region memory (Top region) == freed_below freed_region region memory (Tams region)) && not (has_black config memory region)) (bit_stays (memory Free) region)
      ∙ ap (λ word. (bit_at (memory Free) region == 0) && not (is_pinned config memory region) && not (is_current config memory region) && (word == freed_below freed_region region memory (Tams region)) && not (has_black config memory region)) (not_turned region (memory (Top region)))
      ∙ ap (λ word. (bit_at (memory Free) region == 0) && not (is_pinned config memory region) && not (is_current config memory region) && (memory (Top region) == word) && not (has_black config memory region)) (not_turned region (memory (Tams region)))

-- all regions

module _ (config : Config) (words : List ℕ) (freed_region : ℕ → Bool) where
  abbrev now : Word → ℕ
  now = view config words

  below_all : (region x : ℕ) → (nat_lt region config.regions ≡ false → x ≡ 0) → cond (nat_lt region config.regions && freed_region region) 0 x ≡ cond (freed_region region) 0 x
  below_all region x none_past = by_test (nat_lt region config.regions) (freed_region region) x none_past
    where
      by_test : (holds other_holds : Bool) (value : ℕ) → (holds ≡ false → value ≡ 0) → cond (holds && other_holds) 0 value ≡ cond other_holds 0 value
      by_test true other_holds value is_none = refl
      by_test false true value is_none = is_none refl
      by_test false false value is_none = refl

  freed_all_at : (word : Word) → freed_below freed_region config.regions now word ≡ freed config freed_region now word
  freed_all_at (Top region) = below_all region (now (Top region)) (λ region_past. view_none config words (Top region) region_past)
  freed_all_at (Tams region) = below_all region (now (Tams region)) (λ region_past. view_none config words (Tams region) region_past)
  freed_all_at (Limit region) = below_all region (now (Limit region)) (λ region_past. view_none config words (Limit region) region_past)
  freed_all_at _ = refl

  pub freed_all : freed_below freed_region config.regions now ≡ freed config freed_region now
  freed_all = fun_ext freed_all_at
