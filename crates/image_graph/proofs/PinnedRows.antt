-- A row is shut where a pin slot holds an address there, and only there.
use Rattle.std.proofs.Common.{◌≡◌, ℕ, ◌+◌, ◌-◌, ◌*◌, ◌/◌, ◌<◌, ◌≤◌, ◌==◌, nat_le, nat_lt, Bool, true, zero, suc, ⊎_elim, sym, ap, ◌∙◌, arith}
use Rattle.std.specs.List.{range_with_len, list_any}
use Rattle.std.specs.Int.{bit_at}
use Rattle.std.proofs.lemmas.Bool.{cases_lt, and_parts, and_from, or_cases, leb-true, ltb-true, eqb-true, le-leb, lt-ltb, eq-eqb, false≢true}
use Rattle.std.proofs.lemmas.Nat.{div-add-mod', mod_below, mul-le}
use Rattle.shen_graph.proofs.Lists.{any_from_zero}
use Rattle.heap_words.specs.declared.config.Config.{Config}
use Rattle.heap_words.specs.Words.{Word, Pin}
use Rattle.regions.specs.Place.{base_of, region_with}
use Rattle.image_graph.specs.Pinned.{lies_in, has_pin, is_pinned, pinned_set, is_row_pinned}
use Rattle.image_graph.proofs.Rows.{row_above, base_below}
use Rattle.image_graph.proofs.FreeWord.{set_is, set_has}

-- one number of a range passes a test, where any does
pub any_in_range : (test : ℕ → Bool) (first count : ℕ) → list_any test (range_with_len first count) ≡ true → (index : ℕ) × (first ≤ index) × (index < first + count) × (test index ≡ true)
any_in_range test first zero any_passes = absurd (false≢true any_passes)
any_in_range test first (suc count) any_passes = ⊎_elim
    (λ (first_passes : test first ≡ true). (first, omega arith, omega arith, first_passes))
    (λ (later : list_any test (range_with_len (first + 1) count) ≡ true).
    let found_later = any_in_range test (first + 1) count later in
    (found_later.0, omega (arith, found_later.1), omega (arith, found_later.2), found_later.3))
    (or_cases (test first) (list_any test (range_with_len (first + 1) count)) any_passes)

module _ (config : Config) (memory : Word → ℕ) where
  -- the region of an address that a slot holds is pinned
  pub pins_region : (region mutator index : ℕ) → mutator < config.mutators → index < 4 → base_of config region ≤ memory (Pin mutator index) → memory (Pin mutator index) < base_of config region + config.region_words → is_pinned config memory region ≡ true
  pins_region region mutator index mutator_below index_below pin_above_base pin_below_end =
      let slot_lies : lies_in config region (memory (Pin mutator index)) ≡ true =
      and_from (nat_le (base_of config region) (memory (Pin mutator index))) (nat_lt (memory (Pin mutator index)) (base_of config region + config.region_words))
      (le-leb (base_of config region) (memory (Pin mutator index)) pin_above_base) (lt-ltb (memory (Pin mutator index)) (base_of config region + config.region_words) pin_below_end) in
      any_from_zero (has_pin config memory region) config.mutators mutator mutator_below (any_from_zero (λ slot. lies_in config region (memory (Pin mutator slot))) 4 index index_below slot_lies)

  -- so is its row shut
  pub row_pinned : (region : ℕ) → region < config.regions → is_pinned config memory region ≡ true → is_row_pinned config memory (region + 1) ≡ true
  row_pinned region region_below region_pinned =
      let pinned_regions = pinned_set config memory in
      let region_back : region + 1 - 1 ≡ region = omega arith in
      and_from (nat_le (region + 1) 64) (bit_at pinned_regions (region + 1 - 1) == 1) (le-leb (region + 1) 64 (omega (arith, region_below, config.in_range.most_regions)))
      (eq-eqb (bit_at pinned_regions (region + 1 - 1)) 1 (ap (bit_at pinned_regions) region_back ∙ set_has (is_pinned config memory) config.regions region region_below region_pinned))

  pub word_pinned : (mutator index : ℕ) → mutator < config.mutators → index < 4 → config.region_words ≤ memory (Pin mutator index) → memory (Pin mutator index) < (config.regions + 1) * config.region_words
      → is_row_pinned config memory (memory (Pin mutator index) / config.region_words) ≡ true
  word_pinned mutator index mutator_below index_below pin_above_reserve pin_below_end =
      let word = memory (Pin mutator index) in
      let region = region_with config word in
      let row = row_above config word pin_above_reserve in
      let base : (region + 1) * config.region_words ≡ word / config.region_words * config.region_words = ap (λ row_count. row_count * config.region_words) row in
      let rest_below = mod_below word config.region_words (omega (arith, config.in_range.least_words)) in
      let region_inside : region < config.regions = ⊎_elim
      (λ (region_below : region < config.regions). region_below)
      (λ (region_past : config.regions ≤ region).
      let words_past = mul-le (config.regions + 1) config.region_words (region + 1) config.region_words (omega (arith, region_past)) (omega arith) in
      absurd (omega (arith, words_past, base, pin_below_end, div-add-mod' word config.region_words)))
      (cases_lt region config.regions) in
      ap (is_row_pinned config memory) (sym row)
      ∙ row_pinned region region_inside (pins_region region mutator index mutator_below index_below (base_below config word pin_above_reserve) (omega (arith, base, rest_below, div-add-mod' word config.region_words)))

  -- and a row of the heap that is shut has such a slot
  pub has_slot : (region : ℕ) → region < config.regions → is_row_pinned config memory (region + 1) ≡ true
      → (mutator : ℕ) × (slot : ℕ) × (mutator < config.mutators) × (slot < 4) × (base_of config region ≤ memory (Pin mutator slot)) × (memory (Pin mutator slot) < base_of config region + config.region_words)
  has_slot region region_below row_shut =
      let pinned_regions = pinned_set config memory in
      let region_back : region + 1 - 1 ≡ region = omega arith in
      let bit = eqb-true (bit_at pinned_regions (region + 1 - 1)) 1 (and_parts (nat_le (region + 1) 64) (bit_at pinned_regions (region + 1 - 1) == 1) row_shut).1 in
      let region_pinned = set_is (is_pinned config memory) config.regions region region_below (ap (bit_at pinned_regions) (sym region_back) ∙ bit) in
      let found_mutator = any_in_range (has_pin config memory region) 0 config.mutators region_pinned in
      let found_slot = any_in_range (λ slot. lies_in config region (memory (Pin found_mutator.0 slot))) 0 4 found_mutator.3 in
      let word = memory (Pin found_mutator.0 found_slot.0) in
      let lies_between = and_parts (nat_le (base_of config region) word) (nat_lt word (base_of config region + config.region_words)) found_slot.3 in
      (found_mutator.0, found_slot.0, omega (arith, found_mutator.2), omega (arith, found_slot.2), leb-true (base_of config region) word lies_between.0, ltb-true word (base_of config region + config.region_words) lies_between.1)
