-- A row is shut exactly where its region is pinned.
use Rattle.std.proofs.Common.{◌≡◌, ℕ, ◌+◌, ◌-◌, ◌<◌, ◌≤◌, ◌==◌, ◌&&◌, nat_le, nat_lt, true, false, ⊎_elim, sym, ap, ◌∙◌, arith}
use Rattle.std.specs.Int.{bit_at}
use Rattle.std.proofs.lemmas.Bool.{cases_Bool, cases_lt, and_parts, and_from, eqb-true, lt-ltb, ltb-true, false_from_ne_true, true≢false}
use Rattle.std.proofs.lemmas.Nat.Bits.{bit_at_above}
use Rattle.heap_words.specs.declared.config.Config.{Config}
use Rattle.heap_words.specs.Words.{Word}
use Rattle.image_graph.specs.Pinned.{is_pinned, pinned_set, is_row_pinned}
use Rattle.image_graph.proofs.FreeWord.{set_small, set_is}
use Rattle.image_graph.proofs.PinnedRows.{row_pinned}

module _ (config : Config) (memory : Word → ℕ) where
  -- a shut row is that of a pinned region
  pub shut_pinned : (region : ℕ) → is_row_pinned config memory (region + 1) ≡ true → (region < config.regions) × (is_pinned config memory region ≡ true)
  shut_pinned region closed =
      let pins = pinned_set config memory in
      let row_back : region + 1 - 1 ≡ region = omega arith in
      let bit : bit_at pins region ≡ 1 = ap (bit_at pins) (sym row_back) ∙ eqb-true (bit_at pins (region + 1 - 1)) 1 (and_parts (nat_le (region + 1) 64) (bit_at pins (region + 1 - 1) == 1) closed).1 in
      let inside : region < config.regions = ⊎_elim
      (λ (region_below : region < config.regions). region_below)
      (λ (no_region : config.regions ≤ region). absurd (let no_bit = bit_at_above pins config.regions region (set_small (is_pinned config memory) config.regions) no_region in omega (arith, bit, no_bit)))
      (cases_lt region config.regions) in
      (inside, set_is (is_pinned config memory) config.regions region inside bit)

  pub row_is_pinned : (region : ℕ) → is_row_pinned config memory (region + 1) ≡ (nat_lt region config.regions && is_pinned config memory region)
  row_is_pinned region = ⊎_elim
      (λ (both_true : (nat_lt region config.regions && is_pinned config memory region) ≡ true).
      let true_parts = and_parts (nat_lt region config.regions) (is_pinned config memory region) both_true in
      row_pinned config memory region (ltb-true region config.regions true_parts.0) true_parts.1 ∙ sym both_true)
      (λ (not_both : (nat_lt region config.regions && is_pinned config memory region) ≡ false).
      false_from_ne_true (is_row_pinned config memory (region + 1)) (λ closed.
      let pinned_region = shut_pinned region closed in
      true≢false (sym (and_from (nat_lt region config.regions) (is_pinned config memory region) (lt-ltb region config.regions pinned_region.0) pinned_region.1) ∙ not_both))
      ∙ sym not_both)
      (cases_Bool (nat_lt region config.regions && is_pinned config memory region))
