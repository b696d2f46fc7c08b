-- Sets of regions by a test, and the free word after packing: the regions with top 0.
use Rattle.std.proofs.Common.{◌≡◌, ◌≢◌, ℕ, ◌+◌, ◌-◌, ◌*◌, ◌^◌, ◌<◌, ◌≤◌, ◌==◌, Bool, true, false, zero, suc, cond, None, ⊎_elim, refl, sym, ap, ◌∙◌, arith}
use Rattle.std.specs.Int.{bit_at}
use Rattle.std.proofs.lemmas.Bool.{cond_both, cond-true, cond-false, cases_eq, cases_Bool, eqb-true}
use Rattle.std.proofs.lemmas.Nat.Bits.{bit_at_lowest, bit_at_above, bit_at_cat_low, bit_at_cat_high}
use Rattle.std.proofs.Math.Nat.{pow-suc}
use Rattle.heap_words.specs.declared.config.Config.{Config}
use Rattle.heap_world.specs.World.{IsFreeWord}
use Rattle.image_graph.specs.Pinned.{set_of}
use Rattle.image_graph.specs.Full.{empty_regions}

-- one step of the recursion
set_next : (test : ℕ → Bool) (region : ℕ) → set_of test (suc region) ≡ cond (test region) 1 0 * 2 ^ region + set_of test region
unfolding set_of
set_next test region = refl

set_none : (test : ℕ → Bool) → set_of test 0 ≡ 0
unfolding set_of
set_none test = refl

-- the set has no regions but those below the number
pub set_small : (test : ℕ → Bool) (regions : ℕ) → set_of test regions < 2 ^ regions
set_small test zero = let empty_set = set_none test in omega (arith, empty_set)
set_small test (suc regions) =
    let rest = set_small test regions in
    let double : 2 ^ suc regions ≡ 2 ^ regions * 2 = pow-suc 2 regions in
    let set_step = set_next test regions in
    let bit : cond (test regions) 1 0 * 2 ^ regions ≤ 2 ^ regions = cond_both (test regions) 1 0 (λ value. value * 2 ^ regions ≤ 2 ^ regions) (λ _. omega arith) (λ _. omega arith) in
    omega (arith, rest, double, set_step, bit)

-- a region of the set passes the test
pub set_is : (test : ℕ → Bool) (regions region : ℕ) → region < regions → bit_at (set_of test regions) region ≡ 1 → test region ≡ true
set_is test zero region region_below in_set = absurd (omega (arith, region_below))
set_is test (suc regions) region region_below in_set = ⊎_elim
    (λ (last_region : regions ≡ region). ⊎_elim
    (λ (met : test regions ≡ true). ap test (sym last_region) ∙ met)
    (λ (unmet : test regions ≡ false).
    let no_bit : cond (test regions) 1 0 ≡ 0 = cond-false (test regions) 1 0 unmet in
    let plain : 0 * 2 ^ regions + set_of test regions ≡ set_of test regions = omega arith in
    let rest : set_of test (suc regions) ≡ set_of test regions = set_next test regions ∙ ap (λ (any_bit : ℕ). any_bit * 2 ^ regions + set_of test regions) no_bit ∙ plain in
    let bits_above = bit_at_above (set_of test regions) regions region (set_small test regions) (omega (arith, last_region)) in
    let same_bit : bit_at (set_of test (suc regions)) region ≡ bit_at (set_of test regions) region = ap (λ bits. bit_at bits region) rest in
    absurd (omega (arith, in_set, same_bit, bits_above)))
    (cases_Bool (test regions)))
    (λ (earlier_region : regions ≢ region).
    let earlier : region < regions = omega (arith, region_below, earlier_region) in
    let low = bit_at_cat_low (cond (test regions) 1 0) regions (set_of test regions) region earlier in
    set_is test regions region earlier (sym low ∙ ap (λ bits. bit_at bits region) (sym (set_next test regions)) ∙ in_set))
    (cases_eq regions region)

-- and one that passes it is in the set
pub set_has : (test : ℕ → Bool) (regions region : ℕ) → region < regions → test region ≡ true → bit_at (set_of test regions) region ≡ 1
set_has test zero region region_below met = absurd (omega (arith, region_below))
set_has test (suc regions) region region_below met = ⊎_elim
    (λ (last_region : regions ≡ region).
    let bit : cond (test regions) 1 0 ≡ 1 = cond-true (test regions) 1 0 (ap test last_region ∙ met) in
    let high = bit_at_cat_high (cond (test regions) 1 0) regions (set_of test regions) region (set_small test regions) (omega (arith, last_region)) in
    let no_shift : region - regions ≡ 0 = omega (arith, last_region) in
    ap (λ bits. bit_at bits region) (set_next test regions) ∙ high ∙ ap (bit_at (cond (test regions) 1 0)) no_shift ∙ ap (λ (any_bit : ℕ). bit_at any_bit 0) bit ∙ bit_at_lowest 1)
    (λ (earlier_region : regions ≢ region).
    let earlier : region < regions = omega (arith, region_below, earlier_region) in
    ap (λ bits. bit_at bits region) (set_next test regions) ∙ bit_at_cat_low (cond (test regions) 1 0) regions (set_of test regions) region earlier ∙ set_has test regions region earlier met)
    (cases_eq regions region)

-- the regions with top 0
pub empty_small : (top : ℕ → ℕ) (regions : ℕ) → empty_regions top regions < 2 ^ regions
empty_small top regions = set_small (λ region. top region == 0) regions

pub empty_is : (top : ℕ → ℕ) (regions region : ℕ) → region < regions → bit_at (empty_regions top regions) region ≡ 1 → top region ≡ 0
empty_is top regions region region_below in_set = eqb-true (top region) 0 (set_is (λ any_region. top any_region == 0) regions region region_below in_set)

-- so it is a free word of regions that are nobody's
pub free_again : (config : Config) (top : ℕ → ℕ) → IsFreeWord config (empty_regions top config.regions) top (λ region. None)
free_again config top = record {
  no_more = empty_small top config.regions;
  empty = λ region inside bit. empty_is top config.regions region inside bit;
  nobodys = λ region inside bit. refl;
}
