-- The free word: its lowest region, and a region that is taken out of it.
use Rattle.std.proofs.Common.{◌≡◌, ◌≢◌, ℕ, ◌^◌, ◌<◌, ◌≤◌, Option, Some, None, ⊎_elim, sym, ap, ◌∙◌, subst, arith, w64, pow_mono}
use Rattle.std.specs.Prelude.{◌*◌, ◌%◌, bit_and, bit_or}
use Rattle.std.specs.Int.{bit_at}
use Rattle.std.proofs.lemmas.Bool.{cases_eq, cases_lt}
use Rattle.std.proofs.lemmas.Option.{none-some}
use Rattle.std.proofs.lemmas.Nat.{and_le_l, or_lt, one_shl, pow_below}
use Rattle.std.proofs.lemmas.Nat.Bits.{bit_at_above, bit_at_clear_same, bit_at_clear_other, bit_at_set_other}
use Rattle.heap_words.specs.declared.config.Config.{Config}
use Rattle.regions.specs.Sets.{IsIn, members_below, lowest_in, all_but}
use Rattle.regions.proofs.SetLemmas.{lowest_member, no_members}
use Rattle.heap_world.specs.World.{IsFreeWord, IsOpen}
use Rattle.heap_world.proofs.FunctionUpdates.{updated, updated_else}

-- the lowest region of a free word that has members is one of the heap
pub lowest_within : (config : Config) (free_regions kept : ℕ) → free_regions < 2 ^ config.regions → kept < members_below free_regions 64 → lowest_in free_regions < config.regions
lowest_within config free_regions kept small kept_below = ⊎_elim
    (λ (within : lowest_in free_regions < config.regions). within)
    (λ (all_past : config.regions ≤ lowest_in free_regions).
    let bits : 2 ^ config.regions ≤ 2 ^ 64 = pow_mono config.in_range.most_regions in
    let members : free_regions ≢ 0 = λ no_regions. (let count : members_below free_regions 64 ≡ 0 = ap (λ set. members_below set 64) no_regions ∙ no_members in omega (arith, count, kept_below)) in
    let lowest = lowest_member free_regions (omega (arith, members)) (omega (arith, small, bits)) in
    let bit = bit_at_above free_regions config.regions (lowest_in free_regions) small all_past in
    absurd (omega (arith, bit, lowest.member)))
    (cases_lt (lowest_in free_regions) config.regions)

-- where a region was nobody's, each one keeps its regions
pub owner_stays : (owner : ℕ → Option ℕ) (region seat : ℕ) → owner region ≡ None → (other_region other_seat : ℕ) → owner other_region ≡ Some other_seat → updated owner region (Some seat) other_region ≡ Some other_seat
owner_stays owner region seat nobodys other_region other_seat is_owner = updated_else owner region (Some seat) other_region (λ same_region. none-some other_seat (sym nobodys ∙ ap owner same_region ∙ is_owner)) ∙ is_owner

-- a region that is free without another one was free
pub free_before : (config : Config) (free_regions region : ℕ) → region < config.regions → (other_region : ℕ) → other_region < config.regions → IsIn (bit_and free_regions (all_but region)) other_region → IsIn free_regions other_region
free_before config free_regions region within other_region inside bit =
    let few = config.in_range.most_regions in
    let regions_differ : other_region ≢ region = λ same_region.
    let bit_gone = bit_at_clear_same w64 free_regions region (omega (arith, within, few)) in
    let bit_here : bit_at (bit_and free_regions (all_but region)) region ≡ 1 = subst (λ any_region. bit_at (bit_and free_regions (all_but region)) any_region ≡ 1) same_region bit in
    omega (arith, bit_gone, bit_here)
    in
    sym (bit_at_clear_other w64 free_regions region (omega (arith, within, few)) other_region (omega (arith, inside, few)) regions_differ) ∙ bit

-- The free word without a region: the others stay free, and nobody's.
pub free_without : (config : Config) (free_regions region : ℕ) (top : ℕ → ℕ) (owner after : ℕ → Option ℕ) → region < config.regions
    → ((other_region : ℕ) → other_region ≢ region → after other_region ≡ owner other_region) → IsFreeWord config free_regions top owner → IsFreeWord config (bit_and free_regions (all_but region)) top after
free_without config free_regions region top owner after within others free_word =
    let few = config.in_range.most_regions in
    let old : (other_region : ℕ) → other_region < config.regions → IsIn (bit_and free_regions (all_but region)) other_region → (other_region ≢ region) × IsIn free_regions other_region = λ other_region inside bit.
    let regions_differ : other_region ≢ region = λ same_region.
    let bit_gone = bit_at_clear_same w64 free_regions region (omega (arith, within, few)) in
    let bit_here : bit_at (bit_and free_regions (all_but region)) region ≡ 1 = subst (λ any_region. bit_at (bit_and free_regions (all_but region)) any_region ≡ 1) same_region bit in
    omega (arith, bit_gone, bit_here)
    in
    (regions_differ, sym (bit_at_clear_other w64 free_regions region (omega (arith, within, few)) other_region (omega (arith, inside, few)) regions_differ) ∙ bit)
    in
    record {
      no_more = (let less_word = and_le_l free_regions (all_but region) in let small = free_word.no_more in omega (arith, less_word, small));
      empty = λ other_region inside bit. free_word.empty other_region inside (old other_region inside bit).1;
      nobodys = λ other_region inside bit. others other_region (old other_region inside bit).0 ∙ free_word.nobodys other_region inside (old other_region inside bit).1;
    }

-- a region that may be carved may be so where another one is taken out of the free word, by whomever
pub open_stays : (config : Config) (free_regions cset region : ℕ) (owner after : ℕ → Option ℕ) → region < config.regions → ((other_region : ℕ) → (IsIn free_regions other_region → ⊥) → after other_region ≡ owner other_region)
    → (other_region : ℕ) → IsOpen config free_regions cset owner other_region → IsOpen config (bit_and free_regions (all_but region)) cset after other_region
open_stays config free_regions cset region owner after within same_owner other_region open_region = record {
  within = open_region.within;
  in_use = λ inside. open_region.in_use (free_before config free_regions region within other_region open_region.within inside);
  nobodys = same_owner other_region open_region.in_use ∙ open_region.nobodys;
  outside = open_region.outside;
}

-- The free word with a region more, which has top 0 and is nobody's any more.
pub free_with : (config : Config) (free_regions region : ℕ) (top : ℕ → ℕ) (owner after : ℕ → Option ℕ) → region < config.regions → top region ≡ 0 → after region ≡ None
    → ((other_region : ℕ) → other_region ≢ region → after other_region ≡ owner other_region) → IsFreeWord config free_regions top owner → IsFreeWord config (bit_or free_regions (1 * 2 ^ region % 2 ^ 64)) top after
free_with config free_regions region top owner after within empty nobodys others free_word =
    let few = config.in_range.most_regions in
    let fits : region < 64 = omega (arith, within, few) in
    let old : (other_region : ℕ) → other_region ≢ region → IsIn (bit_or free_regions (1 * 2 ^ region % 2 ^ 64)) other_region → IsIn free_regions other_region = λ other_region regions_differ bit. sym (bit_at_set_other w64 free_regions region fits other_region regions_differ) ∙ bit in
    record {
      no_more =
          let small = free_word.no_more in
          let one_bit : 1 * 2 ^ region % 2 ^ 64 ≡ 2 ^ region = one_shl region 64 fits in
          let power_less : 2 ^ region < 2 ^ config.regions = pow_below region config.regions within in
          or_lt config.regions free_regions (1 * 2 ^ region % 2 ^ 64) small (omega (arith, one_bit, power_less));
      empty = λ other_region inside bit. ⊎_elim
          (λ (same_region : other_region ≡ region). ap top same_region ∙ empty)
          (λ (regions_differ : other_region ≢ region). free_word.empty other_region inside (old other_region regions_differ bit))
          (cases_eq other_region region);
      nobodys = λ other_region inside bit. ⊎_elim
          (λ (same_region : other_region ≡ region). ap after same_region ∙ nobodys)
          (λ (regions_differ : other_region ≢ region). others other_region regions_differ ∙ free_word.nobodys other_region inside (old other_region regions_differ bit))
          (cases_eq other_region region);
    }

-- a region is in use still where another one is given back
pub in_use_still : (free_regions region other_region : ℕ) → region < 64 → other_region ≢ region → (IsIn free_regions other_region → ⊥) → IsIn (bit_or free_regions (1 * 2 ^ region % 2 ^ 64)) other_region → ⊥
in_use_still free_regions region other_region fits regions_differ in_use bit = in_use (sym (bit_at_set_other w64 free_regions region fits other_region regions_differ) ∙ bit)
