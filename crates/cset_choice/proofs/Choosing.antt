-- The choice from a table of what lives in each region.
use Rattle.std.proofs.Common.{◌≡◌, ◌≢◌, ℕ, ◌+◌, ◌-◌, ◌*◌, ◌/◌, ◌^◌, ◌<◌, ◌≤◌, ◌==◌, ◌&&◌, ◌||◌, nat_lt, nat_le, not, cond, if◌then◌else◌, Bool, true, false, zero, suc, List, Option, Some, None, is_some, IfSome, unwrap_or, length, slice_index, slice_set, replicate, ⊎_elim, refl, sym, ap, ◌∙◌, arith}
use Rattle.std.specs.Int.{bit_at}
use Rattle.std.proofs.lemmas.Bool.{cond_both, cases_eq, cases_Bool, eq-eqb, false≢true}
use Rattle.std.proofs.Math.ListN.{length-set, length-replicate}
use Rattle.std.proofs.lemmas.List.{get_or-replicate, get_or-set_same, get_or-set_other}
use Rattle.std.proofs.lemmas.Nat.Bits.{bit_at_above, bit_at-lt}
use Rattle.heap_words.specs.declared.config.Config.{Config}
use Rattle.heap_words.specs.Words.{Word, Free, Top, Tams}
use Rattle.regions.proofs.Sums.{sum_same}
use Rattle.regions.specs.Sets.{members_below}
use Rattle.image_graph.specs.Pinned.{is_pinned}
use Rattle.cycle_words.specs.Marking.Marks.{bits_of}
use Rattle.cycle_words.proofs.Marking.Bits.{one, bits_at}
use Rattle.cycle_words.specs.Marking.Final.{is_current}
use Rattle.cycle_words.specs.Evacuation.Live.{live_words, garbage, is_candidate}
use Rattle.cycle_words.specs.Evacuation.Front.{comes_before, live_up_to, is_in_front}
use Rattle.cset_choice.specs.Tables.{AreLive, adds, most_live, up_to}

-- a set of regions below a number has no others
pub members_past : (set bound beyond : ℕ) → set < 2 ^ bound → members_below set (bound + beyond) ≡ members_below set bound
unfolding members_below
members_past set bound zero small = (let plain : bound + 0 ≡ bound = omega arith in ap (members_below set) plain)
members_past set bound (suc beyond) small =
    let next_number : bound + suc beyond ≡ suc (bound + beyond) = omega arith in
    let no_bit : bit_at set (bound + beyond) ≡ 0 = bit_at_above set bound (bound + beyond) small (omega arith) in
    let before = members_past set bound beyond small in
    let step : members_below set (bound + suc beyond) ≡ members_below set (bound + beyond) + bit_at set (bound + beyond) = ap (members_below set) next_number in
    omega (arith, no_bit, before, step)

pub members_all : (set bound : ℕ) → bound ≤ 64 → set < 2 ^ bound → members_below set 64 ≡ members_below set bound
members_all set bound at_most small =
    let rest = 64 - bound in
    let all_regions : bound + rest ≡ 64 = omega (arith, at_most) in
    sym (ap (members_below set) all_regions) ∙ members_past set bound rest small

pub members_few : (set bound : ℕ) → members_below set bound ≤ bound
unfolding members_below
members_few set zero = omega arith
members_few set (suc bound) = omega (arith, members_few set bound, bit_at-lt set bound)

-- one region more
pub bits_next : (test : ℕ → Bool) (region chosen_set next_set : ℕ) (member : Bool) → chosen_set ≡ bits_of test 0 region → member ≡ test region → next_set ≡ cond member 1 0 * 2 ^ region + chosen_set
    → next_set ≡ bits_of test 0 (region + 1)
unfolding bits_of
bits_next test region chosen_set next_set member before tested next_is =
    let next_number : region + 1 ≡ suc region = omega arith in
    let same_region : region ≡ 0 + region = omega arith in
    next_is ∙ ap (λ is_member. one is_member * 2 ^ region + chosen_set) (tested ∙ ap test same_region) ∙ ap (λ earlier_bits. one (test (0 + region)) * 2 ^ region + earlier_bits) before ∙ ap (bits_of test 0) (sym next_number)

pub bits_none_yet : (test : ℕ → Bool) → 0 ≡ bits_of test 0 0
unfolding bits_of
bits_none_yet test = refl

-- where all else of a candidate holds, its garbage decides
pub garbage_decides : (config : Config) (memory : Word → ℕ) (region : ℕ) → bit_at (memory Free) region ≡ 0 → is_pinned config memory region ≡ false → is_current config memory region ≡ false → memory (Top region) ≡ memory (Tams region)
    → is_candidate config memory region ≡ nat_le (config.region_words / 4) (garbage config memory region)
garbage_decides config memory region not_free pin seat top =
    let enough = nat_le (config.region_words / 4) (garbage config memory region) in
    ap (λ holds. holds && not (is_pinned config memory region) && not (is_current config memory region) && (memory (Top region) == memory (Tams region)) && enough) (eq-eqb (bit_at (memory Free) region) 0 not_free)
    ∙ ap (λ holds. not holds && not (is_current config memory region) && (memory (Top region) == memory (Tams region)) && enough) pin
    ∙ ap (λ holds. not holds && (memory (Top region) == memory (Tams region)) && enough) seat
    ∙ ap (λ holds. holds && enough) (eq-eqb (memory (Top region)) (memory (Tams region)) top)

-- what a region adds is at most what lives in it
pub adds_few : (live : List ℕ) (chosen_set region index bound : ℕ) → slice_index live index ≤ bound → adds live chosen_set region index ≤ bound
adds_few live chosen_set region index bound at_most =
    cond_both ((bit_at chosen_set index == 1) && not (comes_before (slice_index live) region index)) (slice_index live index) 0 (λ x. x ≤ bound) (λ _. at_most) (λ _. omega arith)

-- a table of the first so many regions
pub record AreLiveBelow (config : Config) (memory : Word → ℕ) (live : List ℕ) (n : ℕ) : Type 0 where
  pub long : length live ≡ 64
  pub small : (index : ℕ) → index < 64 → slice_index live index ≤ most_live
  pub is : (index : ℕ) → index < n → is_candidate config memory index ≡ true → slice_index live index ≡ live_words config memory index

pub live_none : (config : Config) (memory : Word → ℕ) → AreLiveBelow config memory (replicate 64 0) 0
live_none config memory = record {
  long = length-replicate {A = ℕ} 64 0;
  small = λ region region_below. (let no_words = get_or-replicate {A = ℕ} 64 region 0 0 region_below in omega (arith, no_words));
  is = λ region region_below. absurd (omega (arith, region_below));
}

pub live_more : (config : Config) (memory : Word → ℕ) (live : List ℕ) (region words : ℕ) → region < 64 → (is_candidate config memory region ≡ true → words ≡ live_words config memory region) → words ≤ most_live → AreLiveBelow config memory live region
    → AreLiveBelow config memory (slice_set live region words) (region + 1)
live_more config memory live region words few words_are bound before =
    let inside : region < length live = omega (arith, few, before.long) in
    record {
      long = length-set live region words ∙ before.long;
      small = λ index index_below. ⊎_elim
          (λ (same_region : index ≡ region). (let entry_there : slice_index (slice_set live region words) index ≡ words = ap (slice_index (slice_set live region words)) same_region ∙ get_or-set_same live region words 0 inside in omega (arith, entry_there, bound)))
          (λ (regions_differ : index ≢ region). (let entry_there : slice_index (slice_set live region words) index ≡ slice_index live index = get_or-set_other live region index words 0 regions_differ in omega (arith, entry_there, before.small index index_below)))
          (cases_eq index region);
      is = λ asked_region index_below told_candidate. ⊎_elim
          (λ (same_region : asked_region ≡ region). ap (slice_index (slice_set live region words)) same_region ∙ get_or-set_same live region words 0 inside ∙ words_are (ap (is_candidate config memory) (sym same_region) ∙ told_candidate) ∙ ap (live_words config memory) (sym same_region))
          (λ (regions_differ : asked_region ≢ region). get_or-set_other live region asked_region words 0 regions_differ ∙ before.is asked_region (omega (arith, index_below, regions_differ)) told_candidate)
          (cases_eq asked_region region);
    }

-- what was counted of a candidate, as the number that a table has of it
pub counted_words : (counted : Option ℕ) (words live : ℕ) (test : Bool) → words ≡ unwrap_or counted 0 → is_some counted ≡ test → IfSome counted (λ count. count ≡ live) → test ≡ true → words ≡ live
counted_words None words live test words_are some_counted same_live test_true = absurd (false≢true (some_counted ∙ test_true))
counted_words (Some count) words live test words_are some_counted same_live test_true = words_are ∙ same_live

pub counted_few : (counted : Option ℕ) (words bound : ℕ) → words ≡ unwrap_or counted 0 → IfSome counted (λ count. count ≤ bound) → words ≤ bound
counted_few None words bound words_are few = omega (arith, words_are)
counted_few (Some count) words bound words_are few = omega (arith, words_are, few)

-- the digit of a region tells whether the test does
digit_tells : (holds : Bool) → (one holds == 1) ≡ holds
digit_tells true = refl
digit_tells false = refl

pub member_tells : (test : ℕ → Bool) (bound region : ℕ) → region < bound → (bit_at (bits_of test 0 bound) region == 1) ≡ test region
member_tells test bound region region_below =
    let same_region : 0 + region ≡ region = omega arith in
    ap (λ digit. digit == 1) (bits_at test 0 bound region region_below) ∙ digit_tells (test (0 + region)) ∙ ap test same_region

-- the order by the table is that by the words
before_same : (live other_live : ℕ → ℕ) (other_region region : ℕ) → live other_region ≡ other_live other_region → live region ≡ other_live region → comes_before live other_region region ≡ comes_before other_live other_region region
before_same live second_live other_region region first_same second =
    ap (λ other_amount. nat_lt other_amount (live region) || ((other_amount == live region) && nat_lt other_region region)) first_same ∙ ap (λ own_amount. nat_lt (second_live other_region) own_amount || ((second_live other_region == own_amount) && nat_lt other_region region)) second

module _ (config : Config) (memory : Word → ℕ) (live : List ℕ) (are_live : AreLive config memory live) where
  abbrev candidate : ℕ → Bool
  candidate = is_candidate config memory

  abbrev lives : ℕ → ℕ
  lives = live_words config memory

  abbrev candidates : ℕ
  candidates = bits_of candidate 0 config.regions

  -- what one candidate adds up to another is the same by the table and by the words
  same_added : (other_region region : ℕ) → other_region < config.regions → candidate other_region ≡ true → region < config.regions
      → (if candidate region && not (comes_before (slice_index live) other_region region) then slice_index live region else 0) ≡ (if candidate region && not (comes_before lives other_region region) then lives region else 0)
  same_added other_region region other_below other_candidate inside = ⊎_elim
      (λ (told_candidate : candidate region ≡ true).
      ap (λ holds. if candidate region && not holds then slice_index live region else 0) (before_same (slice_index live) lives other_region region (are_live.is other_region other_below other_candidate) (are_live.is region inside told_candidate))
      ∙ ap (λ amount. if candidate region && not (comes_before lives other_region region) then amount else 0) (are_live.is region inside told_candidate))
      (λ (no_candidate : candidate region ≡ false).
      ap (λ holds. if holds && not (comes_before (slice_index live) other_region region) then slice_index live region else 0) no_candidate
      ∙ sym (ap (λ holds. if holds && not (comes_before lives other_region region) then lives region else 0) no_candidate))
      (cases_Bool (candidate region))

  pub up_to_is : (region : ℕ) → region < config.regions → candidate region ≡ true → up_to live candidates config.regions region ≡ live_up_to config.regions lives candidate region
  up_to_is region region_below region_candidate =
      sum_same (adds live candidates region)
      (λ other_region. if candidate other_region && not (comes_before lives region other_region) then lives other_region else 0) config.regions
      (λ other_region inside.
      ap (λ is_member. if is_member && not (comes_before (slice_index live) region other_region) then slice_index live other_region else 0) (member_tells candidate config.regions other_region inside)
      ∙ same_added region other_region region_below region_candidate inside)

  pub fits_is : (region limit : ℕ) → region < config.regions
      → ((bit_at candidates region == 1) && nat_le (up_to live candidates config.regions region) limit) ≡ is_in_front config.regions limit lives candidate region
  fits_is region limit region_below =
      ap (λ is_member. is_member && nat_le (up_to live candidates config.regions region) limit) (member_tells candidate config.regions region region_below)
      ∙ ⊎_elim
      (λ (told_candidate : candidate region ≡ true). ap (λ words_up_to. candidate region && nat_le words_up_to limit) (up_to_is region region_below told_candidate))
      (λ (no_candidate : candidate region ≡ false).
      ap (λ is_member. is_member && nat_le (up_to live candidates config.regions region) limit) no_candidate
      ∙ sym (ap (λ is_member. is_member && nat_le (live_up_to config.regions lives candidate region) limit) no_candidate))
      (cases_Bool (candidate region))
