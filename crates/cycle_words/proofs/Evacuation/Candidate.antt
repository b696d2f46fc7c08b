-- The test of a candidate says what it is to be one.
use Rattle.std.proofs.Common.{◌≡◌, ℕ, ◌/◌, ◌==◌, ◌&&◌, ◌↔◌, nat_le, not, Bool, true, false}
use Rattle.std.specs.Int.{bit_at}
use Rattle.std.proofs.lemmas.Bool.{and_parts, and_from, eqb-true, eq-eqb, leb-true, le-leb, not-true, not_from_false, false_from_ne_true, both_ways}
use Rattle.heap_words.specs.declared.config.Config.{Config}
use Rattle.heap_words.specs.Words.{Word, Free, Top, Tams}
use Rattle.image_graph.specs.Pinned.{is_pinned}
use Rattle.cycle_words.specs.Marking.Final.{is_current}
use Rattle.cycle_words.proofs.Marking.Dead.{current_is, is_current_of}
use Rattle.cycle_words.specs.Evacuation.Live.{garbage, is_candidate, IsCandidate}

module _ (config : Config) (memory : Word → ℕ) (region : ℕ) where
  abbrev used : Bool
  used = bit_at (memory Free) region == 0

  abbrev loose : Bool
  loose = not (is_pinned config memory region)

  abbrev unseated : Bool
  unseated = not (is_current config memory region)

  abbrev filled : Bool
  filled = memory (Top region) == memory (Tams region)

  abbrev wasted : Bool
  wasted = nat_le (config.region_words / 4) (garbage config memory region)

  is_so : is_candidate config memory region ≡ true → IsCandidate config memory region
  is_so candidate =
      let test_parts = and_parts (used && loose && unseated && filled) wasted candidate in
      let second_parts = and_parts (used && loose && unseated) filled test_parts.0 in
      let third_parts = and_parts (used && loose) unseated second_parts.0 in
      let fourth_parts = and_parts used loose third_parts.0 in
      record {
        in_use = eqb-true (bit_at (memory Free) region) 0 fourth_parts.0;
        unpinned = not-true (is_pinned config memory region) fourth_parts.1;
        nobodys = λ seat. both_ways (is_current config memory region) (not-true (is_current config memory region) third_parts.1) (is_current_of config memory region seat);
        no_new = eqb-true (memory (Top region)) (memory (Tams region)) second_parts.1;
        quarter = leb-true (config.region_words / 4) (garbage config memory region) test_parts.1;
      }

  is_told : IsCandidate config memory region → is_candidate config memory region ≡ true
  is_told candidate =
      let no_seat : is_current config memory region ≡ false = false_from_ne_true (is_current config memory region) (λ seat. candidate.nobodys (current_is config memory region seat)) in
      and_from (used && loose && unseated && filled) wasted
      (and_from (used && loose && unseated) filled
      (and_from (used && loose) unseated (and_from used loose (eq-eqb (bit_at (memory Free) region) 0 candidate.in_use) (not_from_false (is_pinned config memory region) candidate.unpinned))
      (not_from_false (is_current config memory region) no_seat))
      (eq-eqb (memory (Top region)) (memory (Tams region)) candidate.no_new))
      (le-leb (config.region_words / 4) (garbage config memory region) candidate.quarter)

  pub candidate_is_candidate : (is_candidate config memory region ≡ true) ↔ IsCandidate config memory region
  candidate_is_candidate = (is_so, is_told)
