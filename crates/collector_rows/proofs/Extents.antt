-- Which words a pause of an extent loads one after the other, which it stores, and how the extent follows from the words loaded.
use Rattle.heap_words.specs.Phases.{evacuation_phase}
use Rattle.std.proofs.Common.{◌≡◌, ◌≢◌, ℕ, ◌+◌, ◌<◌, ◌≤◌, ◌-◌, Bool, true, false, zero, suc, List, [], ◌∷◌, ◌++◌, length, replicate, ⊎_elim, refl, sym, ap, ◌∙◌, subst, arith}
use Rattle.std.specs.Prelude.{◌==◌, ◌&&◌, ◌||◌, nat_lt, nat_le, slice_index, if◌then◌else◌}
use Rattle.std.specs.Int.{bit_at}
use Rattle.std.proofs.lemmas.Bool.{cases_eq, cases_lt, and_parts, and_from, cond-false, ne_eqb, lt-ltb, le-ltb, le-leb, leb-true, ltb-true, ltb-false, false≢true}
use Rattle.std.proofs.lemmas.Bool.Decides.{nat_tests}
use Rattle.std.proofs.lemmas.List.{get_or-replicate, get_or_past, get_or_append_left, get_or-append_right, length-append, length-replicate}
use Rattle.std.proofs.Math.Seq.{get_or-append_seam}
use Rattle.heap_words.specs.declared.config.Config.{Config}
use Rattle.heap_words.specs.Counter.{is_out_of_room}
use Rattle.heap_words.specs.Words.{heap_size}
use Rattle.heap_world.specs.Change.{image_words}
use Rattle.collector_rows.specs.declared.extent.Extent.{Extent}
use Rattle.collector_rows.specs.declared.extent.Extent.TheVariants.{Whole, OffHeap, Ahead}
use Rattle.collector_rows.specs.Extent.{roots_index, heap_index, is_of_extent, next_loaded, first_extent, says_room, extent_after, extent_by, padded, counts, first_counting, next_stored}

-- Words that were left out read 0.
zeros_read : (count index : ℕ) → slice_index (replicate count 0) index ≡ 0
zeros_read count index = ⊎_elim
    (λ (index_below : index < count). get_or-replicate count index 0 0 index_below)
    (λ (index_past : count ≤ index). get_or_past (replicate count 0) index 0 (let zeros_length = length-replicate {A = ℕ} count 0 in omega (arith, zeros_length, index_past)))
    (cases_lt index count)

pub padded_reads : (size : ℕ) (xs : List ℕ) (index : ℕ) → slice_index (padded size xs) index ≡ slice_index xs index
padded_reads size xs index = ⊎_elim
    (λ (index_below : index < length xs). get_or_append_left xs (replicate (size - length xs) 0) 0 index index_below)
    (λ (index_past : length xs ≤ index).
    get_or-append_right xs (replicate (size - length xs) 0) (length xs) index 0 refl index_past ∙ zeros_read (size - length xs) (index - length xs) ∙ sym (get_or_past xs index 0 index_past))
    (cases_lt index (length xs))

pub padded_long : (size : ℕ) (xs : List ℕ) → length xs ≤ size → length (padded size xs) ≡ size
padded_long size xs fits =
    let length_sum = length-append xs (replicate (size - length xs) 0) in
    let zeros = length-replicate {A = ℕ} (size - length xs) 0 in
    omega (arith, length_sum, zeros, fits)

-- a list with one more at its end: what it reads there, before that, and behind it
snoc_here : (xs : List ℕ) (x index : ℕ) → length xs ≡ index → slice_index (xs ++ x ∷ []) index ≡ x
snoc_here xs x index same_length = ap (λ index. slice_index (xs ++ x ∷ []) index) (sym same_length) ∙ get_or-append_seam xs x [] 0

snoc_else : (xs : List ℕ) (x index : ℕ) → (index ≡ length xs → ⊥) → slice_index (xs ++ x ∷ []) index ≡ slice_index xs index
snoc_else xs x index differs = ⊎_elim
    (λ (index_below : index < length xs). get_or_append_left xs (x ∷ []) 0 index index_below)
    (λ (index_past : length xs ≤ index).
    let length_sum = length-append xs (x ∷ []) in
    get_or_past (xs ++ x ∷ []) index 0 (omega (arith, length_sum, index_past, differs)) ∙ sym (get_or_past xs index 0 index_past))
    (cases_lt index (length xs))

-- The words off a stretch.
module _ (start size : ℕ) where
  abbrev off : ℕ → Bool
  off index = nat_lt index start || nat_le (start + size) index

  pub off_before : (index : ℕ) → index < start → off index ≡ true
  off_before index before_start = grind (arith, nat_tests, before_start)

  pub off_behind : (index : ℕ) → start + size ≤ index → off index ≡ true
  off_behind index at_most = grind (arith, nat_tests, at_most)

  pub off_within : (index : ℕ) → start ≤ index → index < start + size → off index ≡ false
  off_within index at_most before_end = grind (arith, nat_tests, at_most, before_end)

  off_beside : (index : ℕ) → (nat_le start index && nat_lt index (start + size)) ≡ false → off index ≡ true
  off_beside index not_within = ⊎_elim
      (λ (before_start : index < start). off_before index before_start)
      (λ (from : start ≤ index). ⊎_elim
      (λ (before_end : index < start + size). absurd (false≢true (sym not_within ∙ and_from (nat_le start index) (nat_lt index (start + size)) (le-leb start index from) (lt-ltb index (start + size) before_end))))
      (λ (past_end : start + size ≤ index). off_behind index past_end)
      (cases_lt index (start + size)))
      (cases_lt index start)

-- The first words of an image are of each extent: those that stand for a cycle.
pub early : (config : Config) (extent : Extent) (index : ℕ) → index < 7 → is_of_extent config extent index ≡ true
early config Whole index index_early = refl
early config OffHeap index index_early = off_before (heap_index config) (heap_size config) index (omega (arith, index_early))
early config Ahead index index_early = lt-ltb index (roots_index config) (omega (arith, index_early))

-- one index is the next of the extent behind another: none between is
pub record IsNext (config : Config) (extent : Extent) (k next : ℕ) : Type 0 where
  pub above : k < next
  pub most : next ≤ image_words config
  pub between : (i : ℕ) → k < i → i < next → is_of_extent config extent i ≡ false
  pub here : next < image_words config → is_of_extent config extent next ≡ true

pub next_is : (config : Config) (extent : Extent) (index : ℕ) → index < image_words config → IsNext config extent index (next_loaded config extent index)
next_is config Whole index index_below = record { above = omega arith; most = omega (arith, index_below); between = λ asked_index more less. absurd (omega (arith, more, less)); here = λ less. refl }
next_is config OffHeap index index_below = by_test (nat_le (heap_index config) (index + 1) && nat_lt (index + 1) (heap_index config + heap_size config)) refl
  where
    by_test : (holds : Bool) → (nat_le (heap_index config) (index + 1) && nat_lt (index + 1) (heap_index config + heap_size config)) ≡ holds → IsNext config OffHeap index (if holds then heap_index config + heap_size config else index + 1)
    by_test true tested =
        let both_bounds = and_parts (nat_le (heap_index config) (index + 1)) (nat_lt (index + 1) (heap_index config + heap_size config)) tested in
        let from : heap_index config ≤ index + 1 = leb-true (heap_index config) (index + 1) both_bounds.0 in
        let before_end : index + 1 < heap_index config + heap_size config = ltb-true (index + 1) (heap_index config + heap_size config) both_bounds.1 in
        record {
          above = omega (arith, before_end);
          most = omega arith;
          between = λ asked_index is_past is_before. off_within (heap_index config) (heap_size config) asked_index (omega (arith, from, is_past)) is_before;
          here = λ is_before. off_behind (heap_index config) (heap_size config) (heap_index config + heap_size config) (omega arith);
        }
    by_test false tested = record {
      above = omega arith;
      most = omega (arith, index_below);
      between = λ asked_index is_past is_before. absurd (omega (arith, is_past, is_before));
      here = λ is_before. off_beside (heap_index config) (heap_size config) (index + 1) tested;
    }
next_is config Ahead index index_below = by_test (nat_lt (index + 1) (roots_index config)) refl
  where
    by_test : (holds : Bool) → nat_lt (index + 1) (roots_index config) ≡ holds → IsNext config Ahead index (if holds then index + 1 else image_words config)
    by_test true tested = record { above = omega arith; most = omega (arith, index_below); between = λ asked_index is_past is_before. absurd (omega (arith, is_past, is_before)); here = λ is_before. tested }
    by_test false tested =
        let past_roots : roots_index config ≤ index + 1 = ltb-false (index + 1) (roots_index config) tested in
        record {
          above = index_below;
          most = omega arith;
          between = λ asked_index is_past is_before. le-ltb asked_index (roots_index config) (omega (arith, past_roots, is_past));
          here = λ is_before. absurd (omega (arith, is_before));
        }

-- one index is the first from another on, among so many, whose word counts; or there is none
pub record IsFirst (config : Config) (extent : Extent) (image : List ℕ) (left k first : ℕ) : Type 0 where
  pub least : k ≤ first
  pub most : first ≤ k + left
  pub between : (i : ℕ) → k ≤ i → i < first → counts config extent image i ≡ false
  pub here : first < k + left → counts config extent image first ≡ true

module _ (config : Config) (extent : Extent) (image : List ℕ) where
  first_is : (steps_left index : ℕ) → IsFirst config extent image steps_left index (first_counting config extent image steps_left index)
  unfolding first_counting
  first_is zero index = record {
    least = omega arith;
    most = omega arith;
    between = λ asked_index from less. absurd (omega (arith, from, less));
    here = λ less. absurd (omega (arith, less));
  }
  first_is (suc steps_left) index = by_test (counts config extent image index) refl (first_is steps_left (index + 1))
    where
      by_test : (holds : Bool) → counts config extent image index ≡ holds → IsFirst config extent image steps_left (index + 1) (first_counting config extent image steps_left (index + 1))
          → IsFirst config extent image (suc steps_left) index (if holds then index else first_counting config extent image steps_left (index + 1))
      by_test true counts_here rest = record { least = omega arith; most = omega arith; between = λ asked_index from is_before. absurd (omega (arith, from, is_before)); here = λ is_before. counts_here }
      by_test false counts_here rest = record {
        least = (let low = rest.least in omega (arith, low));
        most = (let high = rest.most in omega (arith, high));
        between = λ asked_index from is_before. ⊎_elim
            (λ (same_index : asked_index ≡ index). ap (counts config extent image) same_index ∙ counts_here)
            (λ (other_index : asked_index ≢ index). rest.between asked_index (omega (arith, from, other_index)) is_before)
            (cases_eq asked_index index);
        here = λ is_before. rest.here (omega (arith, is_before));
      }

  -- the word that is stored next
  pub record IsStoredNext (start_index next : ℕ) : Type 0 where
    pub above : start_index < next
    pub most : next ≤ image_words config
    pub between : (i : ℕ) → start_index < i → i < next → counts config extent image i ≡ false
    pub here : next < image_words config → counts config extent image next ≡ true

  pub stored_next_is : (index : ℕ) → index < image_words config → IsStoredNext index (next_stored config extent image index)
  stored_next_is index index_below =
      let first_found = first_is (image_words config - (index + 1)) (index + 1) in
      record {
        above = (let low = first_found.least in omega (arith, low));
        most = (let high = first_found.most in omega (arith, high, index_below));
        between = λ asked_index is_past is_before. first_found.between asked_index (omega (arith, is_past)) is_before;
        here = λ is_before. first_found.here (omega (arith, is_before, index_below));
      }

  -- and no other is
  pub stored_next_one : (index first_next second_next : ℕ) → IsStoredNext index first_next → IsStoredNext index second_next → first_next ≡ second_next
  stored_next_one index first_next second_next stored_next other_stored = ⊎_elim
      (λ (first_less : first_next < second_next). absurd (false≢true (sym (other_stored.between first_next stored_next.above first_less) ∙ stored_next.here (let most = other_stored.most in omega (arith, most, first_less)))))
      (λ (from : second_next ≤ first_next). ⊎_elim
      (λ (second_less : second_next < first_next). absurd (false≢true (sym (stored_next.between second_next other_stored.above second_less) ∙ other_stored.here (let most = stored_next.most in omega (arith, most, second_less)))))
      (λ (not_more : first_next ≤ second_next). omega (arith, from, not_more))
      (cases_lt second_next first_next))
      (cases_lt first_next second_next)

-- The extent by the words loaded.
module _ (config : Config) (phase : ℕ) where
  abbrev extent_of_two : (evac ask : ℕ) → Extent
  extent_of_two evac ask = extent_after phase 5 (extent_after phase 3 (first_extent config phase) evac) ask

  -- two lists that read the same at the two words have one extent
  pub same_extent : (xs ys : List ℕ) → slice_index xs 3 ≡ slice_index ys 3 → slice_index xs 5 ≡ slice_index ys 5 → extent_by config phase xs ≡ extent_by config phase ys
  same_extent xs ys evac ask = ap (λ evac. extent_of_two evac (slice_index xs 5)) evac ∙ ap (extent_of_two (slice_index ys 3)) ask

  -- no room is needed by a word that reads 0, or that is another
  silent : (index got : ℕ) → (index ≡ 3 → got ≡ 0) → (index ≡ 5 → got ≡ 0) → says_room phase index got ≡ false
  silent index got evac ask = ⊎_elim
      (λ (index_three : index ≡ 3). subst (λ index. says_room phase index got ≡ false) (sym index_three) (subst (λ word_read. says_room phase 3 word_read ≡ false) (sym (evac index_three)) (neither (phase == evacuation_phase))))
      (λ (not_3 : index ≢ 3). ⊎_elim
      (λ (five : index ≡ 5). subst (λ index. says_room phase index got ≡ false) (sym five) (subst (λ word_read. says_room phase 5 word_read ≡ false) (sym (ask five)) refl))
      (λ (not_5 : index ≢ 5).
      ap (λ holds. (holds && ((phase == evacuation_phase) && is_out_of_room got)) || ((index == 5) && (bit_at got 1 == 1))) (ne_eqb index 3 not_3)
      ∙ ap (λ holds. holds && (bit_at got 1 == 1)) (ne_eqb index 5 not_5))
      (cases_eq index 5))
      (cases_eq index 3)
    where
      neither : (holds : Bool) → ((holds && is_out_of_room 0) || false) ≡ false
      neither true = refl
      neither false = refl

  same_after : (index got : ℕ) (extent : Extent) → (index ≡ 3 → got ≡ 0) → (index ≡ 5 → got ≡ 0) → extent_after phase index extent got ≡ extent
  same_after index got extent evac ask = cond-false (says_room phase index got) Whole extent (silent index got evac ask)

  -- with one more word that is loaded it is what follows from that word
  pub extent_on : (xs : List ℕ) (index got : ℕ) → length xs ≡ index → extent_by config phase (xs ++ got ∷ []) ≡ extent_after phase index (extent_by config phase xs) got
  extent_on xs index got same_length = ⊎_elim
      (λ (index_three : index ≡ 3).
      let reads_nothing : slice_index xs 5 ≡ 0 = get_or_past xs 5 0 (omega (arith, same_length, index_three)) in
      let before : slice_index xs 3 ≡ 0 = get_or_past xs 3 0 (omega (arith, same_length, index_three)) in
      ap (λ evac. extent_of_two evac (slice_index (xs ++ got ∷ []) 5)) (snoc_here xs got 3 (same_length ∙ index_three))
      ∙ ap (extent_of_two got) (snoc_else xs got 5 (λ e. omega (arith, e, same_length, index_three)) ∙ reads_nothing)
      ∙ same_after 5 0 (extent_after phase 3 (first_extent config phase) got) (λ e. refl) (λ e. refl)
      ∙ ap (λ e. extent_after phase 3 e got) (sym (ap (λ evac. extent_of_two evac (slice_index xs 5)) before ∙ ap (extent_of_two 0) reads_nothing
      ∙ same_after 5 0 (extent_after phase 3 (first_extent config phase) 0) (λ e. refl) (λ e. refl) ∙ same_after 3 0 (first_extent config phase) (λ e. refl) (λ e. refl)))
      ∙ ap (λ index. extent_after phase index (extent_by config phase xs) got) (sym index_three))
      (λ (not_3 : index ≢ 3). ⊎_elim
      (λ (five : index ≡ 5).
      let reads_nothing : slice_index xs 5 ≡ 0 = get_or_past xs 5 0 (omega (arith, same_length, five)) in
      ap (λ evac. extent_of_two evac (slice_index (xs ++ got ∷ []) 5)) (snoc_else xs got 3 (λ e. omega (arith, e, same_length, five)))
      ∙ ap (extent_of_two (slice_index xs 3)) (snoc_here xs got 5 (same_length ∙ five))
      ∙ ap (λ e. extent_after phase 5 e got) (sym (ap (extent_of_two (slice_index xs 3)) reads_nothing ∙ same_after 5 0 (extent_after phase 3 (first_extent config phase) (slice_index xs 3)) (λ e. refl) (λ e. refl)))
      ∙ ap (λ index. extent_after phase index (extent_by config phase xs) got) (sym five))
      (λ (not_5 : index ≢ 5).
      same_extent (xs ++ got ∷ []) xs (snoc_else xs got 3 (λ e. not_3 (sym same_length ∙ sym e))) (snoc_else xs got 5 (λ e. not_5 (sym same_length ∙ sym e)))
      ∙ sym (same_after index got (extent_by config phase xs) (λ e. absurd (not_3 e)) (λ e. absurd (not_5 e))))
      (cases_eq index 5))
      (cases_eq index 3)

  -- nothing is loaded: it is the first one
  pub extent_none : extent_by config phase [] ≡ first_extent config phase
  extent_none = same_after 5 0 (extent_after phase 3 (first_extent config phase) 0) (λ same_index. refl) (λ same_index. refl) ∙ same_after 3 0 (first_extent config phase) (λ same_index. refl) (λ same_index. refl)

-- the extent after a word is the one before it, or all of the image, and that only while the first words are loaded
pub changes_early : (phase index : ℕ) (extent : Extent) (got : ℕ) → 6 ≤ index → extent_after phase index extent got ≡ extent
changes_early phase index extent got late =
    cond-false (says_room phase index got) Whole extent
    (ap (λ test. (test && ((phase == evacuation_phase) && is_out_of_room got)) || ((index == 5) && (bit_at got 1 == 1))) (ne_eqb index 3 (λ same_index. omega (arith, same_index, late)))
    ∙ ap (λ test. test && (bit_at got 1 == 1)) (ne_eqb index 5 (λ same_index. omega (arith, same_index, late))))
