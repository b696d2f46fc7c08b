-- What the words read that a control shows of its image.
use Rattle.std.proofs.Common.{◌≡◌, ◌≢◌, ℕ, ◌+◌, ◌-◌, ◌<◌, ◌≤◌, ◌++◌, Bool, true, false, List, [], ◌∷◌, length, set, take, ⊎_elim, refl, sym, ap, ◌∙◌, subst, arith, length-take, length-set}
use Rattle.std.specs.Prelude.{if◌then◌else◌, slice_index}
use Rattle.std.proofs.lemmas.Bool.{cases_eq, cases_lt, cond-true, cond-false, or_left}
use Rattle.std.proofs.lemmas.Grind.{same_number_lists}
use Rattle.std.proofs.lemmas.List.{get_or_past, get_or-take, get_or-set_same, get_or-set_other, get_or_append_left, get_or_push, take_all, length_push}
use Rattle.std.proofs.lemmas.List.FromFn.{get_or-map-range_with_len, length-map-range_with_len}
use Rattle.heap_words.specs.declared.config.Config.{Config}
use Rattle.heap_words.specs.Words.{Word, IsWord, is_image, word_at, image_start}
use Rattle.heap_world.specs.Walk.{has}
use Rattle.heap_world.specs.Change.{image_view}
use Rattle.collector_rows.specs.declared.extent.Extent.{Extent}
use Rattle.collector_rows.specs.declared.extent.Extent.TheVariants.{Whole, OffHeap, Ahead}
use Rattle.collector_rows.specs.Extent.{is_of_extent, extent_after, padded}
use Rattle.collector_rows.proofs.Extents.{padded_reads, padded_long, early, changes_early}
use Rattle.cycle_pauses.proofs.Brief.Indices.{image_reads}
use Rattle.control.specs.Image.{shown_by, part_in, is_seen, image_shown}

-- 0 is so whether a word is shown or not
pub either_zero : (holds : Bool) (n : ℕ) → n ≡ 0 → (if holds then n else 0) ≡ 0
either_zero true n is_zero = is_zero
either_zero false n is_zero = refl

module _ (test : ℕ → Bool) (image : List ℕ) where
  shown_long : length (shown_by test image) ≡ length image
  shown_long = length-map-range_with_len (λ index. if test index then slice_index image index else 0) 0 (length image)

  shown_reads : (index : ℕ) → slice_index (shown_by test image) index ≡ (if test index then slice_index image index else 0)
  shown_reads index = ⊎_elim
      (λ (index_within : index < length image). get_or-map-range_with_len (λ index. if test index then slice_index image index else 0) 0 (length image) index index 0 index_within (omega arith))
      (λ (index_past : length image ≤ index).
      get_or_past (shown_by test image) index 0 (let shown_length = shown_long in omega (arith, shown_length, index_past)) ∙ sym (either_zero (test index) (slice_index image index) (get_or_past image index 0 index_past)))
      (cases_lt index (length image))

pub part_long : (config : Config) (extent : Extent) (image : List ℕ) → length (part_in config extent image) ≡ length image
part_long config Whole image = refl
part_long config OffHeap image = shown_long (is_of_extent config OffHeap) image
part_long config Ahead image = shown_long (is_of_extent config Ahead) image

pub part_reads : (config : Config) (extent : Extent) (image : List ℕ) (index : ℕ) → slice_index (part_in config extent image) index ≡ (if is_of_extent config extent index then slice_index image index else 0)
part_reads config Whole image index = refl
part_reads config OffHeap image index = shown_reads (is_of_extent config OffHeap) image index
part_reads config Ahead image index = shown_reads (is_of_extent config Ahead) image index

pub made_long : (config : Config) (extent : Extent) (starts image : List ℕ) → length (image_shown config extent starts image) ≡ length image
made_long config Whole starts image = refl
made_long config OffHeap starts image = shown_long (is_seen config OffHeap starts) image
made_long config Ahead starts image = shown_long (is_seen config Ahead starts) image

pub made_reads : (config : Config) (extent : Extent) (starts image : List ℕ) (index : ℕ) → slice_index (image_shown config extent starts image) index ≡ (if is_seen config extent starts index then slice_index image index else 0)
made_reads config Whole starts image index = refl
made_reads config OffHeap starts image index = shown_reads (is_seen config OffHeap starts) image index
made_reads config Ahead starts image index = shown_reads (is_seen config Ahead starts) image index

-- a word that is seen reads as in the image
pub seen_reads : (config : Config) (extent : Extent) (starts image : List ℕ) (index : ℕ) → is_seen config extent starts index ≡ true → slice_index (image_shown config extent starts image) index ≡ slice_index image index
seen_reads config extent starts image index seen_there = made_reads config extent starts image index ∙ cond-true (is_seen config extent starts index) (slice_index image index) 0 seen_there

-- so do the first words, which stand for a cycle
pub first_reads : (config : Config) (extent : Extent) (starts image : List ℕ) (word : Word) → IsWord config word → is_image word ≡ true → word_at config word < image_start config + 7
    → image_view config (image_shown config extent starts image) word ≡ image_view config image word
first_reads config extent starts image word is_word in_image word_below =
    let index : ℕ = word_at config word - image_start config in
    image_reads config (image_shown config extent starts image) word is_word in_image
    ∙ seen_reads config extent starts image index (or_left (is_of_extent config extent index) (has starts index) (early config extent index (omega (arith, word_below))))
    ∙ sym (image_reads config image word is_word in_image)

-- What has been loaded up to a word, with one more word, is what has been loaded up to the next one: all between are left out.
module _ (config : Config) (extent : Extent) (phase index got : ℕ) (image : List ℕ) (index_below : index < length image) (of_extent : is_of_extent config extent index ≡ true) where
  abbrev then_of : Extent
  then_of = extent_after phase index extent got

  -- the extent then has the words before as the one before it
  same_before : (asked_index : ℕ) → asked_index < index → is_of_extent config then_of asked_index ≡ is_of_extent config extent asked_index
  same_before asked_index asked_less = ⊎_elim
      (λ (few : index < 6). early config then_of asked_index (omega (arith, asked_less, few)) ∙ sym (early config extent asked_index (omega (arith, asked_less, few))))
      (λ (late : 6 ≤ index). ap (λ asked_extent. is_of_extent config asked_extent asked_index) (changes_early phase index extent got late))
      (cases_lt index 6)

  own_then : is_of_extent config then_of index ≡ true
  own_then = ⊎_elim
      (λ (few : index < 6). early config then_of index (omega (arith, few)))
      (λ (late : 6 ≤ index). ap (λ asked_extent. is_of_extent config asked_extent index) (changes_early phase index extent got late) ∙ of_extent)
      (cases_lt index 6)

  abbrev before : List ℕ
  before = take index (part_in config extent image)

  before_long : length before ≡ index
  before_long = (let taken = length-take index (part_in config extent image) in let all_length = part_long config extent image in omega (arith, taken, all_length, index_below))

  module _ (upto : ℕ) (before_upto : index < upto) (within : upto ≤ length image) (between : (asked_index : ℕ) → index < asked_index → asked_index < upto → is_of_extent config then_of asked_index ≡ false) where
    abbrev after : List ℕ
    after = part_in config then_of (set image index got)

    after_long : length after ≡ length image
    after_long = part_long config then_of (set image index got) ∙ length-set image index got

    pushed_long : length (before ++ got ∷ []) ≡ index + 1
    pushed_long = length_push before got ∙ ap (λ count. count + 1) before_long

    reads : (asked_index : ℕ) → asked_index < upto → slice_index after asked_index ≡ slice_index (before ++ got ∷ []) asked_index
    reads asked_index index_less = ⊎_elim
        (λ (lower : asked_index < index).
        part_reads config then_of (set image index got) asked_index
        ∙ ap (λ in_extent. if in_extent then slice_index (set image index got) asked_index else 0) (same_before asked_index lower)
        ∙ ap (λ word. if is_of_extent config extent asked_index then word else 0) (get_or-set_other image index asked_index got 0 (omega (arith, lower)))
        ∙ sym (get_or_append_left before (got ∷ []) 0 asked_index (let same_length = before_long in omega (arith, same_length, lower)) ∙ get_or-take index (part_in config extent image) asked_index 0 lower ∙ part_reads config extent image asked_index))
        (λ (from : index ≤ asked_index). ⊎_elim
        (λ (same_index : asked_index ≡ index).
        subst (λ index. slice_index after index ≡ slice_index (before ++ got ∷ []) index) (sym same_index)
        (part_reads config then_of (set image index got) index ∙ cond-true (is_of_extent config then_of index) (slice_index (set image index got) index) 0 own_then
        ∙ get_or-set_same image index got 0 index_below ∙ sym (get_or_push before got 0 index before_long)))
        (λ (different_index : asked_index ≢ index).
        part_reads config then_of (set image index got) asked_index
        ∙ cond-false (is_of_extent config then_of asked_index) (slice_index (set image index got) asked_index) 0 (between asked_index (omega (arith, from, different_index)) index_less)
        ∙ sym (get_or_past (before ++ got ∷ []) asked_index 0 (let same_length = pushed_long in omega (arith, same_length, from, different_index))))
        (cases_eq asked_index index))
        (cases_lt asked_index index)

    pub loaded_upto : take upto after ≡ padded upto (before ++ got ∷ [])
    loaded_upto =
        let taken = length-take upto after in
        let after_length = after_long in
        let pushed = pushed_long in
        let taken_length : length (take upto after) ≡ upto = omega (arith, taken, after_length, within) in
        same_number_lists (take upto after) (padded upto (before ++ got ∷ []))
        (taken_length ∙ sym (padded_long upto (before ++ got ∷ []) (omega (arith, pushed, before_upto))))
        (λ asked_index index_less.
        let below_upto : asked_index < upto = omega (arith, index_less, taken_length) in
        get_or-take upto after asked_index 0 below_upto ∙ reads asked_index below_upto ∙ sym (padded_reads upto (before ++ got ∷ []) asked_index))

    -- all that was loaded, where no word is left
    pub loaded_whole : upto ≡ length image → after ≡ padded upto (before ++ got ∷ [])
    loaded_whole end = sym (take_all upto after (let after_length = after_long in omega (arith, after_length, end))) ∙ loaded_upto
