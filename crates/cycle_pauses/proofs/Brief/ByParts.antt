-- What a pause makes of an image is what it makes of the part that was loaded: by the names of the words, and so by their places.
use Rattle.heap_words.specs.Phases.{marking_phase, evacuation_phase, idle_phase}
use Rattle.std.proofs.Common.{◌≡◌, ◌≢◌, ℕ, ◌+◌, ◌-◌, ◌<◌, ◌≤◌, ◌++◌, Bool, true, false, List, length, replicate, ⊎_elim, refl, sym, ap, ◌∙◌, arith}
use Rattle.std.specs.Prelude.{◌==◌, ◌&&◌, ◌||◌, not, slice_index, if◌then◌else◌}
use Rattle.std.specs.Int.{bit_at}
use Rattle.std.proofs.lemmas.Bool.{cases_Bool, cond-true, cond-false, eqb-true, eqb-false, le-leb, leb-true, leb-false, true≢false}
use Rattle.std.proofs.lemmas.Grind.{same_number_lists}
use Rattle.heap_words.specs.declared.config.Config.{Config}
use Rattle.heap_words.specs.Counter.{is_out_of_room}
use Rattle.heap_words.specs.Words.{Word, Phase, Evac, Ask, Pause, Left, End, State, IsWord, is_word, is_image, word_at, image_start, table_words}
use Rattle.heap_words.specs.Rows.{name_of}
use Rattle.heap_words.proofs.Named.{are_named}
use Rattle.heap_words.proofs.Rows.{is_image-word_at, word_inside}
use Rattle.heap_words.proofs.Stores.{is_word_true, view_word, view_none}
use Rattle.heap_world.specs.Change.{image_words, image_view}
use Rattle.collector_rows.specs.declared.extent.Extent.{Extent}
use Rattle.collector_rows.specs.declared.extent.Extent.TheVariants.{Whole, OffHeap, Ahead}
use Rattle.collector_rows.specs.Extent.{is_wide, is_of_extent, first_extent, says_room, extent_after, extent_by, counts}
use Rattle.collector_rows.specs.ByParts.{IsImagePart, IsMadeOf, GoesByParts, PausesByParts}
use Rattle.cycle_pauses.specs.Collect.{is_room_needed, collected, collect_image}
use Rattle.cycle_pauses.specs.Brief.{is_off_heap, is_ahead, IsPartOf, IsMadeOfPart}
use Rattle.cycle_pauses.proofs.Full.Images.{before_word}
use Rattle.cycle_pauses.proofs.Images.{collected_by_name}
use Rattle.cycle_pauses.proofs.Pauses.{collect_is_pause}
use Rattle.cycle_pauses.proofs.Brief.Indices.{off_heap_at, ahead_at, image_reads, word_here, here_is, here_at, here_image, here_reads}
use Rattle.cycle_pauses.proofs.Brief.Collected.{begins, updates}

-- one image is a part of another
module _ (config : Config) (extent : Extent) (inside : Word → Bool) (places : (any_word : Word) → IsWord config any_word → is_image any_word ≡ true → is_of_extent config extent (word_at config any_word - image_start config) ≡ inside any_word)
    (others_inside : (any_word : Word) → is_image any_word ≡ false → inside any_word ≡ true)
    (whole_image part_image : List ℕ) (is_part : IsImagePart config extent whole_image part_image) where
  below : (word : Word) → IsWord config word → is_image word ≡ true → word_at config word - image_start config < image_words config
  below word inside_table image =
      let from : image_start config ≤ word_at config word = leb-true (image_start config) (word_at config word) (sym (is_image-word_at config word inside_table) ∙ image) in
      let before_end : word_at config word < table_words config = word_inside config word inside_table in
      omega (arith, from, before_end)

  -- outside the image both read 0
  both_none : (word : Word) → is_image word ≡ false → image_view config whole_image word ≡ image_view config part_image word
  both_none asked_word outside = ⊎_elim
      (λ (real_word : is_word config asked_word ≡ true).
      let word : IsWord config asked_word = is_word_true config asked_word real_word in
      let before_image : word_at config asked_word < image_start config = leb-false (image_start config) (word_at config asked_word) (sym (is_image-word_at config asked_word word) ∙ outside) in
      view_word config (replicate (image_start config) 0 ++ whole_image) asked_word word ∙ before_word config whole_image (word_at config asked_word) before_image
      ∙ sym (view_word config (replicate (image_start config) 0 ++ part_image) asked_word word ∙ before_word config part_image (word_at config asked_word) before_image))
      (λ (not_word : is_word config asked_word ≡ false). view_none config (replicate (image_start config) 0 ++ whole_image) asked_word not_word ∙ sym (view_none config (replicate (image_start config) 0 ++ part_image) asked_word not_word))
      (cases_Bool (is_word config asked_word))

  -- what the part reads
  part_reads : (word : Word) → IsWord config word → is_image word ≡ true → image_view config part_image word ≡ (if inside word then image_view config whole_image word else 0)
  part_reads word inside_table image =
      image_reads config part_image word inside_table image ∙ is_part (word_at config word - image_start config) (below word inside_table image)
      ∙ ap (λ is_inside. if is_inside then slice_index whole_image (word_at config word - image_start config) else 0) (places word inside_table image)
      ∙ ap (λ index. if inside word then index else 0) (sym (image_reads config whole_image word inside_table image))

  pub part_of : IsPartOf inside (image_view config whole_image) (image_view config part_image)
  part_of = record {
    same = λ word word_within. ⊎_elim
        (λ (image : is_image word ≡ true). ⊎_elim
        (λ (real_word : is_word config word ≡ true). sym (part_reads word (is_word_true config word real_word) image ∙ cond-true (inside word) _ _ word_within))
        (λ (not_word : is_word config word ≡ false). view_none config (replicate (image_start config) 0 ++ whole_image) word not_word ∙ sym (view_none config (replicate (image_start config) 0 ++ part_image) word not_word))
        (cases_Bool (is_word config word)))
        (λ (outside : is_image word ≡ false). both_none word outside)
        (cases_Bool (is_image word));
    nothing = λ word word_outside. ⊎_elim
        (λ (real_word : is_word config word ≡ true).
        let image : is_image word ≡ true = ⊎_elim (λ (image_word : is_image word ≡ true). image_word) (λ (outside : is_image word ≡ false). absurd (true≢false (sym (others_inside word outside) ∙ word_outside))) (cases_Bool (is_image word)) in
        part_reads word (is_word_true config word real_word) image ∙ cond-false (inside word) _ _ word_outside)
        (λ (not_word : is_word config word ≡ false). view_none config (replicate (image_start config) 0 ++ part_image) word not_word)
        (cases_Bool (is_word config word));
  }

  -- What is made of the words is made of the images that have them.
  module _ (made part_made : List ℕ) (memory part_memory : Word → ℕ) (made_is : (some_word : Word) → IsWord config some_word → image_view config made some_word ≡ memory some_word) (part_is : (some_word : Word) → IsWord config some_word → image_view config part_made some_word ≡ part_memory some_word)
      (by_names : IsMadeOfPart inside (image_view config whole_image) memory part_memory) (index : ℕ) (index_below : index < image_words config) where
    abbrev word : Word
    word = word_here config index index_below

    is : IsWord config word
    is = here_is config index index_below

    in_image : is_image word ≡ true
    in_image = here_image config index index_below

    reads : (image : List ℕ) → image_view config image word ≡ slice_index image index
    reads = here_reads config index index_below

    of_whole : slice_index made index ≡ memory word
    of_whole = sym (reads made) ∙ made_is word is

    of_part : slice_index part_made index ≡ part_memory word
    of_part = sym (reads part_made) ∙ part_is word is

    test : is_of_extent config extent index ≡ inside word
    test = ap (is_of_extent config extent) (sym (here_at config index index_below)) ∙ places word is in_image

    counts_as : (holds : Bool) → inside word ≡ holds → counts config extent part_made index ≡ (holds || not (slice_index part_made index == 0))
    counts_as holds inside_test = ap (λ tested. tested || not (slice_index part_made index == 0)) (test ∙ inside_test)

    turned : (holds : Bool) (first_word second_word : ℕ) → (if holds then first_word else second_word) ≡ (if false || not holds then second_word else first_word)
    turned true first_word second_word = refl
    turned false first_word second_word = refl

    made_at : (holds : Bool) → inside word ≡ holds → slice_index made index ≡ (if holds || not (slice_index part_made index == 0) then slice_index part_made index else slice_index whole_image index)
    made_at true word_holds = of_whole ∙ by_names.within word word_holds ∙ sym of_part
    made_at false word_outside =
        of_whole ∙ by_names.outside word word_outside
        ∙ ap (λ value. if value == 0 then image_view config whole_image word else value) (sym of_part)
        ∙ ap (λ value. if slice_index part_made index == 0 then value else slice_index part_made index) (reads whole_image)
        ∙ turned (slice_index part_made index == 0) (slice_index whole_image index) (slice_index part_made index)

    pub made_of_part : slice_index made index ≡ (if counts config extent part_made index then slice_index part_made index else slice_index whole_image index)
    made_of_part = made_at (inside word) refl ∙ ap (λ is_inside. if is_inside then slice_index part_made index else slice_index whole_image index) (sym (counts_as (inside word) refl))

  -- So it is of what a pause makes.
  pub made_of : IsMadeOfPart inside (image_view config whole_image) (collected config (image_view config whole_image)) (collected config (image_view config part_image)) → IsMadeOf config extent whole_image (collect_image config whole_image) (collect_image config part_image)
  made_of by_names index index_below = made_of_part (collect_image config whole_image) (collect_image config part_image) (collected config (image_view config whole_image)) (collected config (image_view config part_image)) (collected_by_name config whole_image) (collected_by_name config part_image) by_names index index_below

-- An extent that is not all of the image tells the phase, and that no room is needed.
module _ (config : Config) (phase : ℕ) (part_image : List ℕ) where
  silent_by : (index got : ℕ) (extent : Extent) → (extent_after phase index extent got ≡ Whole → ⊥) → says_room phase index got ≡ false
  silent_by index got extent not_whole = ⊎_elim
      (λ (says : says_room phase index got ≡ true). absurd (not_whole (cond-true (says_room phase index got) Whole extent says)))
      (λ (no_room_said : says_room phase index got ≡ false). no_room_said)
      (cases_Bool (says_room phase index got))

  first_by : (extent_by config phase part_image ≡ Whole → ⊥) → extent_by config phase part_image ≡ first_extent config phase
  first_by not_whole =
      let asks : says_room phase 5 (slice_index part_image 5) ≡ false = silent_by 5 (slice_index part_image 5) (extent_after phase 3 (first_extent config phase) (slice_index part_image 3)) not_whole in
      let same_extent : extent_by config phase part_image ≡ extent_after phase 3 (first_extent config phase) (slice_index part_image 3) = cond-false (says_room phase 5 (slice_index part_image 5)) Whole _ asks in
      same_extent ∙ cond-false (says_room phase 3 (slice_index part_image 3)) Whole _ (silent_by 3 (slice_index part_image 3) (first_extent config phase) (λ same_phase. not_whole (same_extent ∙ same_phase)))

  pub no_room : (extent_by config phase part_image ≡ Whole → ⊥) → ((bit_at (slice_index part_image 5) 1 == 1) || ((phase == evacuation_phase) && is_out_of_room (slice_index part_image 3))) ≡ false
  no_room not_whole =
      let asks : says_room phase 5 (slice_index part_image 5) ≡ false = silent_by 5 (slice_index part_image 5) (extent_after phase 3 (first_extent config phase) (slice_index part_image 3)) not_whole in
      let same_extent : extent_by config phase part_image ≡ extent_after phase 3 (first_extent config phase) (slice_index part_image 3) = cond-false (says_room phase 5 (slice_index part_image 5)) Whole _ asks in
      let copies : says_room phase 3 (slice_index part_image 3) ≡ false = silent_by 3 (slice_index part_image 3) (first_extent config phase) (λ same_phase. not_whole (same_extent ∙ same_phase)) in
      ap (λ holds. holds || ((phase == evacuation_phase) && is_out_of_room (slice_index part_image 3))) asks ∙ either_none ((phase == evacuation_phase) && is_out_of_room (slice_index part_image 3)) copies
    where
      either_none : (holds : Bool) → (holds || false) ≡ false → (false || holds) ≡ false
      either_none true neither = neither
      either_none false neither = refl

  -- the phase by the first extent
  first_is : (extent : Extent) → first_extent config phase ≡ extent → (extent ≡ OffHeap → phase ≡ idle_phase) × (extent ≡ Ahead → (phase ≢ idle_phase) × (phase ≢ marking_phase))
  first_is extent is_first_extent = by_wide (is_wide config) (phase == idle_phase) (phase == marking_phase) refl refl (sym is_first_extent)
    where
      by_wide : (wide is_zero is_one : Bool) → (phase == idle_phase) ≡ is_zero → (phase == marking_phase) ≡ is_one → extent ≡ (if wide then (if is_zero then OffHeap else (if is_one then Whole else Ahead)) else Whole) → (extent ≡ OffHeap → phase ≡ idle_phase) × (extent ≡ Ahead → (phase ≢ idle_phase) × (phase ≢ marking_phase))
      by_wide true true is_one zero_test one_test extent_is = (λ off_heap. eqb-true phase 0 zero_test, λ ahead. absurd (let both_extents = sym extent_is ∙ ahead in cc))
      by_wide true false true zero_test one_test extent_is = (λ off_heap. absurd (let both_extents = sym extent_is ∙ off_heap in cc), λ ahead. absurd (let both_extents = sym extent_is ∙ ahead in cc))
      by_wide true false false zero_test one_test extent_is = (λ off_heap. absurd (let both_extents = sym extent_is ∙ off_heap in cc), λ ahead. (eqb-false phase 0 zero_test, eqb-false phase 1 one_test))
      by_wide false is_zero is_one zero_test one_test extent_is = (λ off_heap. absurd (let both_extents = sym extent_is ∙ off_heap in cc), λ ahead. absurd (let both_extents = sym extent_is ∙ ahead in cc))

-- the words that tell it
module _ (config : Config) (part_image : List ℕ) where
  phase_at : image_view config part_image Phase ≡ slice_index part_image 0
  phase_at = image_reads config part_image Phase tt refl ∙ ap (λ index. slice_index part_image index) (omega arith)

  evac_at : image_view config part_image Evac ≡ slice_index part_image 3
  evac_at = image_reads config part_image Evac tt refl ∙ ap (λ index. slice_index part_image index) (omega arith)

  ask_at : image_view config part_image Ask ≡ slice_index part_image 5
  ask_at = image_reads config part_image Ask tt refl ∙ ap (λ index. slice_index part_image index) (omega arith)

  pub calm_part : (extent_by config (slice_index part_image 0) part_image ≡ Whole → ⊥) → is_room_needed (image_view config part_image) ≡ false
  calm_part not_whole =
      ap (λ value. (bit_at value 1 == 1) || ((image_view config part_image Phase == evacuation_phase) && is_out_of_room (image_view config part_image Evac))) ask_at
      ∙ ap (λ value. (bit_at (slice_index part_image 5) 1 == 1) || ((value == 2) && is_out_of_room (image_view config part_image Evac))) phase_at
      ∙ ap (λ value. (bit_at (slice_index part_image 5) 1 == 1) || ((slice_index part_image 0 == 2) && is_out_of_room value)) evac_at
      ∙ no_room config (slice_index part_image 0) part_image not_whole

  -- the phase, by the extent
  pub idle_by : (extent_by config (slice_index part_image 0) part_image ≡ Whole → ⊥) → extent_by config (slice_index part_image 0) part_image ≡ OffHeap → image_view config part_image Phase ≡ idle_phase
  idle_by not_whole extent_off = phase_at ∙ (first_is config (slice_index part_image 0) part_image OffHeap (sym (first_by config (slice_index part_image 0) part_image not_whole) ∙ extent_off)).0 refl

  pub late_by : (extent_by config (slice_index part_image 0) part_image ≡ Whole → ⊥) → extent_by config (slice_index part_image 0) part_image ≡ Ahead → (image_view config part_image Phase ≢ idle_phase) × (image_view config part_image Phase ≢ marking_phase)
  late_by not_whole extent_ahead =
      let late = (first_is config (slice_index part_image 0) part_image Ahead (sym (first_by config (slice_index part_image 0) part_image not_whole) ∙ extent_ahead)).1 refl in
      (λ in_phase. late.0 (sym phase_at ∙ in_phase), λ in_phase. late.1 (sym phase_at ∙ in_phase))

pub off_heap_others : (word : Word) → is_image word ≡ false → is_off_heap word ≡ true
off_heap_others Pause not_image = refl
off_heap_others Left not_image = refl
off_heap_others End not_image = refl
off_heap_others (State seat) not_image = refl
off_heap_others _ not_image = absurd (true≢false not_image)

pub ahead_others : (word : Word) → is_image word ≡ false → is_ahead word ≡ true
ahead_others Pause not_image = refl
ahead_others Left not_image = refl
ahead_others End not_image = refl
ahead_others (State seat) not_image = refl
ahead_others _ not_image = absurd (true≢false not_image)

-- What a pause makes of an image is so what it makes of a part, where it begins marking, ..
pub off_heap_made : (config : Config) (whole_image part_image : List ℕ) → IsImagePart config OffHeap whole_image part_image → is_room_needed (image_view config part_image) ≡ false → image_view config part_image Phase ≡ idle_phase
    → IsMadeOf config OffHeap whole_image (collect_image config whole_image) (collect_image config part_image)
off_heap_made config whole_image part_image is_part no_room_needed idle =
    made_of config OffHeap is_off_heap (off_heap_at config) off_heap_others whole_image part_image is_part
    (begins config (image_view config whole_image) (image_view config part_image) (part_of config OffHeap is_off_heap (off_heap_at config) off_heap_others whole_image part_image is_part) no_room_needed idle)

-- .. and where it begins updating or ends it.
pub ahead_made : (config : Config) (whole_image part_image : List ℕ) → IsImagePart config Ahead whole_image part_image → is_room_needed (image_view config part_image) ≡ false → image_view config part_image Phase ≢ idle_phase → image_view config part_image Phase ≢ marking_phase
    → IsMadeOf config Ahead whole_image (collect_image config whole_image) (collect_image config part_image)
ahead_made config whole_image part_image is_part no_room_needed not_idle not_marking =
    made_of config Ahead is_ahead (ahead_at config) ahead_others whole_image part_image is_part
    (updates config (image_view config whole_image) (image_view config part_image) (part_of config Ahead is_ahead (ahead_at config) ahead_others whole_image part_image is_part) no_room_needed not_idle not_marking)

by_extent : (config : Config) (whole_image part_image : List ℕ) → length whole_image ≡ image_words config → length part_image ≡ image_words config → (extent : Extent) → extent_by config (slice_index part_image 0) part_image ≡ extent → IsImagePart config extent whole_image part_image
    → IsMadeOf config extent whole_image (collect_image config whole_image) (collect_image config part_image)
by_extent config whole_image part_image whole_long part_long Whole extent_is is_part = λ index index_below.
    let same_image : part_image ≡ whole_image = same_number_lists part_image whole_image (part_long ∙ sym whole_long) (λ place place_below. is_part place (omega (arith, place_below, part_long))) in
    ap (λ image. slice_index (collect_image config image) index) (sym same_image)
by_extent config whole_image part_image whole_long part_long OffHeap extent_is is_part =
    let not_whole : extent_by config (slice_index part_image 0) part_image ≡ Whole → ⊥ = λ extent. let both_extents = sym extent_is ∙ extent in cc in
    off_heap_made config whole_image part_image is_part (calm_part config part_image not_whole) (idle_by config part_image not_whole extent_is)
by_extent config whole_image part_image whole_long part_long Ahead extent_is is_part =
    let not_whole : extent_by config (slice_index part_image 0) part_image ≡ Whole → ⊥ = λ extent. let both_extents = sym extent_is ∙ extent in cc in
    let late = late_by config part_image not_whole extent_is in
    ahead_made config whole_image part_image is_part (calm_part config part_image not_whole) late.0 late.1

pub collect_goes_by_parts : GoesByParts collect_image
collect_goes_by_parts = record { made = λ config whole_image part_image whole_long part_long is_part. by_extent config whole_image part_image whole_long part_long (extent_by config (slice_index part_image 0) part_image) refl is_part }

pub collect_pauses_by_parts : PausesByParts collect_image
collect_pauses_by_parts = record { whole = collect_is_pause; parts = collect_goes_by_parts }
