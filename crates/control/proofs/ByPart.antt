-- A pause makes the new image of the part that was loaded: what stands in the image for other words neither counts nor is shown, but where the free
-- words of a buffer began.
use Rattle.heap_words.specs.Phases.{marking_phase, idle_phase}
use Rattle.std.proofs.Common.{◌≡◌, ◌≢◌, ℕ, ◌<◌, Bool, true, false, List, length, refl, sym, ap, ◌∙◌, subst, arith}
use Rattle.std.specs.Prelude.{◌==◌, ◌||◌, not, if◌then◌else◌, slice_index}
use Rattle.std.proofs.lemmas.Bool.{cond-true, cond-false, eqb-true}
use Rattle.std.proofs.lemmas.Grind.{same_number_lists}
use Rattle.heap_words.specs.declared.config.Config.{Config}
use Rattle.heap_words.specs.Words.{Word, Phase, Evac, Ask, Current, Root, Pin, Answer}
use Rattle.heap_world.specs.Walk.{has}
use Rattle.heap_world.specs.Change.{image_words, image_view}
use Rattle.image_graph.specs.SeatBuffers.{IsInside, AreInside}
use Rattle.mark_core.specs.Trace.{IsNullOrInside, HasRootsInside}
use Rattle.collector_rows.specs.declared.extent.Extent.{Extent}
use Rattle.collector_rows.specs.declared.extent.Extent.TheVariants.{Whole, OffHeap, Ahead}
use Rattle.collector_rows.specs.Extent.{is_of_extent}
use Rattle.collector_rows.specs.ByParts.{IsImagePart, IsMadeOf}
use Rattle.cycle_pauses.specs.Collect.{is_room_needed, collected, collect_image}
use Rattle.cycle_pauses.specs.Brief.{is_off_heap, is_ahead, IsPartOf}
use Rattle.cycle_pauses.proofs.Images.{collected_length, collected_by_name}
use Rattle.cycle_pauses.proofs.Brief.Collected.{need_same}
use Rattle.cycle_pauses.proofs.Brief.Indices.{off_heap_at, ahead_at, word_here, here_is, here_at, here_image, here_reads}
use Rattle.cycle_pauses.proofs.Brief.ByParts.{part_of, off_heap_others, ahead_others, off_heap_made, ahead_made}
use Rattle.cycle_pauses.proofs.Brief.Fills.{IsNoFirst, heap_left, behind_left}
use Rattle.control.specs.Fit.{CanBeginOff, CanUpdateAhead, CanCollectPart}
use Rattle.control.specs.Image.{part_in, image_shown}
use Rattle.control.specs.Starts.{AreStarts, AreHeapIndices}
use Rattle.control.proofs.PartShown.{part_reads, made_long, made_reads}
use Rattle.control.proofs.Starting.{none_is_of, none_begins}

-- what collecting by a part needs of all words
pub record CanGoOn (config : Config) (memory part : Word → ℕ) : Type 0 where
  pub calm : is_room_needed memory ≡ false
  pub unmarked : memory Phase ≢ marking_phase
  pub roots : memory Phase ≡ idle_phase → HasRootsInside config memory
  pub buffers : AreInside config memory
  pub same_buffers : (seat : ℕ) → memory (Current seat) ≡ part (Current seat)

-- what holds of the buffers of a part holds of those of all words
buffers_of : (config : Config) (memory part : Word → ℕ) → ((seat : ℕ) → memory (Current seat) ≡ part (Current seat)) → AreInside config part → AreInside config memory
buffers_of config memory part same_current inside = λ seat seat_below some_buffer. subst (IsInside config) (sym (same_current seat)) (inside seat seat_below (λ no_buffer. some_buffer (same_current seat ∙ no_buffer)))

off_heap_goes : (config : Config) (memory part : Word → ℕ) → IsPartOf is_off_heap memory part → CanBeginOff config part → CanGoOn config memory part
off_heap_goes config memory part is_part can_begin = record {
  calm = need_same memory part (is_part.same Ask refl) (is_part.same Phase refl) (is_part.same Evac refl) ∙ can_begin.calm;
  unmarked = (let idle : memory Phase ≡ idle_phase = is_part.same Phase refl ∙ can_begin.idle in λ in_marking. omega (arith, idle, in_marking));
  roots = λ idle. record {
    roots = λ mutator index mutator_below few. subst (IsNullOrInside config) (sym (is_part.same (Root mutator index) refl)) (can_begin.roots.roots mutator index mutator_below few);
    pins = λ mutator slot mutator_below few. subst (IsNullOrInside config) (sym (is_part.same (Pin mutator slot) refl)) (can_begin.roots.pins mutator slot mutator_below few);
    answers = λ mutator mutator_below some_answer. subst (IsNullOrInside config) (sym (is_part.same (Answer mutator) refl)) (can_begin.roots.answers mutator mutator_below (subst (λ answer_word. 1 < answer_word) (is_part.same (Answer mutator) refl) some_answer));
  };
  buffers = buffers_of config memory part (λ seat. is_part.same (Current seat) refl) can_begin.buffers;
  same_buffers = λ seat. is_part.same (Current seat) refl;
}

ahead_goes : (config : Config) (memory part : Word → ℕ) → IsPartOf is_ahead memory part → CanUpdateAhead config part → CanGoOn config memory part
ahead_goes config memory part is_part can_update = record {
  calm = need_same memory part (is_part.same Ask refl) (is_part.same Phase refl) (is_part.same Evac refl) ∙ can_update.calm;
  unmarked = λ in_marking. can_update.unmarked (sym (is_part.same Phase refl) ∙ in_marking);
  roots = λ idle. absurd (can_update.runs (sym (is_part.same Phase refl) ∙ idle));
  buffers = buffers_of config memory part (λ seat. is_part.same (Current seat) refl) can_update.buffers;
  same_buffers = λ seat. is_part.same (Current seat) refl;
}

-- so it is by images
pub goes_by : (config : Config) (extent : Extent) → extent ≢ Whole → (whole part : List ℕ) → IsImagePart config extent whole part → CanCollectPart config extent (image_view config part) → CanGoOn config (image_view config whole) (image_view config part)
goes_by config Whole not_whole whole part is_part can_collect = absurd (not_whole refl)
goes_by config OffHeap not_whole whole part is_part can_collect =
    off_heap_goes config (image_view config whole) (image_view config part) (part_of config OffHeap is_off_heap (off_heap_at config) off_heap_others whole part is_part) can_collect
goes_by config Ahead not_whole whole part is_part can_collect =
    ahead_goes config (image_view config whole) (image_view config part) (part_of config Ahead is_ahead (ahead_at config) ahead_others whole part is_part) can_collect

made_by : (config : Config) (extent : Extent) → extent ≢ Whole → (whole part : List ℕ) → IsImagePart config extent whole part → CanCollectPart config extent (image_view config part)
    → IsMadeOf config extent whole (collect_image config whole) (collect_image config part)
made_by config Whole not_whole whole part is_part can_collect = absurd (not_whole refl)
made_by config OffHeap not_whole whole part is_part can_collect = off_heap_made config whole part is_part can_collect.calm can_collect.idle
made_by config Ahead not_whole whole part is_part can_collect = ahead_made config whole part is_part can_collect.calm can_collect.runs can_collect.unmarked

-- A word that is left out stays 0, but where the free words of a buffer begin.
module _ (config : Config) (part : List ℕ) (index : ℕ) (index_within : index < image_words config) where
  stays_by : collected config (image_view config part) (word_here config index index_within) ≡ image_view config part (word_here config index index_within) → slice_index (collect_image config part) index ≡ slice_index part index
  stays_by same_word = sym (here_reads config index index_within (collect_image config part)) ∙ collected_by_name config part (word_here config index index_within) (here_is config index index_within) ∙ same_word ∙ here_reads config index index_within part

  left_by : (extent : Extent) → extent ≢ Whole → CanCollectPart config extent (image_view config part) → is_of_extent config extent index ≡ false → IsNoFirst config (image_view config part) (word_here config index index_within)
      → slice_index (collect_image config part) index ≡ slice_index part index
  left_by Whole not_whole can_collect not_of_extent no_first = absurd (not_whole refl)
  left_by OffHeap not_whole can_collect not_of_extent no_first =
      stays_by (heap_left config (image_view config part) can_collect.calm can_collect.idle (word_here config index index_within)
      (sym (off_heap_at config (word_here config index index_within) (here_is config index index_within) (here_image config index index_within)) ∙ ap (is_of_extent config OffHeap) (here_at config index index_within) ∙ not_of_extent) no_first)
  left_by Ahead not_whole can_collect not_of_extent no_first =
      stays_by (behind_left config (image_view config part) can_collect.calm can_collect.runs can_collect.unmarked (word_here config index index_within)
      (sym (ahead_at config (word_here config index index_within) (here_is config index index_within) (here_image config index index_within)) ∙ ap (is_of_extent config Ahead) (here_at config index index_within) ∙ not_of_extent) no_first)

-- What is shown at an index of the new image: by whether it is of the extent, and whether free words began there.
shown_at : (of_extent has_start : Bool) (part_word old_word made_word : ℕ) → made_word ≡ (if of_extent || not (part_word == 0) then part_word else old_word) → (of_extent ≡ false → has_start ≡ true → old_word ≡ 0) → (of_extent ≡ false → has_start ≡ false → part_word ≡ 0) → (if of_extent || has_start then made_word else 0) ≡ part_word
shown_at true has_start part_word old_word made_word made cleared left_zero = made
shown_at false false part_word old_word made_word made cleared left_zero = sym (left_zero refl refl)
shown_at false true part_word old_word made_word made cleared left_zero = made ∙ by_test (part_word == 0) refl
  where
    by_test : (zero_test : Bool) → (part_word == 0) ≡ zero_test → (if not zero_test then part_word else old_word) ≡ part_word
    by_test true test_is = cleared refl refl ∙ sym (eqb-true part_word 0 test_is)
    by_test false test_is = refl

-- what was loaded is a part of the image, ..
pub part_of_all : (config : Config) (extent : Extent) (whole : List ℕ) → IsImagePart config extent whole (part_in config extent whole)
part_of_all config extent whole index index_within = part_reads config extent whole index

-- .. and of what is left where those words were made 0 at which free words begin
module _ (config : Config) (extent : Extent) (not_whole : extent ≢ Whole) (image cleared_image starts : List ℕ) (image_long : length image ≡ image_words config)
    (cleared : (asked_index : ℕ) → slice_index cleared_image asked_index ≡ (if has starts asked_index then 0 else slice_index image asked_index)) (of_heap : AreHeapIndices config starts) where
  abbrev part : List ℕ
  part = part_in config extent image

  -- the part is one of these too
  pub part_of_cleared : IsImagePart config extent cleared_image part
  part_of_cleared asked_index index_within = part_reads config extent image asked_index ∙ by_test (is_of_extent config extent asked_index) refl
    where
      by_test : (holds : Bool) → is_of_extent config extent asked_index ≡ holds → (if holds then slice_index image asked_index else 0) ≡ (if holds then slice_index cleared_image asked_index else 0)
      by_test true extent_test = sym (cleared asked_index ∙ cond-false (has starts asked_index) 0 (slice_index image asked_index) (none_is_of config extent not_whole starts of_heap asked_index extent_test))
      by_test false extent_test = refl

  module _ (can_collect : CanCollectPart config extent (image_view config part)) (are_starts : AreStarts config (image_view config part) starts) where
    pub shown_is_made : image_shown config extent starts (collect_image config cleared_image) ≡ collect_image config part
    shown_is_made =
        let same_length = made_long config extent starts (collect_image config cleared_image) ∙ collected_length config cleared_image in
        same_number_lists (image_shown config extent starts (collect_image config cleared_image)) (collect_image config part) (same_length ∙ sym (collected_length config part)) (λ asked_index index_below.
        let index_within : asked_index < image_words config = omega (arith, index_below, same_length) in
        made_reads config extent starts (collect_image config cleared_image) asked_index
        ∙ shown_at (is_of_extent config extent asked_index) (has starts asked_index) (slice_index (collect_image config part) asked_index) (slice_index cleared_image asked_index) (slice_index (collect_image config cleared_image) asked_index)
        (made_by config extent not_whole cleared_image part part_of_cleared can_collect asked_index index_within)
        (λ not_of_extent among. cleared asked_index ∙ cond-true (has starts asked_index) 0 (slice_index image asked_index) among)
        (λ not_of_extent not_among.
        left_by config part asked_index index_within extent not_whole can_collect not_of_extent (none_begins config (image_view config part) starts are_starts asked_index not_among (word_here config asked_index index_within) (here_at config asked_index index_within))
        ∙ part_reads config extent image asked_index ∙ cond-false (is_of_extent config extent asked_index) (slice_index image asked_index) 0 not_of_extent))
