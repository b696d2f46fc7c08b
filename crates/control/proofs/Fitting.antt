-- What was loaded of an image from which a pause can collect is such that a pause can collect it.
use Rattle.std.proofs.Common.{◌≡◌, ℕ, ◌<◌, true, List, refl, sym, ◌∙◌, subst}
use Rattle.std.specs.Prelude.{slice_index}
use Rattle.std.proofs.Math.Path.{fun_ext}
use Rattle.std.proofs.Math.Nat.{ℕ_set}
use Rattle.std.proofs.Math.Bridge.{le_prop}
use mathlib.Core.Bool.{Bool-set}
use Rattle.heap_words.specs.declared.config.Config.{Config}
use Rattle.heap_words.specs.Words.{Word, Root, Answer, Pin, Current}
use Rattle.shen_graph.specs.Graph.{Graph}
use Rattle.heap_world.specs.Asking.{Asking}
use Rattle.heap_world.specs.Represents.{Represents}
use Rattle.heap_world.specs.Change.{image_view}
use Rattle.image_graph.specs.SeatBuffers.{IsInside, AreInside}
use Rattle.mark_core.specs.Trace.{IsNullOrInside, HasRootsInside}
use Rattle.mark_core.proofs.MarkingBegun.{held_inside_some}
use Rattle.collector_rows.specs.declared.extent.Extent.{Extent}
use Rattle.collector_rows.specs.declared.extent.Extent.TheVariants.{Whole, OffHeap, Ahead}
use Rattle.collector_rows.specs.Extent.{extent_by}
use Rattle.collector_rows.specs.ByParts.{IsImagePart}
use Rattle.cycle_pauses.specs.Collect.{CanPauseSome}
use Rattle.cycle_pauses.specs.Brief.{is_off_heap, is_ahead, IsPartOf}
use Rattle.cycle_pauses.proofs.Brief.Indices.{off_heap_at, ahead_at}
use Rattle.cycle_pauses.proofs.Brief.ByParts.{part_of, off_heap_others, ahead_others, calm_part, idle_by, late_by}
pub use Rattle.cycle_pauses.proofs.Brief.ByParts.{collect_pauses_by_parts}
use Rattle.cycle_pauses.proofs.Pauses.{representing_can_collect}
use Rattle.control.specs.Fit.{CanCollectPart}
use Rattle.control.proofs.Collecting.{can_hold, can_inside}

roots_in_part : (config : Config) (memory part : Word → ℕ) → IsPartOf is_off_heap memory part → HasRootsInside config memory → HasRootsInside config part
roots_in_part config memory part is_part inside = record {
  roots = λ mutator index mutator_below few. subst (IsNullOrInside config) (is_part.same (Root mutator index) refl) (inside.roots mutator index mutator_below few);
  pins = λ mutator slot mutator_below few. subst (IsNullOrInside config) (is_part.same (Pin mutator slot) refl) (inside.pins mutator slot mutator_below few);
  answers = λ mutator mutator_below some_answer. subst (IsNullOrInside config) (is_part.same (Answer mutator) refl) (inside.answers mutator mutator_below (subst (λ answer_word. 1 < answer_word) (sym (is_part.same (Answer mutator) refl)) some_answer));
}

buffers_in_part : (config : Config) (memory part : Word → ℕ) → ((seat : ℕ) → memory (Current seat) ≡ part (Current seat)) → AreInside config memory → AreInside config part
buffers_in_part config memory part same_current inside = λ seat seat_below some_buffer. subst (IsInside config) (same_current seat) (inside seat seat_below (λ no_buffer. some_buffer (sym (same_current seat) ∙ no_buffer)))

part_can : (config : Config) (extent : Extent) (whole part : List ℕ) → IsImagePart config extent whole part → extent ≡ extent_by config (slice_index part 0) part → CanPauseSome config (image_view config whole)
    → CanCollectPart config extent (image_view config part)
part_can config Whole whole part is_part extent_is can_pause =
    let memory_part : IsPartOf (λ word. true) (image_view config whole) (image_view config part) = part_of config Whole (λ word. true) (λ word word_is image. refl) (λ word out. refl) whole part is_part in
    subst (CanPauseSome config) (fun_ext (λ word. memory_part.same word refl)) can_pause
part_can config OffHeap whole part is_part extent_is can_pause =
    let memory_part : IsPartOf is_off_heap (image_view config whole) (image_view config part) = part_of config OffHeap is_off_heap (off_heap_at config) off_heap_others whole part is_part in
    let not_whole : extent_by config (slice_index part 0) part ≡ Whole → ⊥ = λ whole_read. let same_extent = extent_is ∙ whole_read in cc in
    record {
      calm = calm_part config part not_whole;
      idle = idle_by config part not_whole (sym extent_is);
      roots = roots_in_part config (image_view config whole) (image_view config part) memory_part (held_inside_some config (image_view config whole) (can_hold config (image_view config whole) can_pause));
      buffers = buffers_in_part config (image_view config whole) (image_view config part) (λ seat. memory_part.same (Current seat) refl) (can_inside config (image_view config whole) can_pause);
    }
part_can config Ahead whole part is_part extent_is can_pause =
    let memory_part : IsPartOf is_ahead (image_view config whole) (image_view config part) = part_of config Ahead is_ahead (ahead_at config) ahead_others whole part is_part in
    let not_whole : extent_by config (slice_index part 0) part ≡ Whole → ⊥ = λ whole_read. let same_extent = extent_is ∙ whole_read in cc in
    let late = late_by config part not_whole (sym extent_is) in
    record {
      calm = calm_part config part not_whole;
      runs = late.0;
      unmarked = late.1;
      buffers = buffers_in_part config (image_view config whole) (image_view config part) (λ seat. memory_part.same (Current seat) refl) (can_inside config (image_view config whole) can_pause);
    }

-- so it is of an image that stands for a graph
pub part_of_some_can : (config : Config) (extent : Extent) (whole part : List ℕ) (graph : Graph) (asking : ℕ → Asking) → IsImagePart config extent whole part → extent ≡ extent_by config (slice_index part 0) part
    → Represents config (image_view config whole) graph asking → CanCollectPart config extent (image_view config part)
part_of_some_can config extent whole part graph asking is_part extent_is stands = part_can config extent whole part is_part extent_is (representing_can_collect config whole graph asking stands)

-- and that is one fact
pub can_collect_prop : (config : Config) (extent : Extent) (memory : Word → ℕ) → IsProp (CanCollectPart config extent memory)
can_collect_prop config Whole memory = hlevel
can_collect_prop config OffHeap memory = hlevel (le_prop, ℕ_set, Bool-set)
can_collect_prop config Ahead memory = hlevel (le_prop, ℕ_set, Bool-set)
