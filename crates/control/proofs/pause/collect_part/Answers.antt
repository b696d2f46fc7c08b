use Rattle.std.proofs.Common.{◌≡◌, ◌≢◌, ℕ, List, sym, ap, ◌∙◌, subst}
use Rattle.std.specs.Prelude.{if◌then◌else◌, slice_index}
use Rattle.heap_words.specs.declared.config.Config.{Config}
use Rattle.heap_words.specs.Words.{Word}
use Rattle.heap_world.specs.Walk.{has}
use Rattle.heap_world.specs.Change.{image_view}
use Rattle.image_graph.specs.declared.image.Image.{Image}
use Rattle.image_graph.specs.State.{config_of, memory_of}
use Rattle.collector_rows.specs.declared.extent.Extent.{Extent}
use Rattle.collector_rows.specs.declared.extent.Extent.TheVariants.{Whole}
use Rattle.cycle_pauses.specs.Collect.{collected, collect_image}
use Rattle.control.specs.Clear.{IsClear}
use Rattle.control.specs.Fit.{CanCollectPart}
use Rattle.control.specs.Image.{image_in, part_in, image_shown}
use Rattle.control.specs.Starts.{start_index, AreStarts, AreHeapIndices}
use Rattle.control.proofs.Images.{memory-image_in, length-image_in, image-collected, clear-collected}
use Rattle.control.proofs.ByPart.{CanGoOn, goes_by, part_of_all, part_of_cleared, shown_is_made}
use Rattle.control.proofs.pause.collect_part.Goals as goal

-- an image as it was loaded
module _ (old : Image) (extent : Extent) (not_whole : extent ≢ Whole) (clear : IsClear old)
    (can_collect : CanCollectPart (config_of old) extent (image_view (config_of old) (part_in (config_of old) extent (image_in old)))) where
  abbrev d : Config
  d = config_of old

  abbrev loaded : Word → ℕ
  loaded = image_view d (part_in d extent (image_in old))

  goes_old : CanGoOn d (memory_of old) loaded
  goes_old =
      subst (λ memory. CanGoOn d memory loaded) (sym (memory-image_in old clear))
      (goes_by d extent not_whole (image_in old) (part_in d extent (image_in old)) (part_of_all d extent (image_in old)) can_collect)

  -- and once the words are 0 there at which free words begin
  module _ (mid : Image) (starts : List ℕ) (config : config_of mid ≡ config_of old) (cleared : (index : ℕ) → slice_index (image_in mid) index ≡ (if has starts index then 0 else slice_index (image_in old) index))
      (still_clear : IsClear mid) (of_heap : AreHeapIndices (config_of old) starts) where
    memory_is : memory_of mid ≡ image_view d (image_in mid)
    memory_is = memory-image_in mid still_clear ∙ ap (λ index. image_view index (image_in mid)) config

    goes_mid : CanGoOn (config_of mid) (memory_of mid) loaded
    goes_mid =
        subst (λ config. CanGoOn config (memory_of mid) loaded) (sym config) (subst (λ memory. CanGoOn d memory loaded) (sym memory_is)
        (goes_by d extent not_whole (image_in mid) (part_in d extent (image_in old)) (part_of_cleared d extent not_whole (image_in old) (image_in mid) starts (length-image_in old) cleared of_heap) can_collect))

    -- and collected
    made : (new : Image) → config_of new ≡ config_of mid → memory_of new ≡ collected (config_of mid) (memory_of mid) → AreStarts d (memory_of old) starts
        → image_shown d extent starts (image_in new) ≡ collect_image d (part_in d extent (image_in old))
    made new config_then words starts_right =
        ap (image_shown d extent starts) (image-collected mid new still_clear config_then words ∙ ap (λ index. collect_image index (image_in mid)) config)
        ∙ shown_is_made d extent not_whole (image_in old) (image_in mid) starts (length-image_in old) cleared of_heap can_collect
        (record { long = starts_right.long; of_seat = λ seat seat_below. starts_right.of_seat seat seat_below ∙ ap (start_index d) (goes_old.same_buffers seat) })

pub starts_in-starts-requires : goal.starts_in-starts-requires
starts_in-starts-requires c = let collect_facts = goes_old c.args.image.now c.args.extent c.requires.part c.requires.clear c.requires.can in collect_facts.buffers

pub collect_by_part-requires-clause-calm : goal.collect_by_part-requires-clause-calm
collect_by_part-requires-clause-calm c =
    let collect_facts = goes_mid c.args.image.now c.args.extent c.requires.part c.requires.clear c.requires.can c.clear_starts.new.image c.starts_in-starts.result
    c.clear_starts.ensures.config c.clear_starts.ensures.image c.clear_starts.ensures.clear c.starts_in-starts.ensures.heap in
    collect_facts.calm

pub collect_by_part-requires-clause-unmarked : goal.collect_by_part-requires-clause-unmarked
collect_by_part-requires-clause-unmarked c =
    let collect_facts = goes_mid c.args.image.now c.args.extent c.requires.part c.requires.clear c.requires.can c.clear_starts.new.image c.starts_in-starts.result
    c.clear_starts.ensures.config c.clear_starts.ensures.image c.clear_starts.ensures.clear c.starts_in-starts.ensures.heap in
    collect_facts.unmarked

pub collect_by_part-requires-clause-roots : goal.collect_by_part-requires-clause-roots
collect_by_part-requires-clause-roots c =
    let collect_facts = goes_mid c.args.image.now c.args.extent c.requires.part c.requires.clear c.requires.can c.clear_starts.new.image c.starts_in-starts.result
    c.clear_starts.ensures.config c.clear_starts.ensures.image c.clear_starts.ensures.clear c.starts_in-starts.ensures.heap in
    collect_facts.roots

pub collect_by_part-requires-clause-buffers : goal.collect_by_part-requires-clause-buffers
collect_by_part-requires-clause-buffers c =
    let collect_facts = goes_mid c.args.image.now c.args.extent c.requires.part c.requires.clear c.requires.can c.clear_starts.new.image c.starts_in-starts.result
    c.clear_starts.ensures.config c.clear_starts.ensures.image c.clear_starts.ensures.clear c.starts_in-starts.ensures.heap in
    collect_facts.buffers

pub returns-clause-image : goal.returns-clause-image
returns-clause-image c =
    made c.args.image.now c.args.extent c.requires.part c.requires.clear c.requires.can c.clear_starts.new.image c.starts_in-starts.result
    c.clear_starts.ensures.config c.clear_starts.ensures.image c.clear_starts.ensures.clear c.starts_in-starts.ensures.heap
    c.collect_by_part.new.image c.collect_by_part.ensures.config c.collect_by_part.ensures.words c.starts_in-starts.ensures.are

pub returns-clause-clear : goal.returns-clause-clear
returns-clause-clear c =
    clear-collected c.clear_starts.new.image c.collect_by_part.new.image c.clear_starts.ensures.clear c.collect_by_part.ensures.config c.collect_by_part.ensures.words
