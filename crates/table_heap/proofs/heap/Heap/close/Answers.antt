use Rattle.std.proofs.Common.{◌≡◌, length, refl, sym, ap, ◌∙◌, subst, arith}
use Rattle.std.specs.Slots.{slots_items}
use Rattle.std.proofs.lemmas.List.{length-map}
use Rattle.heap_words.specs.declared.config.Config.{Config}
use Rattle.shared_table.specs.Views.{View, machines_of, whole, kept_in_view, HasAllMachines}
use Rattle.shared_table.specs.Counted.{at_start, uncounted_view}
use Rattle.shared_table.proofs.Counted.{all_counted, view_reached}
use Rattle.shared_table.proofs.Kept.{length-kept}
use Rattle.heap_machines.specs.Shown.{shown}
use Rattle.step_core.specs.Actor.{Actor}
use Rattle.step_core.specs.Settled.{image_of, control_number}
use Rattle.std.specs.Prelude.{slice_get, None}
use Rattle.table_heap.specs.declared.key.HeapKey.{HeapKey}
use Rattle.table_heap.specs.Core.{heap_kind, start_of_key, table_start, machine_in}
use Rattle.table_heap.specs.Hinted.{hints_in}
use Rattle.table_heap.specs.State.{view_of}
use Rattle.image_graph.specs.State.{config_of, words_of}
use Rattle.table_heap.specs.Known.{HasTheControl}
use Rattle.table_heap.proofs.Closing.{view_is_whole, view_is_calm, reached_as, has_control}
use Rattle.table_heap.proofs.heap.Heap.close.Goals as goal

pub close_table-rows-requires-clause-all : goal.close_table-rows-requires-clause-all
close_table-rows-requires-clause-all c =
    let bundle = c.args.bundle in
    let key : bundle.key.value ≡ c.args.self.table.shared.key = c.requires.heap.key ∙ sym c.args.self.table_key in
    subst (λ (key : HeapKey). HasAllMachines (length (table_start key).machines) bundle.seat.me.0) key
    (subst (λ count. HasAllMachines count bundle.seat.me.0) (sym (length-map (start_of_key bundle.key.value).machines at_start))
    (all_counted (length (start_of_key bundle.key.value).machines) bundle.seat.me.0
    (view_is_whole bundle.key.value bundle.config bundle.same_sizes (view_of bundle) (kept_in_view shown bundle.machines.items) bundle.kept (length-kept shown bundle.machines.items ∙ bundle.seats) c.requires.all)))

pub control_image-image-requires : goal.control_image-image-requires
control_image-image-requires c =
    let heap = c.args.self in
    let bundle = c.args.bundle in
    let view : View Actor = view_of bundle in
    let view_whole = view_is_whole bundle.key.value bundle.config bundle.same_sizes view (kept_in_view shown bundle.machines.items) bundle.kept (length-kept shown bundle.machines.items ∙ bundle.seats) c.requires.all in
    let key : heap.table.shared.key ≡ bundle.key.value = heap.table_key ∙ sym c.requires.heap.key in
    let words = slots_items c.close_table-rows.result.words in
    subst (λ (config : Config). HasTheControl config bundle.machines.items) c.requires.heap.config
    (has_control bundle.key.value bundle.config bundle.same_sizes bundle.machines.items view words bundle.kept bundle.of_heap view_whole.all (c.requires.all (control_number bundle.config) (omega arith))
    (reached_as heap.table.shared.key bundle.key.value bundle.config words words view view key bundle.same_sizes refl refl
    (view_reached (heap_kind heap.table.shared.key.config) (start_of_key heap.table.shared.key) words bundle.seat.me.0 c.close_table-rows.ensures.reached)))

pub invariant_of-result : goal.invariant_of-result
invariant_of-result c =
    let heap = c.args.self in
    let bundle = c.args.bundle in
    let view : View Actor = view_of bundle in
    let last_view : View Actor = uncounted_view c.of-last.result.value.me.0 in
    let last_seen : view ≡ last_view = sym (ap (λ seat. uncounted_view seat.me.0) c.of-last.ensures) in
    let view_whole = view_is_whole bundle.key.value bundle.config bundle.same_sizes view (kept_in_view shown bundle.machines.items) bundle.kept (length-kept shown bundle.machines.items ∙ bundle.seats) c.requires.all in
    let image = c.read_words.new.image in
    let config : heap.config ≡ config_of image = sym (c.read_words.ensures.config ∙ c.control_image-image.ensures) in
    record {
      same_sizes = heap.same_sizes ∙ config;
      counted = c.hints_taken-hinted.ensures (machines_of view) (ap (kept_in_view shown) c.deref.ensures.value ∙ sym bundle.kept ∙ ap (kept_in_view machine_in) view_whole.all) ∙ ap (λ (view : View Actor). hints_in (machines_of view)) last_seen;
      reached = ∣ reached_as heap.table.shared.key heap.key (config_of image) (slots_items c.close_table-rows.result.words) (words_of image) view last_view heap.table_key (heap.same_sizes ∙ config) (sym c.read_words.ensures.words) last_seen
          (view_reached (heap_kind heap.table.shared.key.config) (start_of_key heap.table.shared.key) (slots_items c.close_table-rows.result.words) bundle.seat.me.0 c.close_table-rows.ensures.reached) ∣₁;
      calm =
          subst (λ (config : Config). image_of (slice_get (machines_of last_view) (control_number config)) ≡ None) (c.requires.heap.config ∙ config)
          (subst (λ (view : View Actor). image_of (slice_get (machines_of view) (control_number bundle.config)) ≡ None) last_seen
          (view_is_calm view (control_number bundle.config) view_whole.all c.requires.control));
    }

pub returns-clause-reached : goal.returns-clause-reached
returns-clause-reached c =
    let heap = c.args.self in
    let bundle = c.args.bundle in
    reached_as heap.table.shared.key heap.key heap.config (slots_items c.close_table-rows.result.words) (words_of c.read_words.new.image) (view_of bundle) (uncounted_view c.of-last.result.value.me.0) heap.table_key heap.same_sizes (sym c.read_words.ensures.words)
    (sym (ap (λ seat. uncounted_view seat.me.0) c.of-last.ensures))
    (view_reached (heap_kind heap.table.shared.key.config) (start_of_key heap.table.shared.key) (slots_items c.close_table-rows.result.words) bundle.seat.me.0 c.close_table-rows.ensures.reached)

pub returns-clause-machines : goal.returns-clause-machines
returns-clause-machines c =
    let bundle = c.args.bundle in
    let view : View Actor = view_of bundle in
    let last_seen : view ≡ uncounted_view c.of-last.result.value.me.0 = sym (ap (λ seat. uncounted_view seat.me.0) c.of-last.ensures) in
    (view_is_whole bundle.key.value bundle.config bundle.same_sizes view (kept_in_view shown bundle.machines.items) bundle.kept (length-kept shown bundle.machines.items ∙ bundle.seats) c.requires.all).all ∙ ap (λ (view : View Actor). whole (machines_of view)) last_seen
