use Rattle.std.proofs.Common.{ℕ, List, ◌≡◌, ◌+◌, ◌-◌, ◌++◌, take, drop, length, arith, sym, ap, ◌∙◌, subst}
use Rattle.std.specs.List.{between}
use borrow.Rule.Slice.PartMut.{put_mid}
use Rattle.heap_words.specs.Words.{Top, word_at, heap_size, heap_in}
use Rattle.regions.specs.Table.{CanCompact}
use Rattle.regions.specs.Places.{is_shut}
use Rattle.image_graph.specs.PackedTable.{IsPacked}
use Rattle.image_graph.proofs.Packed.{packed_from, heap_part}
use Rattle.image_graph.proofs.pack.pack_words.Goals as goal

pub returns : goal.returns
returns c =
    let config = c.args.config in
    let before = c.args.words.now in
    let split = c.split_at_mut-low.ensures in
    let low = c.split_at_mut-low.result.0.now in
    let rest = c.split_at_mut-low.result.1.now in
    let rest_is = split.back ∙ ap (λ amount. drop amount before) c.heap_start.ensures.value in
    let split_parts = c.split_at_mut-heap.ensures in
    let heap = c.split_at_mut-heap.result.0.now in
    let words_behind = c.split_at_mut-heap.result.1.now in
    let tops = c.compact_marked.new.tops in
    let after_heap = c.compact_marked.new.heap in
    let top_is : word_at config (Top 0) ≡ c.top_at-top.result = sym c.top_at-top.ensures in
    let same_width : config.regions ≡ c.top_at-top.result + c.regions.result - c.top_at-top.result = omega (arith, c.regions.ensures) in
    let shut = is_shut c.args.shut in
    let all_packed = packed_from config c.args.marks.now before low heap words_behind tops after_heap c.compact_marked.new.places c.requires.table
    (split.front ∙ ap (λ amount. take amount before) c.heap_start.ensures.value)
    (split_parts.front ∙ ap (λ amount. take amount rest) c.heap_size.ensures.value ∙ ap (take (heap_size config)) rest_is)
    (split_parts.back ∙ ap (λ amount. drop amount rest) c.heap_size.ensures.value ∙ ap (drop (heap_size config)) rest_is)
    (omega arith) (omega arith)
    shut c.region_words.result _ c.region_words.ensures c.compact_marked.ensures.slid (λ region inside. c.compact_marked.ensures.tops region (omega (arith, inside))) c.compact_marked.ensures.renews
    (ap (λ amount. between c.top_at-top.result (c.top_at-top.result + amount) low) c.regions.ensures ∙ ap (λ start. between start (start + config.regions) low) c.top_at-top.ensures) in
    subst (λ amount. IsPacked config shut c.args.marks.now before (put_mid c.top_at-top.result amount low tops ++ (after_heap ++ words_behind)) c.compact_marked.new.places) same_width
    (subst (λ start. IsPacked config shut c.args.marks.now before (put_mid start config.regions low tops ++ (after_heap ++ words_behind)) c.compact_marked.new.places) top_is all_packed)

pub top_at-top-requires : goal.top_at-top-requires
top_at-top-requires c = omega (arith, c.args.config.in_range.least_regions)

pub overflow_add-tops : goal.overflow_add-tops
overflow_add-tops c = omega (arith, c.top_at-top.ensures, c.regions.ensures, c.args.config.in_range.most_regions, c.args.config.in_range.most_mutators, c.args.config.in_range.most_helpers)

pub offset_bounds-low-top : goal.offset_bounds-low-top
offset_bounds-low-top c = omega (arith, c.top_at-top.ensures, c.args.config.in_range.most_mutators, c.args.config.in_range.most_helpers)

pub slice_bounds-tops-count : goal.slice_bounds-tops-count
slice_bounds-tops-count c = omega arith

pub compact_marked-requires-clause-compact : goal.compact_marked-requires-clause-compact
compact_marked-requires-clause-compact c =
    let config = c.args.config in
    let before = c.args.words.now in
    let rest = c.split_at_mut-low.result.1.now in
    let heap : heap_in config before ≡ c.split_at_mut-heap.result.0.now =
    heap_part config before ∙ ap (take (heap_size config)) (ap (λ amount. drop amount before) (sym c.heap_start.ensures.value) ∙ sym c.split_at_mut-low.ensures.back)
    ∙ ap (λ amount. take amount rest) (sym c.heap_size.ensures.value) ∙ sym c.split_at_mut-heap.ensures.front in
    subst (λ (size : ℕ). CanCompact size c.split_at_mut-heap.result.0.now c.args.marks.now) (sym c.region_words.ensures)
    (subst (λ (words : List ℕ). CanCompact config.region_words words c.args.marks.now) heap c.requires.compact)

pub compact_marked-requires-clause-table : goal.compact_marked-requires-clause-table
compact_marked-requires-clause-table c =
    let heap_wide : length c.split_at_mut-heap.result.0.now ≡ heap_size c.args.config =
    omega (arith, c.heap_size.ensures.value, c.split_at_mut-heap.ensures.front_len) in
    omega (arith, heap_wide, c.requires.places)
