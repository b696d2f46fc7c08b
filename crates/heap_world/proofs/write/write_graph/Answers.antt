use Rattle.std.proofs.Common.{ℕ, ◌≡◌, ◌-◌, ◌≤◌, ◌++◌, None, List, All, length, map, replicate, sum_by, arith, ap, sym, subst, ◌∙◌}
use Rattle.std.specs.List.{IsDistinct}
use Rattle.std.proofs.Math.Logic.{∥∥₁_elim}
use Rattle.std.proofs.lemmas.Map.Keys.{IsDistinct-prop}
use Rattle.std.specs.List.Sorted.{IsPermutation}
use Rattle.std.proofs.lemmas.List.{length-replicate, get_or-replicate}
use Rattle.shen_graph.specs.GraphText.{names_of}
use Rattle.shen_graph.specs.Reach.{InOrder}
use Rattle.shen_graph.specs.Graph.{Reference, same_name}
use Rattle.heap_world.specs.Walk.{size_at}
use Rattle.heap_world.specs.Rows.{row_in_heap, reference_in, root_word, root_rows, pin_word, pin_rows}
use Rattle.heap_world.proofs.Merely.{sound_some}
use Rattle.heap_world.proofs.Shown.{roots_named, pins_named, all_above, all_below, all_named, all_fit, names_differ, shows}
use Rattle.heap_world.proofs.write.write_graph.Goals as goal

pub find_reachable-requires-clause-sound : goal.find_reachable-requires-clause-sound
find_reachable-requires-clause-sound c = sound_some c.args.first c.args.heap.now c.args.roots.now c.args.pins.now c.requires.first c.requires.stand

pub write_objects-requires-clause-above : goal.write_objects-requires-clause-above
write_objects-requires-clause-above c =
    let is_sound = sound_some c.args.first c.args.heap.now c.args.roots.now c.args.pins.now c.requires.first c.requires.stand in
    rw c.deref.ensures.value (all_above c.args.first c.args.heap.now c.args.roots.now c.args.pins.now is_sound _ c.find_reachable.ensures.walk)

pub write_objects-requires-clause-below : goal.write_objects-requires-clause-below
write_objects-requires-clause-below c =
    let is_sound = sound_some c.args.first c.args.heap.now c.args.roots.now c.args.pins.now c.requires.first c.requires.stand in
    rw c.deref.ensures.value (all_below c.args.first c.args.heap.now c.args.roots.now c.args.pins.now is_sound _ c.find_reachable.ensures.walk)

pub write_objects-requires-clause-named : goal.write_objects-requires-clause-named
write_objects-requires-clause-named c =
    let is_sound = sound_some c.args.first c.args.heap.now c.args.roots.now c.args.pins.now c.requires.first c.requires.stand in
    rw c.deref.ensures.value (all_named c.args.first c.args.heap.now c.args.roots.now c.args.pins.now is_sound _ c.find_reachable.ensures.walk)

pub write_objects-requires-clause-room : goal.write_objects-requires-clause-room
write_objects-requires-clause-room c =
    let is_sound = sound_some c.args.first c.args.heap.now c.args.roots.now c.args.pins.now c.requires.first c.requires.stand in
    let order = c.find_reachable.new.order.items in
    let words = λ (address : ℕ). size_at c.args.heap.now (address - c.args.first) in
    let fit : sum_by words order ≤ length c.args.heap.now =
    all_fit c.args.first c.args.heap.now c.args.roots.now c.args.pins.now is_sound order c.find_reachable.ensures.walk in
    let spare : c.clear.new.self.spare ≡ c.args.text.now.room = ap (λ text. text.spare) c.clear.ensures in
    let enough : sum_by words order ≤ c.clear.new.self.spare = omega arith in
    rw c.deref.ensures.value enough

pub write_objects-requires-clause-differ : goal.write_objects-requires-clause-differ
write_objects-requires-clause-differ c =
    let row = row_in_heap c.args.first c.args.heap.now in
    let order = c.find_reachable.new.order.items in
    let differ : IsDistinct same_name (map (λ object_row. object_row.name) (map row order)) =
    ∥∥₁_elim c.requires.stand (IsDistinct-prop same_name (map (λ object_row. object_row.name) (map row order)))
    (λ stand. names_differ c.args.first c.args.heap.now c.args.roots.now c.args.pins.now order stand.0 stand.1.0 c.requires.first stand.1.1 c.find_reachable.ensures.walk) in
    let rows : c.clear.new.self.rows ++ map row c.deref.result.now ≡ map row c.find_reachable.new.order.items =
    ap (λ text. text.rows ++ map row c.deref.result.now) c.clear.ensures ∙ ap (map row) c.deref.ensures.value in
    subst (λ row_list. IsDistinct same_name (map (λ object_row. object_row.name) row_list)) (sym rows) differ

pub set_roots-requires-clause-named : goal.set_roots-requires-clause-named
set_roots-requires-clause-named c =
    roots_named c.args.first c.args.heap.now c.args.roots.now c.args.pins.now
    (sound_some c.args.first c.args.heap.now c.args.roots.now c.args.pins.now c.requires.first c.requires.stand)

pub set_pins-requires-clause-named : goal.set_pins-requires-clause-named
set_pins-requires-clause-named c =
    pins_named c.args.first c.args.heap.now c.args.roots.now c.args.pins.now
    (sound_some c.args.first c.args.heap.now c.args.roots.now c.args.pins.now c.requires.first c.requires.stand)

pub set_pins-requires-clause-threads : goal.set_pins-requires-clause-threads
set_pins-requires-clause-threads c =
    let null = replicate {A = Reference} 16 None in
    let threads : length c.set_roots.new.text.roots ≡ length c.args.text.now.roots =
    c.set_roots.ensures.threads ∙ ap length c.write_objects.ensures.roots ∙ ap (λ text. length text.roots) c.clear.ensures
    ∙ length-replicate (length c.args.text.now.roots) null in
    omega (arith, threads, c.requires.slots)

pub set_pins-requires-clause-few : goal.set_pins-requires-clause-few
set_pins-requires-clause-few c =
    let null = replicate {A = Reference} 16 None in
    let threads : length c.set_roots.new.text.roots ≡ length c.args.text.now.roots =
    c.set_roots.ensures.threads ∙ ap length c.write_objects.ensures.roots ∙ ap (λ text. length text.roots) c.clear.ensures
    ∙ length-replicate (length c.args.text.now.roots) null in
    omega (arith, threads, c.requires.few)

pub set_pins-requires-clause-rows : goal.set_pins-requires-clause-rows
set_pins-requires-clause-rows c =
    let null = replicate {A = Reference} 16 None in
    let nothing = replicate {A = Reference} 4 None in
    let threads : length c.set_roots.new.text.roots ≡ length c.args.text.now.roots =
    c.set_roots.ensures.threads ∙ ap length c.write_objects.ensures.roots ∙ ap (λ text. length text.roots) c.clear.ensures
    ∙ length-replicate (length c.args.text.now.roots) null in
    ap length c.set_roots.ensures.pins ∙ ap length c.write_objects.ensures.pins ∙ ap (λ text. length text.pins) c.clear.ensures
    ∙ length-replicate (length c.args.text.now.roots) nothing ∙ sym threads

pub set_pins-requires-clause-lengths : goal.set_pins-requires-clause-lengths
set_pins-requires-clause-lengths c =
    let nothing = replicate {A = Reference} 4 None in
    let threads = length c.args.text.now.roots in
    let pins : c.set_roots.new.text.pins ≡ replicate threads nothing =
    c.set_roots.ensures.pins ∙ c.write_objects.ensures.pins ∙ ap (λ text. text.pins) c.clear.ensures in
    subst (λ (rows : List (List Reference)). All (λ row. length row ≡ 4) rows) (sym pins)
    (λ place otherwise is_below. ap length (get_or-replicate threads place nothing otherwise (rw length-replicate at is_below)) ∙ length-replicate {A = Reference} 4 None)

pub returns-clause-shows : goal.returns-clause-shows
returns-clause-shows c naming graph stand =
    let order = c.find_reachable.new.order.items in
    let text = c.set_pins.new.text in
    let row = row_in_heap c.args.first c.args.heap.now in
    let rows : c.clear.new.self.rows ++ map row c.deref.result.now ≡ map row order =
    ap (λ written_text. written_text.rows ++ map row c.deref.result.now) c.clear.ensures ∙ ap (map row) c.deref.ensures.value in
    let same_rows = sym (ap (λ written_text. written_text.rows) c.set_pins.ensures.rest ∙ c.set_roots.ensures.rows) in
    let moved : IsPermutation (map row order) text.rows =
    subst (λ row_list. IsPermutation row_list text.rows) rows
    (subst (λ row_list. IsPermutation (c.clear.new.self.rows ++ map row c.deref.result.now) row_list) same_rows c.write_objects.ensures.rows) in
    let ordered : InOrder (names_of text) =
    subst (λ row_list. InOrder (map (λ object_row. object_row.name) row_list)) same_rows c.write_objects.ensures.order in
    let null = replicate {A = Reference} 16 None in
    let threads : length c.write_objects.new.text.roots ≡ length c.args.text.now.roots =
    ap length c.write_objects.ensures.roots ∙ ap (λ written_text. length written_text.roots) c.clear.ensures
    ∙ length-replicate (length c.args.text.now.roots) null in
    let root = λ (written_text index : ℕ). reference_in c.args.first c.args.heap.now (root_word c.args.roots.now written_text index) in
    let pin = λ (written_text index : ℕ). reference_in c.args.first c.args.heap.now (pin_word c.args.pins.now written_text index) in
    shows c.args.first c.args.heap.now c.args.roots.now c.args.pins.now order naming graph c.requires.first stand c.find_reachable.ensures.walk text moved
    (length c.args.text.now.roots) ordered
    (ap (λ written_text. written_text.roots) c.set_pins.ensures.rest ∙ c.set_roots.ensures.roots ∙ ap (root_rows root) threads)
    (c.set_pins.ensures.pins ∙ ap (pin_rows pin) (c.set_roots.ensures.threads ∙ threads))

pub returns-clause-words : goal.returns-clause-words
returns-clause-words c =
    ap (λ text. text.room) c.set_pins.ensures.rest ∙ c.set_roots.ensures.room ∙ c.write_objects.ensures.room ∙ ap (λ text. text.room) c.clear.ensures

pub returns-clause-threads : goal.returns-clause-threads
returns-clause-threads c =
    let null = replicate {A = Reference} 16 None in
    ap (λ text. length text.roots) c.set_pins.ensures.rest ∙ c.set_roots.ensures.threads
    ∙ ap length c.write_objects.ensures.roots ∙ ap (λ text. length text.roots) c.clear.ensures
    ∙ length-replicate (length c.args.text.now.roots) null
