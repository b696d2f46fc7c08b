use Rattle.std.proofs.Common.{ℕ, ◌+◌, ◌-◌, ◌<◌, ◌≤◌, [], ◌∷◌, ◌++◌, length, map, get_or, take, arith, ap, sym, ◌∙◌}
use Rattle.std.proofs.lemmas.List.{take_more, map-append, append_assoc, length-map}
use Rattle.std.proofs.lemmas.List.Sums.{sum_by_more, sum_by_more_le}
use Rattle.heap_world.specs.Walk.{refs_at, size_at}
use Rattle.heap_world.specs.Rows.{reference_in, row_in_heap}
use Rattle.heap_world.proofs.ObjectRows.{length-refs_at, length-nums_at}
use Rattle.heap_world.proofs.rows.add_objects.Goals as goal

pub add_object-requires-clause-room : goal.add_object-requires-clause-room
add_object-requires-clause-room c =
    let words = λ (some_address : ℕ). size_at c.args.heap.now (some_address - c.args.first) in
    omega (arith, sum_by_more_le words c.args.order.now c.loop-address.address-index 0)

pub loop-address-preserved : goal.loop-address-preserved
loop-address-preserved c =
    let first_address = c.args.first in
    let heap = c.args.heap.now in
    let order = c.args.order.now in
    let index = c.loop-address.address-index in
    let address = get_or order index 0 in
    let offset = address - first_address in
    let low : index < length order = omega arith in
    let words = λ (any_address : ℕ). size_at heap (any_address - first_address) in
    let made = c.add_object.ensures in
    let within : offset + size_at heap offset ≤ length heap = omega (arith, c.requires.above index 0 low, c.requires.below index 0 low) in
    let row = row_in_heap first_address heap address in
    let before = map (row_in_heap first_address heap) (take index order) in
    record {
      rows = (ap (λ text. text.rows) made ∙ ap (λ xs. xs ++ row ∷ []) c.loop-address.invariant.rows
          ∙ append_assoc c.args.text.now.rows before (row ∷ [])
          ∙ ap (λ xs. c.args.text.now.rows ++ xs)
          (sym (map-append (row_in_heap first_address heap) (take index order) (address ∷ [])) ∙ ap (map (row_in_heap first_address heap)) (sym (take_more order index 0 low))));
      roots = ap (λ text. text.roots) made ∙ c.loop-address.invariant.roots;
      pins = ap (λ text. text.pins) made ∙ c.loop-address.invariant.pins;
      room = ap (λ text. text.room) made ∙ c.loop-address.invariant.room;
      spare = (omega (
        arith,
        ap (λ text. text.spare) made,
        sum_by_more words order index 0 low,
        sum_by_more_le words order index 0 low,
        length-map (refs_at heap offset) (reference_in first_address heap),
        length-refs_at heap offset within,
        length-nums_at heap offset within,
      ));
    }
