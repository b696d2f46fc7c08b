use Rattle.std.proofs.Common.{◌≡◌, map, vec_len, vec_capacity, arith, rules, refl, ap, ◌∙◌}
use Rattle.std.specs.List.{IsDistinct}
use Rattle.std.proofs.lemmas.List.Sorted.{answers_always, All-permutation, IsPermutation-map, sum_by-IsPermutation}
use Rattle.shen_graph.specs.declared.graph_text.Place.{Place}
use Rattle.shen_graph.specs.Graph.{same_name}
use Rattle.shen_graph.specs.TextLayout.{row_at, span_length, Within}
use Rattle.shen_graph.proofs.OrderLemmas.{InOrder-from_sorted, IsDistinct-permutation}
use Rattle.shen_graph.proofs.TextLemmas.{names-rows}
use Rattle.shen_graph.proofs.graph_text.GraphText.sort.Goals as goal

pub gather-requires-clause-within : goal.gather-requires-clause-within
gather-requires-clause-within c =
    rw (c.deref.ensures.len, c.deref-2.ensures.len)
    (All-permutation (Within (vec_len c.self.inside.references) (vec_len c.self.inside.numbers)) c.self.inside.places.items c.sort_unstable_by_key.new.self.items c.sort_unstable_by_key.ensures.permutation c.self.invariant.laid.within)

pub gather-requires-clause-room_for_references : goal.gather-requires-clause-room_for_references
gather-requires-clause-room_for_references c =
    let laid = c.self.invariant.laid in
    omega (
      arith,
      c.self.invariant.words,
      c.self.invariant.moved_references.1,
      laid.fills_refs,
      sum_by-IsPermutation (λ (place : Place). span_length place.refs) c.self.inside.places.items c.sort_unstable_by_key.new.self.items c.sort_unstable_by_key.ensures.permutation,
    )

pub gather-requires-clause-room_for_numbers : goal.gather-requires-clause-room_for_numbers
gather-requires-clause-room_for_numbers c =
    let laid = c.self.invariant.laid in
    omega (
      arith,
      c.self.invariant.words,
      c.self.invariant.moved_numbers.1,
      laid.fills_nums,
      sum_by-IsPermutation (λ (place : Place). span_length place.nums) c.self.inside.places.items c.sort_unstable_by_key.new.self.items c.sort_unstable_by_key.ensures.permutation,
    )

pub invariant_of-self : goal.invariant_of-self
invariant_of-self c =
    let room = c.self.invariant in
    let refs = sum_by-IsPermutation (λ (place : Place). span_length place.refs) c.self.inside.places.items c.sort_unstable_by_key.new.self.items c.sort_unstable_by_key.ensures.permutation in
    let nums = sum_by-IsPermutation (λ (place : Place). span_length place.nums) c.self.inside.places.items c.sort_unstable_by_key.new.self.items c.sort_unstable_by_key.ensures.permutation in
    let ref_count : vec_len c.swap.new.x ≡ vec_len c.self.inside.references = ap vec_len c.swap.ensures.x_after ∙ c.gather.ensures.references ∙ refs ∙ room.laid.fills_refs in
    let num_count : vec_len c.swap-2.new.x ≡ vec_len c.self.inside.numbers = ap vec_len c.swap-2.ensures.x_after ∙ c.gather.ensures.numbers ∙ nums ∙ room.laid.fills_nums in
    let places : vec_len c.gather.new.places ≡ vec_len c.self.inside.places = c.gather.ensures.places ∙ c.sort_unstable_by_key.ensures.len in
    record {
      laid = rw (c.swap.ensures.x_after, c.swap-2.ensures.x_after) c.gather.ensures.laid;
      words = omega (arith, room.words, ref_count, num_count, places);
      roots = room.roots;
      pins = room.pins;
      alike = room.alike;
      places = omega (arith, room.places, c.gather.ensures.place_room, c.sort_unstable_by_key.ensures.capacity);
      references = omega (arith, room.moved_references.1, c.gather.ensures.reference_room, ap vec_capacity c.swap.ensures.x_after);
      numbers = omega (arith, room.moved_numbers.1, c.gather.ensures.number_room, ap vec_capacity c.swap-2.ensures.x_after);
      moved_references = (c.clear.ensures.items, omega (arith, room.references, c.clear.ensures.capacity, ap vec_capacity c.swap.ensures.y_after));
      moved_numbers = (c.clear-2.ensures.items, omega (arith, room.numbers, c.clear-2.ensures.capacity, ap vec_capacity c.swap-2.ensures.y_after));
    }

pub returns-clause-rows : goal.returns-clause-rows
returns-clause-rows c =
    let rows : map (row_at c.swap.new.x.items c.swap-2.new.x.items) c.gather.new.places.items ≡ map (row_at c.self.inside.references.items c.self.inside.numbers.items) c.sort_unstable_by_key.new.self.items =
    rw (c.swap.ensures.x_after, c.swap-2.ensures.x_after) (c.gather.ensures.rows ∙ rw (c.deref.ensures.value, c.deref-2.ensures.value) refl) in
    rw (← c.self.view_is, rows) (IsPermutation-map (row_at c.self.inside.references.items c.self.inside.numbers.items) c.self.inside.places.items c.sort_unstable_by_key.new.self.items c.sort_unstable_by_key.ensures.permutation)

pub returns-clause-order : goal.returns-clause-order
returns-clause-order c =
    let sorted = c.sort_unstable_by_key.ensures.sorted (λ (place : Place). place.name) (answers_always _ _ _ (λ f a r g h. search rules)) in
    let row_of = row_at c.self.inside.references.items c.self.inside.numbers.items in
    let rows : map (row_at c.swap.new.x.items c.swap-2.new.x.items) c.gather.new.places.items ≡ map row_of c.sort_unstable_by_key.new.self.items =
    rw (c.swap.ensures.x_after, c.swap-2.ensures.x_after) (c.gather.ensures.rows ∙ rw (c.deref.ensures.value, c.deref-2.ensures.value) refl) in
    let distinct : IsDistinct same_name (map (λ r. r.name) (map row_of c.self.inside.places.items)) = rw (← c.self.view_is) at c.requires in
    let name = λ (place : Place). place.name in
    let differ : IsDistinct same_name (map name c.sort_unstable_by_key.new.self.items) =
    IsDistinct-permutation (map name c.self.inside.places.items) (map name c.sort_unstable_by_key.new.self.items)
    (IsPermutation-map name c.self.inside.places.items c.sort_unstable_by_key.new.self.items c.sort_unstable_by_key.ensures.permutation)
    (rw (names-rows c.self.inside.references.items c.self.inside.numbers.items c.self.inside.places.items) at distinct) in
    rw (rows, names-rows c.self.inside.references.items c.self.inside.numbers.items c.sort_unstable_by_key.new.self.items)
    (InOrder-from_sorted name c.sort_unstable_by_key.new.self.items sorted differ)
