use Rattle.std.proofs.Common.{◌≡◌, ◌≢◌, ◌+◌, ◌<◌, ◌≤◌, map, take, length, get_or, vec_len, arith, refl, sym, ap, ◌∙◌, get_or-set_other}
use Rattle.std.proofs.lemmas.Grind.{common_steps}
use Rattle.std.proofs.lemmas.List.{get_or_read, take_all, take_more_set, map_more}
use Rattle.std.proofs.lemmas.List.Sums.{sum_by_more, sum_by_more_le}
use Rattle.shen_graph.specs.declared.graph_text.Span.{Span}
use Rattle.shen_graph.specs.declared.graph_text.Place.{Place}
use Rattle.shen_graph.specs.TextLayout.{row_at, span_length}
use Rattle.shen_graph.proofs.TextLemmas.{rows-carried, IsLaid-push}
use Rattle.shen_graph.proofs.graph_text.gather.Goals as goal

-- the place that an index out of range would give
abbrev nowhere : Place
nowhere = record { name = record { thread = 0; count = 0 }; refs = record { from = 0; to = 0 }; nums = record { from = 0; to = 0 } }

pub carry-nums-requires-clause-room : goal.carry-nums-requires-clause-room
carry-nums-requires-clause-room c =
    let inv = c.loop-i.invariant in
    let index_below : c.loop-i.i < length c.args.places.now.items = grind (arith, common_steps) in
    let read_place : Place = c.index-place.result.now in
    let same_place : read_place ≡ get_or c.args.places.now.items c.loop-i.i nowhere = get_or_read c.args.places.now.items c.loop-i.i read_place index_below (c.index-place.ensures ∙ inv.left c.loop-i.i read_place (omega arith)) nowhere in
    rw same_place (omega (arith, inv.numbers, inv.number_room, c.requires.room_for_numbers, sum_by_more_le (λ (place : Place). span_length place.nums) c.args.places.now.items c.loop-i.i nowhere index_below))

pub loop-i-preserved : goal.loop-i-preserved
loop-i-preserved c =
    let inv = c.loop-i.invariant in
    let index = c.loop-i.i in
    let read_place : Place = c.index-place.result.now in
    let listed_place = get_or c.args.places.now.items index nowhere in
    let index_below : index < length c.args.places.now.items = grind (arith, common_steps) in
    let inside : index < length c.loop-i.places.items = grind (arith, common_steps) in
    let same_place : read_place ≡ listed_place = get_or_read c.args.places.now.items index read_place index_below (c.index-place.ensures ∙ inv.left index read_place (omega arith)) nowhere in
    let moved_place : Place = record { name = read_place.name; refs = c.carry-refs.result; nums = c.carry-nums.result } in
    let taken_more = take_more_set c.loop-i.places.items index moved_place inside in
    let within = c.requires.within index nowhere index_below in
    let refs_len : vec_len c.carry-refs.new.into ≡ vec_len c.loop-i.moved_references + span_length listed_place.refs = c.carry-refs.ensures.len ∙ ap (λ (place : Place). vec_len c.loop-i.moved_references + span_length place.refs) same_place in
    let nums_len : vec_len c.carry-nums.new.into ≡ vec_len c.loop-i.moved_numbers + span_length listed_place.nums = c.carry-nums.ensures.len ∙ ap (λ (place : Place). vec_len c.loop-i.moved_numbers + span_length place.nums) same_place in
    let refs_to : c.carry-refs.result.to ≡ vec_len c.carry-refs.new.into = ap (λ (span : Span). span.to) c.carry-refs.ensures.span ∙ sym c.carry-refs.ensures.len in
    let nums_to : c.carry-nums.result.to ≡ vec_len c.carry-nums.new.into = ap (λ (span : Span). span.to) c.carry-nums.ensures.span ∙ sym c.carry-nums.ensures.len in
    let refs_from : c.carry-refs.result.from ≡ vec_len c.loop-i.moved_references = ap (λ (span : Span). span.from) c.carry-refs.ensures.span in
    let nums_from : c.carry-nums.result.from ≡ vec_len c.loop-i.moved_numbers = ap (λ (span : Span). span.from) c.carry-nums.ensures.span in
    record {
      left = λ number default above_index. let index_differs : number ≢ index = omega arith in rw get_or-set_other (inv.left number default (omega arith));
      rows = rw (taken_more, c.carry-refs.ensures.items, c.carry-nums.ensures.items, same_place) (
          rows-carried c.args.references.now c.args.numbers.now c.loop-i.moved_references.items c.loop-i.moved_numbers.items (take index c.loop-i.places.items) (map (row_at c.args.references.now c.args.numbers.now) (take index c.args.places.now.items)) listed_place (record moved_place { name = listed_place.name })
          refl (c.carry-refs.ensures.span ∙ rw (same_place, c.loop-i.moved_references.ok.0) refl) (c.carry-nums.ensures.span ∙ rw (same_place, c.loop-i.moved_numbers.ok.0) refl) within
          (rw (c.loop-i.moved_references.ok.0, c.loop-i.moved_numbers.ok.0) at inv.laid) inv.rows
          ∙ sym (map_more (row_at c.args.references.now c.args.numbers.now) c.args.places.now.items index nowhere index_below));
      laid = rw (taken_more, ← refs_to, ← nums_to) (IsLaid-push (take index c.loop-i.places.items) (vec_len c.loop-i.moved_references) (vec_len c.loop-i.moved_numbers) moved_place inv.laid refs_from nums_from (omega arith) (omega arith));
      references = refs_len ∙ ap (λ number. number + span_length listed_place.refs) inv.references ∙ sym (sum_by_more (λ (place : Place). span_length place.refs) c.args.places.now.items index nowhere index_below);
      numbers = nums_len ∙ ap (λ number. number + span_length listed_place.nums) inv.numbers ∙ sym (sum_by_more (λ (place : Place). span_length place.nums) c.args.places.now.items index nowhere index_below);
      length = inv.length;
      place_room = inv.place_room;
      reference_room = omega (arith, inv.reference_room, c.carry-refs.ensures.capacity);
      number_room = omega (arith, inv.number_room, c.carry-nums.ensures.capacity);
    }

pub returns-clause-rows : goal.returns-clause-rows
returns-clause-rows c =
    let index = c.loop-i.i in
    let places_done : length c.loop-i.places.items ≤ index = omega (arith, c.loop-i.invariant.length) in
    let given_done : length c.args.places.now.items ≤ index = omega arith in
    rw (take_all index c.loop-i.places.items places_done, take_all index c.args.places.now.items given_done) at c.loop-i.invariant.rows

pub returns-clause-laid : goal.returns-clause-laid
returns-clause-laid c =
    let index = c.loop-i.i in
    let places_done : length c.loop-i.places.items ≤ index = omega (arith, c.loop-i.invariant.length) in
    rw (take_all index c.loop-i.places.items places_done) at c.loop-i.invariant.laid

pub returns-clause-references : goal.returns-clause-references
returns-clause-references c =
    let index = c.loop-i.i in
    let given_done : length c.args.places.now.items ≤ index = omega arith in
    rw (take_all index c.args.places.now.items given_done) at c.loop-i.invariant.references

pub returns-clause-numbers : goal.returns-clause-numbers
returns-clause-numbers c =
    let index = c.loop-i.i in
    let given_done : length c.args.places.now.items ≤ index = omega arith in
    rw (take_all index c.args.places.now.items given_done) at c.loop-i.invariant.numbers

pub returns-clause-places : goal.returns-clause-places
returns-clause-places c = c.loop-i.invariant.length

pub returns-clause-place_room : goal.returns-clause-place_room
returns-clause-place_room c = c.loop-i.invariant.place_room

pub returns-clause-reference_room : goal.returns-clause-reference_room
returns-clause-reference_room c = c.loop-i.invariant.reference_room

pub returns-clause-number_room : goal.returns-clause-number_room
returns-clause-number_room c = c.loop-i.invariant.number_room

pub carry-refs-requires-clause-within : goal.carry-refs-requires-clause-within
carry-refs-requires-clause-within c =
    let inv = c.loop-i.invariant in
    let index_below : c.loop-i.i < length c.args.places.now.items = omega (arith, inv.length) in
    let read_place : Place = c.index-place.result.now in
    let same_place : read_place ≡ get_or c.args.places.now.items c.loop-i.i nowhere = get_or_read c.args.places.now.items c.loop-i.i read_place index_below (c.index-place.ensures ∙ inv.left c.loop-i.i read_place (omega arith)) nowhere in
    let within = c.requires.within c.loop-i.i nowhere index_below in
    rw same_place (within.0, within.1)

pub carry-refs-requires-clause-room : goal.carry-refs-requires-clause-room
carry-refs-requires-clause-room c =
    let inv = c.loop-i.invariant in
    let index_below : c.loop-i.i < length c.args.places.now.items = omega (arith, inv.length) in
    let read_place : Place = c.index-place.result.now in
    let same_place : read_place ≡ get_or c.args.places.now.items c.loop-i.i nowhere = get_or_read c.args.places.now.items c.loop-i.i read_place index_below (c.index-place.ensures ∙ inv.left c.loop-i.i read_place (omega arith)) nowhere in
    rw same_place (omega (arith, inv.references, inv.reference_room, c.requires.room_for_references, sum_by_more_le (λ (place : Place). span_length place.refs) c.args.places.now.items c.loop-i.i nowhere index_below))

pub carry-nums-requires-clause-within : goal.carry-nums-requires-clause-within
carry-nums-requires-clause-within c =
    let inv = c.loop-i.invariant in
    let index_below : c.loop-i.i < length c.args.places.now.items = omega (arith, inv.length) in
    let read_place : Place = c.index-place.result.now in
    let same_place : read_place ≡ get_or c.args.places.now.items c.loop-i.i nowhere = get_or_read c.args.places.now.items c.loop-i.i read_place index_below (c.index-place.ensures ∙ inv.left c.loop-i.i read_place (omega arith)) nowhere in
    let within = c.requires.within c.loop-i.i nowhere index_below in
    rw same_place (within.2, within.3)

pub index-place-requires : goal.index-place-requires
index-place-requires c = omega (arith, c.loop-i.invariant.length)

pub index_mut-requires : goal.index_mut-requires
index_mut-requires c = omega (arith, c.loop-i.invariant.length)
