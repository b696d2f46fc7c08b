use Rattle.std.proofs.Common.{◌≡◌, ◌+◌, ◌<◌, ◌≤◌, [], ◌∷◌, ◌++◌, length, vec_len, vec_capacity, true, arith, refl, ◌∙◌}
use Rattle.std.specs.Prelude.{is_ok}
use Rattle.std.proofs.lemmas.List.{length-map}
use Rattle.shen_graph.specs.TextLayout.{row_at}
use Rattle.shen_graph.proofs.TextLemmas.{IsLaid-grow_refs, rows-grow_refs, grow_refs, set_last_read}
use Rattle.shen_graph.proofs.graph_text.GraphText.reference.Goals as goal

pub invariant_of-self : goal.invariant_of-self
invariant_of-self c =
    let room = c.self.invariant in
    let spare : 1 ≤ c.self.inside.spare = rw (← c.self.view_is) at c.requires.room in
    let row_of = row_at c.self.inside.references.items c.self.inside.numbers.items in
    let some_place : 0 < length c.self.inside.places.items = omega (arith, rw (← c.self.view_is) at c.requires.row, length-map c.self.inside.places.items row_of) in
    let fits : vec_len c.self.inside.references < vec_capacity c.self.inside.references = omega (arith, room.words, room.references) in
    let same_length : c.len-last.result ≡ length c.self.inside.places.items = c.len-last.ensures ∙ c.self.inside.places.ok.0 in
    let grown = set_last_read grow_refs c.self.inside.places.items c.len-last.result c.index_mut-place.result.now some_place same_length c.index_mut-place.ensures.value in
    let done : is_ok c.push.result ≡ true = c.push.ensures.succeeds fits in
    let pushed : vec_len c.push.new.self ≡ vec_len c.self.inside.references + 1 = rw done at c.push.ensures.len in
    record {
      laid = rw (grown, pushed) (IsLaid-grow_refs c.self.inside.places.items (vec_len c.self.inside.references) (vec_len c.self.inside.numbers) some_place room.laid);
      words = omega (arith, room.words, spare, pushed);
      roots = room.roots;
      pins = room.pins;
      alike = room.alike;
      places = room.places;
      references = omega (arith, room.references, c.push.ensures.capacity);
      numbers = omega (arith, room.numbers, c.push.ensures.capacity);
      moved_references = room.moved_references;
      moved_numbers = room.moved_numbers;
    }

pub returns : goal.returns
returns c =
    let room = c.self.invariant in
    let spare : 1 ≤ c.self.inside.spare = rw (← c.self.view_is) at c.requires.room in
    let row_of = row_at c.self.inside.references.items c.self.inside.numbers.items in
    let some_place : 0 < length c.self.inside.places.items = omega (arith, rw (← c.self.view_is) at c.requires.row, length-map c.self.inside.places.items row_of) in
    let fits : vec_len c.self.inside.references < vec_capacity c.self.inside.references = omega (arith, room.words, room.references) in
    let same_length : c.len-last.result ≡ length c.self.inside.places.items = c.len-last.ensures ∙ c.self.inside.places.ok.0 in
    let grown = set_last_read grow_refs c.self.inside.places.items c.len-last.result c.index_mut-place.result.now some_place same_length c.index_mut-place.ensures.value in
    let done : is_ok c.push.result ≡ true = c.push.ensures.succeeds fits in
    let pushed : c.push.new.self.items ≡ c.self.inside.references.items ++ c.args.to ∷ [] = rw done at c.push.ensures.items in
    let rows = rows-grow_refs c.self.inside.references.items c.self.inside.numbers.items c.args.to c.self.inside.places.items (rw (c.self.inside.references.ok.0, c.self.inside.numbers.ok.0) at room.laid) in
    rw (← c.self.view_is, grown, pushed, rows) refl
