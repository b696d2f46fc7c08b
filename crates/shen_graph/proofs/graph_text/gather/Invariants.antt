use Rattle.std.proofs.Common.{◌≡◌, ℕ, ◌≤◌, map, take, get_or, vec_len, vec_capacity}
use Rattle.std.specs.Prelude.{sum_by}
use Rattle.shen_graph.specs.declared.graph_text.Place.{Place}
use Rattle.shen_graph.specs.TextLayout.{row_at, span_length, IsLaid}
use Rattle.shen_graph.proofs.graph_text.gather.Given as goal

abbrev pub invariant-loop-i : goal.invariant-loop-i
invariant-loop-i loop = record {
  left : (index : ℕ) (place : Place) → loop.i ≤ index → get_or loop.places.items index place ≡ get_or loop.initial.places.items index place;
  rows : map (row_at loop.moved_references.items loop.moved_numbers.items) (take loop.i loop.places.items) ≡ map (row_at loop.references loop.numbers) (take loop.i loop.initial.places.items);
  laid : IsLaid (take loop.i loop.places.items) (vec_len loop.moved_references) (vec_len loop.moved_numbers);
  references : vec_len loop.moved_references ≡ sum_by (λ place. span_length place.refs) (take loop.i loop.initial.places.items);
  numbers : vec_len loop.moved_numbers ≡ sum_by (λ place. span_length place.nums) (take loop.i loop.initial.places.items);
  length : vec_len loop.places ≡ vec_len loop.initial.places;
  place_room : vec_capacity loop.places ≡ vec_capacity loop.initial.places;
  reference_room : vec_capacity loop.initial.moved_references ≤ vec_capacity loop.moved_references;
  number_room : vec_capacity loop.initial.moved_numbers ≤ vec_capacity loop.moved_numbers;
}
