-- A text in memory, with the room that its calls need.
use Rattle.std.specs.Prelude.{All, ◌≡◌, ◌+◌, ◌*◌, ◌≤◌, [], length, map, vec_len, vec_capacity}
use Rattle.shen_graph.specs.declared.graph_text.GraphText.TheInside.{Inside}
use Rattle.shen_graph.specs.GraphText.{Text}
use Rattle.shen_graph.specs.TextLayout.{row_at, IsLaid}

abbrev pub text_in : Inside → Text
text_in inside = record {
  rows = map (row_at inside.references.items inside.numbers.items) inside.places.items;
  roots = inside.roots.items;
  pins = inside.pins.items;
  spare = inside.spare;
  room = inside.room;
}

-- each word of the room is spare or in use, and each list has room for all that may come
pub record HasRoom (t : Inside) : Type 0 where
  pub laid : IsLaid t.places.items (vec_len t.references) (vec_len t.numbers)
  pub words : t.spare + 3 * vec_len t.places + vec_len t.references + vec_len t.numbers ≡ t.room
  pub roots : All (λ row. length row ≡ 16) t.roots.items
  pub pins : All (λ row. length row ≡ 4) t.pins.items
  pub alike : vec_len t.pins ≡ vec_len t.roots
  pub places : t.room ≤ 3 * vec_capacity t.places + 2
  pub references : t.room ≤ vec_capacity t.references
  pub numbers : t.room ≤ vec_capacity t.numbers
  pub moved_references : (t.moved_references.items ≡ []) × (t.room ≤ vec_capacity t.moved_references)
  pub moved_numbers : (t.moved_numbers.items ≡ []) × (t.room ≤ vec_capacity t.moved_numbers)
