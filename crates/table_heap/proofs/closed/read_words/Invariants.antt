use Rattle.std.proofs.Common.{◌≡◌, ℕ, ◌<◌, length}
use Rattle.std.specs.Prelude.{slice_index}
use Rattle.std.specs.Slots.{slots_items, slots_len}
use Rattle.image_graph.specs.State.{config_of, words_of}
use Rattle.table_heap.proofs.closed.read_words.Given as goal

abbrev pub invariant-loop-at : goal.invariant-loop-at
invariant-loop-at locals = record {
  config : config_of locals.image ≡ config_of locals.fn.image;
  long : length (words_of locals.image) ≡ slots_len locals.rows.words;
  read : (index : ℕ) → index < locals.at → slice_index (words_of locals.image) index ≡ slice_index (slots_items locals.rows.words) index;
}
