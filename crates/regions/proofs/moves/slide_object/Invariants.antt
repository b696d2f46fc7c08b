use Rattle.std.proofs.Common.{◌≡◌, ℕ, ◌+◌, ◌<◌, ◌≤◌, length, slice_index}
use Rattle.regions.specs.Slide.{slid_word}
use Rattle.regions.specs.Table.{from_table}
use Rattle.regions.proofs.moves.slide_object.Given as goal

abbrev pub invariant-loop-index : goal.invariant-loop-index
invariant-loop-index locals = record {
  words : length locals.heap ≡ length locals.fn.heap;
  moved : (index : ℕ) → index < locals.index → slice_index locals.heap (locals.to + index) ≡ slid_word (from_table locals.first locals.places) (slice_index locals.fn.heap) locals.from index;
  below : (address : ℕ) → address < locals.to → slice_index locals.heap address ≡ slice_index locals.fn.heap address;
  behind : (address : ℕ) → locals.to + locals.index ≤ address → slice_index locals.heap address ≡ slice_index locals.fn.heap address;
}
