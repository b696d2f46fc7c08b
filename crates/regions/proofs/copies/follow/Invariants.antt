use Rattle.std.proofs.Common.{◌≡◌, ℕ, ◌<◌, ◌≤◌, length, slice_index}
use Rattle.regions.specs.Table.{current_index, IsOwnCopy}
use Rattle.regions.proofs.copies.follow.Given as goal

abbrev pub invariant-loop-index : goal.invariant-loop-index
invariant-loop-index locals = record {
  table : length locals.places ≡ length locals.fn.places;
  done : (address : ℕ) → address < locals.index → IsOwnCopy locals.first locals.heap (current_index locals.first locals.heap address)
      → slice_index locals.places address ≡ slice_index locals.fn.places (current_index locals.first locals.heap address);
  later : (address : ℕ) → locals.index ≤ address → slice_index locals.places address ≡ slice_index locals.fn.places address;
}
