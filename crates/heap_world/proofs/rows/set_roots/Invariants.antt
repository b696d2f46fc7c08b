use Rattle.std.proofs.Common.{◌≡◌, length, get_or}
use Rattle.heap_world.specs.Rows.{reference_in}
use Rattle.heap_world.proofs.CellRows.{AreFull, AreSet}
use Rattle.heap_world.proofs.rows.set_roots.Given as goal

abbrev pub invariant-loop-position : goal.invariant-loop-position
invariant-loop-position locals = record {
  rows : locals.text.rows ≡ locals.initial.text.rows;
  room : locals.text.room ≡ locals.initial.text.room;
  pins : locals.text.pins ≡ locals.initial.text.pins;
  count : length locals.text.roots ≡ length locals.initial.text.roots;
  full : AreFull 16 locals.text.roots;
  done : AreSet 16 (λ place. reference_in locals.first locals.heap (get_or locals.roots place 0)) locals.text.roots locals.position;
}
