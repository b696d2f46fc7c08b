use Rattle.std.proofs.Common.{◌≡◌, length, get_or}
use Rattle.heap_world.specs.Rows.{reference_in}
use Rattle.heap_world.proofs.CellRows.{AreFull, AreSet}
use Rattle.heap_world.proofs.rows.set_pins.Given as goal

abbrev pub invariant-loop-position : goal.invariant-loop-position
invariant-loop-position locals = record {
  rest : locals.text ≡ record locals.initial.text { pins = locals.text.pins };
  threads : length locals.text.roots ≡ length locals.initial.text.roots;
  count : length locals.text.pins ≡ length locals.initial.text.pins;
  full : AreFull 4 locals.text.pins;
  done : AreSet 4 (λ place. reference_in locals.first locals.heap (get_or locals.pins place 0)) locals.text.pins locals.position;
}
