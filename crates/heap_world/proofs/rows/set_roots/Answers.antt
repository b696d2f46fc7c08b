use Rattle.std.proofs.Common.{ℕ, ◌≡◌, ◌+◌, ◌-◌, ◌*◌, ◌/◌, ◌%◌, [], ◌<◌, length, get_or, set, arith, refl, ap, ◌∙◌}
use Rattle.std.proofs.lemmas.List.{length-set}
use Rattle.heap_world.specs.Rows.{reference_in}
use Rattle.heap_world.proofs.CellRows.{AreFull-with_cell, AreSet-with_cell, all_set}
use Rattle.heap_world.proofs.rows.set_roots.Goals as goal

pub loop-position-init : goal.loop-position-init
loop-position-init c = record {
  rows = refl;
  room = refl;
  pins = refl;
  count = refl;
  full = λ thread is_below. c.requires.lengths thread [] is_below;
  done = λ thread index index_below is_below. absurd (omega arith);
}

pub loop-position-preserved : goal.loop-position-preserved
loop-position-preserved c =
    let position = c.loop-position.position in
    let rows = c.loop-position.text.roots in
    let shown = λ (cell : ℕ). reference_in c.args.first c.args.heap.now (get_or c.args.roots.now cell 0) in
    let low : position / 16 < length rows = omega arith in
    let place : position ≡ 16 * (position / 16) + position % 16 = omega arith in
    let within : position % 16 < 16 = omega arith in
    let same_thread : position / 16 + 1 - 1 ≡ position / 16 = omega arith in
    let read_reference = c.reference_to.result in
    let made = ap (λ text. text.roots) c.root.ensures
    ∙ ap (λ index. set rows index (set (get_or rows index []) (position % 16) read_reference)) same_thread in
    record {
      rows = ap (λ text. text.rows) c.root.ensures ∙ c.loop-position.invariant.rows;
      room = ap (λ text. text.room) c.root.ensures ∙ c.loop-position.invariant.room;
      pins = ap (λ text. text.pins) c.root.ensures ∙ c.loop-position.invariant.pins;
      count = (ap length made ∙ length-set rows (position / 16) (set (get_or rows (position / 16) []) (position % 16) read_reference)
          ∙ c.loop-position.invariant.count);
      full = rw made (AreFull-with_cell 16 rows (position / 16) (position % 16) read_reference low c.loop-position.invariant.full);
      done = (rw made (AreSet-with_cell 16 shown rows position (position / 16) (position % 16) read_reference place within low c.loop-position.invariant.full c.reference_to.ensures
          c.loop-position.invariant.done));
    }

pub returns-clause-roots : goal.returns-clause-roots
returns-clause-roots c =
    all_set 16 (reference_in c.args.first c.args.heap.now) c.args.roots.now c.loop-position.text.roots (length c.args.text.now.roots)
    c.loop-position.invariant.count c.requires.threads c.loop-position.invariant.full
    (λ thread index index_below is_below. c.loop-position.invariant.done thread index index_below (omega arith))
