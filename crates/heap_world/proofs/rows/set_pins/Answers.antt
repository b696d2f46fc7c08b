use Rattle.std.proofs.Common.{ℕ, ◌≡◌, ◌+◌, ◌-◌, ◌*◌, ◌/◌, ◌%◌, [], ◌<◌, length, get_or, set, arith, refl, ap, ◌∙◌}
use Rattle.std.proofs.lemmas.List.{length-set}
use Rattle.heap_world.specs.Rows.{reference_in}
use Rattle.heap_world.proofs.CellRows.{AreFull-with_cell, AreSet-with_cell, all_set}
use Rattle.heap_world.proofs.Texts.{pins_alone}
use Rattle.heap_world.proofs.rows.set_pins.Goals as goal

pub loop-position-init : goal.loop-position-init
loop-position-init c = record {
  rest = refl;
  threads = refl;
  count = refl;
  full = λ thread is_below. c.requires.lengths thread [] is_below;
  done = λ thread index index_below is_below. absurd (omega arith);
}

pub loop-position-preserved : goal.loop-position-preserved
loop-position-preserved c =
    let position = c.loop-position.position in
    let rows = c.loop-position.text.pins in
    let shown = λ (cell : ℕ). reference_in c.args.first c.args.heap.now (get_or c.args.pins.now cell 0) in
    let low : position / 4 < length rows = omega arith in
    let place : position ≡ 4 * (position / 4) + position % 4 = omega arith in
    let within : position % 4 < 4 = omega arith in
    let same_place : position / 4 + 1 - 1 ≡ position / 4 = omega arith in
    let found_reference = c.reference_to.result in
    let with_slot = λ (index : ℕ). set rows index (set (get_or rows index []) (position % 4) found_reference) in
    let made = ap (λ text. text.pins) c.pin.ensures ∙ ap with_slot same_place in
    record {
      rest = pins_alone c.args.text.now c.loop-position.text c.pin.new.self (with_slot (position / 4 + 1 - 1)) c.loop-position.invariant.rest c.pin.ensures;
      threads = ap (λ text. length text.roots) c.pin.ensures ∙ c.loop-position.invariant.threads;
      count = (ap length made ∙ length-set rows (position / 4) (set (get_or rows (position / 4) []) (position % 4) found_reference)
          ∙ c.loop-position.invariant.count);
      full = rw made (AreFull-with_cell 4 rows (position / 4) (position % 4) found_reference low c.loop-position.invariant.full);
      done = (rw made (AreSet-with_cell 4 shown rows position (position / 4) (position % 4) found_reference place within low c.loop-position.invariant.full c.reference_to.ensures
          c.loop-position.invariant.done));
    }

pub returns-clause-rest : goal.returns-clause-rest
returns-clause-rest c = c.loop-position.invariant.rest

pub returns-clause-pins : goal.returns-clause-pins
returns-clause-pins c =
    all_set 4 (reference_in c.args.first c.args.heap.now) c.args.pins.now c.loop-position.text.pins (length c.args.text.now.roots)
    (c.loop-position.invariant.count ∙ c.requires.rows) c.requires.threads c.loop-position.invariant.full
    (λ thread index index_below is_below. c.loop-position.invariant.done thread index index_below (omega arith))
