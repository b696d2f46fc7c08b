use Rattle.std.proofs.Common.{◌≡◌, ◌<◌, length, ◌∙◌, arith}
use Rattle.std.proofs.lemmas.List.{length-map}
use Rattle.shen_graph.specs.declared.order.Order.TheVariants.{Nothing}
use Rattle.heap_machines.specs.Shown.{shown, order_of}
use Rattle.shen_core.specs.State.{machines_of, order_at}
use Rattle.shen_core.proofs.Inside.{StepsInside, inside_turned, inside_runs, inside_notes, inside_pause, inside_others, inside_left}
use Rattle.shen_core.proofs.PauseRounds.{halted_kept}
use Rattle.shen_core.proofs.plain.Plain.turn_inside_image.Goals as goal

pub returns-clause-run : goal.returns-clause-run
returns-clause-run c =
    let plain = c.args.self.now in
    let mid = c.note_next.new.self in
    let next_plain = c.step_inside_image.new.self in
    let within : c.args.number < length (machines_of plain) = omega (arith, length-map plain.machines.items shown, plain.all_machines, c.requires.number) in
    let no_order : order_at plain c.args.number ≡ Nothing = c.requires.run.orders c.args.number Nothing (omega (arith, length-map plain.machines.items order_of, plain.all_machines, c.requires.number)) in
    let facts : StepsInside plain mid next_plain c.args.number = record {
      mid_words = c.note_next.ensures.words;
      mid_machines = c.note_next.ensures.machines;
      mid_orders = c.note_next.ensures.orders;
      mid_config = c.note_next.ensures.config;
      mid_notes = c.note_next.ensures.notes;
      event = c.step_inside_image.ensures.event;
      words = c.step_inside_image.ensures.words;
      machines = c.step_inside_image.ensures.machines;
      orders = c.step_inside_image.ensures.orders;
      config = c.step_inside_image.ensures.config;
      notes = c.step_inside_image.ensures.notes;
    } in
    inside_runs plain mid next_plain c.args.number within no_order c.requires.inside facts c.args.work.now c.requires.run

pub returns-clause-turned : goal.returns-clause-turned
returns-clause-turned c =
    let plain = c.args.self.now in
    let mid = c.note_next.new.self in
    let next_plain = c.step_inside_image.new.self in
    let within : c.args.number < length (machines_of plain) = omega (arith, length-map plain.machines.items shown, plain.all_machines, c.requires.number) in
    let no_order : order_at plain c.args.number ≡ Nothing = c.requires.run.orders c.args.number Nothing (omega (arith, length-map plain.machines.items order_of, plain.all_machines, c.requires.number)) in
    let facts : StepsInside plain mid next_plain c.args.number = record {
      mid_words = c.note_next.ensures.words;
      mid_machines = c.note_next.ensures.machines;
      mid_orders = c.note_next.ensures.orders;
      mid_config = c.note_next.ensures.config;
      mid_notes = c.note_next.ensures.notes;
      event = c.step_inside_image.ensures.event;
      words = c.step_inside_image.ensures.words;
      machines = c.step_inside_image.ensures.machines;
      orders = c.step_inside_image.ensures.orders;
      config = c.step_inside_image.ensures.config;
      notes = c.step_inside_image.ensures.notes;
    } in
    inside_turned plain mid next_plain c.args.number within no_order c.requires.inside facts c.args.work.now

pub returns-clause-notes : goal.returns-clause-notes
returns-clause-notes c =
    let plain = c.args.self.now in
    let mid = c.note_next.new.self in
    let next_plain = c.step_inside_image.new.self in
    let within : c.args.number < length (machines_of plain) = omega (arith, length-map plain.machines.items shown, plain.all_machines, c.requires.number) in
    let no_order : order_at plain c.args.number ≡ Nothing = c.requires.run.orders c.args.number Nothing (omega (arith, length-map plain.machines.items order_of, plain.all_machines, c.requires.number)) in
    let facts : StepsInside plain mid next_plain c.args.number = record {
      mid_words = c.note_next.ensures.words;
      mid_machines = c.note_next.ensures.machines;
      mid_orders = c.note_next.ensures.orders;
      mid_config = c.note_next.ensures.config;
      mid_notes = c.note_next.ensures.notes;
      event = c.step_inside_image.ensures.event;
      words = c.step_inside_image.ensures.words;
      machines = c.step_inside_image.ensures.machines;
      orders = c.step_inside_image.ensures.orders;
      config = c.step_inside_image.ensures.config;
      notes = c.step_inside_image.ensures.notes;
    } in
    inside_notes plain mid next_plain c.args.number within no_order c.requires.inside facts c.args.work.now

pub returns-clause-left : goal.returns-clause-left
returns-clause-left c =
    let plain = c.args.self.now in
    let mid = c.note_next.new.self in
    let next_plain = c.step_inside_image.new.self in
    let within : c.args.number < length (machines_of plain) = omega (arith, length-map plain.machines.items shown, plain.all_machines, c.requires.number) in
    let no_order : order_at plain c.args.number ≡ Nothing = c.requires.run.orders c.args.number Nothing (omega (arith, length-map plain.machines.items order_of, plain.all_machines, c.requires.number)) in
    let facts : StepsInside plain mid next_plain c.args.number = record {
      mid_words = c.note_next.ensures.words;
      mid_machines = c.note_next.ensures.machines;
      mid_orders = c.note_next.ensures.orders;
      mid_config = c.note_next.ensures.config;
      mid_notes = c.note_next.ensures.notes;
      event = c.step_inside_image.ensures.event;
      words = c.step_inside_image.ensures.words;
      machines = c.step_inside_image.ensures.machines;
      orders = c.step_inside_image.ensures.orders;
      config = c.step_inside_image.ensures.config;
      notes = c.step_inside_image.ensures.notes;
    } in
    inside_left plain mid next_plain c.args.number within no_order c.requires.inside facts

pub returns-clause-halted : goal.returns-clause-halted
returns-clause-halted c = λ waiting are.
    let plain = c.args.self.now in
    let mid = c.note_next.new.self in
    let next_plain = c.step_inside_image.new.self in
    let within : c.args.number < length (machines_of plain) = omega (arith, length-map plain.machines.items shown, plain.all_machines, c.requires.number) in
    let no_order : order_at plain c.args.number ≡ Nothing = c.requires.run.orders c.args.number Nothing (omega (arith, length-map plain.machines.items order_of, plain.all_machines, c.requires.number)) in
    let facts : StepsInside plain mid next_plain c.args.number = record {
      mid_words = c.note_next.ensures.words;
      mid_machines = c.note_next.ensures.machines;
      mid_orders = c.note_next.ensures.orders;
      mid_config = c.note_next.ensures.config;
      mid_notes = c.note_next.ensures.notes;
      event = c.step_inside_image.ensures.event;
      words = c.step_inside_image.ensures.words;
      machines = c.step_inside_image.ensures.machines;
      orders = c.step_inside_image.ensures.orders;
      config = c.step_inside_image.ensures.config;
      notes = c.step_inside_image.ensures.notes;
    } in
    halted_kept plain next_plain c.args.number (c.step_inside_image.ensures.config ∙ c.note_next.ensures.config) (inside_pause plain mid next_plain c.args.number within no_order c.requires.inside facts)
    (inside_others plain mid next_plain c.args.number within no_order c.requires.inside facts) c.args.number waiting (omega arith) are
