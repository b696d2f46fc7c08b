use Rattle.std.proofs.lemmas.Bool.{false≢true}
use Rattle.heap_words.specs.Ranges.{seat_count}
use Rattle.std.proofs.Common.{sym, ◌∙◌, subst, arith, refl, ◌<◌}
use Rattle.std.proofs.lemmas.List.{length-map}
use Rattle.heap_machines.specs.Shown.{shown, order_of}
use Rattle.shen_graph.specs.declared.order.Order.TheVariants.{Nothing}
use Rattle.shen_core.specs.State.{order_at, machines_of}
use Rattle.shen_core.specs.Progress.{CanRun, IsTurn, IsNextTurn, HasTurned}
use Rattle.shen_core.proofs.Turns.{machine_within, role_shown}
use Rattle.shen_core.proofs.Noted.{IsStepped, can_run_on, can_run_noted, turned_on, turned_noted, none_given, reply_given, has_reply, can_tell}
use Rattle.shen_core.proofs.Noting.{turn_kept}
use Rattle.shen_core.proofs.Halted.{halted_turned, halted_notes}
use Rattle.shen_core.proofs.plain.Plain.turn.Goals as goal

pub reply-requires-clause-ended : goal.reply-requires-clause-ended
reply-requires-clause-ended c =
    let plain = c.args.self.now in
    let machine_there = machine_within (machines_of plain) c.args.number (omega (arith, length-map plain.machines.items shown, plain.all_machines, c.requires.number)) in
    let has_order = c.order_noted.ensures.has ∙ c.if-not-order_noted.false in
    let facts : IsStepped plain c.order_noted.new.self c.step-stepped.new.self c.args.work.now c.args.number c.step-stepped.result = record {
      within = omega (arith, length-map plain.machines.items shown, plain.all_machines, c.requires.number);
      mid_words = c.order_noted.ensures.words;
      mid_machines = c.order_noted.ensures.machines;
      mid_config = c.order_noted.ensures.config;
      mid_orders = c.order_noted.ensures.orders;
      role = role_shown plain.config plain.words.items _ c.args.number _ plain.reached machine_there;
      turn = subst (λ has_turn. IsTurn plain c.args.work.now c.args.number has_turn (order_at c.order_noted.new.self c.args.number)) c.if-not-order_noted.false c.order_noted.ensures.turn;
      next = subst (λ has_turn. IsNextTurn plain c.args.work.now c.args.number has_turn (order_at c.order_noted.new.self c.args.number)) c.if-not-order_noted.false c.order_noted.ensures.next;
      has = has_order;
      event = c.step-stepped.ensures.event has_order;
      says = c.step-stepped.ensures.says has_order;
      machines = c.step-stepped.ensures.machines has_order;
      orders = c.step-stepped.ensures.orders has_order;
      config = c.step-stepped.ensures.config;
    } in
    has_reply _ _ _ _ _ _ facts c.in-Done.is

pub told-requires-clause-script : goal.told-requires-clause-script
told-requires-clause-script c =
    let plain = c.args.self.now in
    let machine_there = machine_within (machines_of plain) c.args.number (omega (arith, length-map plain.machines.items shown, plain.all_machines, c.requires.number)) in
    let has_order = c.order_noted.ensures.has ∙ c.if-not-order_noted.false in
    let facts : IsStepped plain c.order_noted.new.self c.step-stepped.new.self c.args.work.now c.args.number c.step-stepped.result = record {
      within = omega (arith, length-map plain.machines.items shown, plain.all_machines, c.requires.number);
      mid_words = c.order_noted.ensures.words;
      mid_machines = c.order_noted.ensures.machines;
      mid_config = c.order_noted.ensures.config;
      mid_orders = c.order_noted.ensures.orders;
      role = role_shown plain.config plain.words.items _ c.args.number _ plain.reached machine_there;
      turn = subst (λ has_turn. IsTurn plain c.args.work.now c.args.number has_turn (order_at c.order_noted.new.self c.args.number)) c.if-not-order_noted.false c.order_noted.ensures.turn;
      next = subst (λ has_turn. IsNextTurn plain c.args.work.now c.args.number has_turn (order_at c.order_noted.new.self c.args.number)) c.if-not-order_noted.false c.order_noted.ensures.next;
      has = has_order;
      event = c.step-stepped.ensures.event has_order;
      says = c.step-stepped.ensures.says has_order;
      machines = c.step-stepped.ensures.machines has_order;
      orders = c.step-stepped.ensures.orders has_order;
      config = c.step-stepped.ensures.config;
    } in
    (can_tell _ _ _ _ _ _ facts c.requires.run c.in-Done.is).0

pub told-requires-clause-more : goal.told-requires-clause-more
told-requires-clause-more c =
    let plain = c.args.self.now in
    let machine_there = machine_within (machines_of plain) c.args.number (omega (arith, length-map plain.machines.items shown, plain.all_machines, c.requires.number)) in
    let has_order = c.order_noted.ensures.has ∙ c.if-not-order_noted.false in
    let facts : IsStepped plain c.order_noted.new.self c.step-stepped.new.self c.args.work.now c.args.number c.step-stepped.result = record {
      within = omega (arith, length-map plain.machines.items shown, plain.all_machines, c.requires.number);
      mid_words = c.order_noted.ensures.words;
      mid_machines = c.order_noted.ensures.machines;
      mid_config = c.order_noted.ensures.config;
      mid_orders = c.order_noted.ensures.orders;
      role = role_shown plain.config plain.words.items _ c.args.number _ plain.reached machine_there;
      turn = subst (λ has_turn. IsTurn plain c.args.work.now c.args.number has_turn (order_at c.order_noted.new.self c.args.number)) c.if-not-order_noted.false c.order_noted.ensures.turn;
      next = subst (λ has_turn. IsNextTurn plain c.args.work.now c.args.number has_turn (order_at c.order_noted.new.self c.args.number)) c.if-not-order_noted.false c.order_noted.ensures.next;
      has = has_order;
      event = c.step-stepped.ensures.event has_order;
      says = c.step-stepped.ensures.says has_order;
      machines = c.step-stepped.ensures.machines has_order;
      orders = c.step-stepped.ensures.orders has_order;
      config = c.step-stepped.ensures.config;
    } in
    (can_tell _ _ _ _ _ _ facts c.requires.run c.in-Done.is).1

pub returns-in-Done-clause-run : goal.returns-in-Done-clause-run
returns-in-Done-clause-run c =
    let plain = c.args.self.now in
    let machine_there = machine_within (machines_of plain) c.args.number (omega (arith, length-map plain.machines.items shown, plain.all_machines, c.requires.number)) in
    let has_order = c.order_noted.ensures.has ∙ c.if-not-order_noted.false in
    let facts : IsStepped plain c.order_noted.new.self c.step-stepped.new.self c.args.work.now c.args.number c.step-stepped.result = record {
      within = omega (arith, length-map plain.machines.items shown, plain.all_machines, c.requires.number);
      mid_words = c.order_noted.ensures.words;
      mid_machines = c.order_noted.ensures.machines;
      mid_config = c.order_noted.ensures.config;
      mid_orders = c.order_noted.ensures.orders;
      role = role_shown plain.config plain.words.items _ c.args.number _ plain.reached machine_there;
      turn = subst (λ has_turn. IsTurn plain c.args.work.now c.args.number has_turn (order_at c.order_noted.new.self c.args.number)) c.if-not-order_noted.false c.order_noted.ensures.turn;
      next = subst (λ has_turn. IsNextTurn plain c.args.work.now c.args.number has_turn (order_at c.order_noted.new.self c.args.number)) c.if-not-order_noted.false c.order_noted.ensures.next;
      has = has_order;
      event = c.step-stepped.ensures.event has_order;
      says = c.step-stepped.ensures.says has_order;
      machines = c.step-stepped.ensures.machines has_order;
      orders = c.step-stepped.ensures.orders has_order;
      config = c.step-stepped.ensures.config;
    } in
    subst (λ jobs. CanRun c.step-stepped.new.self jobs) (sym c.told.ensures)
    (can_run_noted _ _ _ _ _ _ facts c.reply.result (reply_given _ _ _ _ _ _ facts c.reply.result c.in-Done.is c.reply.ensures) c.requires.run)

pub returns-in-Done-clause-turned : goal.returns-in-Done-clause-turned
returns-in-Done-clause-turned c =
    let plain = c.args.self.now in
    let machine_there = machine_within (machines_of plain) c.args.number (omega (arith, length-map plain.machines.items shown, plain.all_machines, c.requires.number)) in
    let has_order = c.order_noted.ensures.has ∙ c.if-not-order_noted.false in
    let facts : IsStepped plain c.order_noted.new.self c.step-stepped.new.self c.args.work.now c.args.number c.step-stepped.result = record {
      within = omega (arith, length-map plain.machines.items shown, plain.all_machines, c.requires.number);
      mid_words = c.order_noted.ensures.words;
      mid_machines = c.order_noted.ensures.machines;
      mid_config = c.order_noted.ensures.config;
      mid_orders = c.order_noted.ensures.orders;
      role = role_shown plain.config plain.words.items _ c.args.number _ plain.reached machine_there;
      turn = subst (λ has_turn. IsTurn plain c.args.work.now c.args.number has_turn (order_at c.order_noted.new.self c.args.number)) c.if-not-order_noted.false c.order_noted.ensures.turn;
      next = subst (λ has_turn. IsNextTurn plain c.args.work.now c.args.number has_turn (order_at c.order_noted.new.self c.args.number)) c.if-not-order_noted.false c.order_noted.ensures.next;
      has = has_order;
      event = c.step-stepped.ensures.event has_order;
      says = c.step-stepped.ensures.says has_order;
      machines = c.step-stepped.ensures.machines has_order;
      orders = c.step-stepped.ensures.orders has_order;
      config = c.step-stepped.ensures.config;
    } in
    subst (λ jobs. HasTurned plain c.args.work.now c.args.number c.step-stepped.new.self jobs c.step-stepped.result) (sym c.told.ensures)
    (turned_noted _ _ _ _ _ _ facts c.reply.result (reply_given _ _ _ _ _ _ facts c.reply.result c.in-Done.is c.reply.ensures) (can_tell _ _ _ _ _ _ facts c.requires.run c.in-Done.is).0)

pub returns-in_default-clause-run : goal.returns-in_default-clause-run
returns-in_default-clause-run c =
    let plain = c.args.self.now in
    let machine_there = machine_within (machines_of plain) c.args.number (omega (arith, length-map plain.machines.items shown, plain.all_machines, c.requires.number)) in
    let has_order = c.order_noted.ensures.has ∙ c.if-not-order_noted.false in
    let facts : IsStepped plain c.order_noted.new.self c.step-stepped.new.self c.args.work.now c.args.number c.step-stepped.result = record {
      within = omega (arith, length-map plain.machines.items shown, plain.all_machines, c.requires.number);
      mid_words = c.order_noted.ensures.words;
      mid_machines = c.order_noted.ensures.machines;
      mid_config = c.order_noted.ensures.config;
      mid_orders = c.order_noted.ensures.orders;
      role = role_shown plain.config plain.words.items _ c.args.number _ plain.reached machine_there;
      turn = subst (λ has_turn. IsTurn plain c.args.work.now c.args.number has_turn (order_at c.order_noted.new.self c.args.number)) c.if-not-order_noted.false c.order_noted.ensures.turn;
      next = subst (λ has_turn. IsNextTurn plain c.args.work.now c.args.number has_turn (order_at c.order_noted.new.self c.args.number)) c.if-not-order_noted.false c.order_noted.ensures.next;
      has = has_order;
      event = c.step-stepped.ensures.event has_order;
      says = c.step-stepped.ensures.says has_order;
      machines = c.step-stepped.ensures.machines has_order;
      orders = c.step-stepped.ensures.orders has_order;
      config = c.step-stepped.ensures.config;
    } in
    can_run_on _ _ _ _ _ _ facts (none_given _ _ _ _ _ _ facts (λ is_done. c.in_default.not-Done is_done)) c.requires.run

pub returns-in_default-clause-turned : goal.returns-in_default-clause-turned
returns-in_default-clause-turned c =
    let plain = c.args.self.now in
    let machine_there = machine_within (machines_of plain) c.args.number (omega (arith, length-map plain.machines.items shown, plain.all_machines, c.requires.number)) in
    let has_order = c.order_noted.ensures.has ∙ c.if-not-order_noted.false in
    let facts : IsStepped plain c.order_noted.new.self c.step-stepped.new.self c.args.work.now c.args.number c.step-stepped.result = record {
      within = omega (arith, length-map plain.machines.items shown, plain.all_machines, c.requires.number);
      mid_words = c.order_noted.ensures.words;
      mid_machines = c.order_noted.ensures.machines;
      mid_config = c.order_noted.ensures.config;
      mid_orders = c.order_noted.ensures.orders;
      role = role_shown plain.config plain.words.items _ c.args.number _ plain.reached machine_there;
      turn = subst (λ has_turn. IsTurn plain c.args.work.now c.args.number has_turn (order_at c.order_noted.new.self c.args.number)) c.if-not-order_noted.false c.order_noted.ensures.turn;
      next = subst (λ has_turn. IsNextTurn plain c.args.work.now c.args.number has_turn (order_at c.order_noted.new.self c.args.number)) c.if-not-order_noted.false c.order_noted.ensures.next;
      has = has_order;
      event = c.step-stepped.ensures.event has_order;
      says = c.step-stepped.ensures.says has_order;
      machines = c.step-stepped.ensures.machines has_order;
      orders = c.step-stepped.ensures.orders has_order;
      config = c.step-stepped.ensures.config;
    } in
    turned_on _ _ _ _ _ _ facts (none_given _ _ _ _ _ _ facts (λ is_done. c.in_default.not-Done is_done))

pub order_noted-requires-clause-number : goal.order_noted-requires-clause-number
order_noted-requires-clause-number c = c.requires.number

pub order_noted-requires-clause-run : goal.order_noted-requires-clause-run
order_noted-requires-clause-run c = c.requires.run

pub returns-then-not-order_noted-clause-config : goal.returns-then-not-order_noted-clause-config
returns-then-not-order_noted-clause-config c = c.order_noted.ensures.config

pub returns-then-not-order_noted-clause-idle_work : goal.returns-then-not-order_noted-clause-idle_work
returns-then-not-order_noted-clause-idle_work c = λ _. refl

pub reply-requires-clause-number : goal.reply-requires-clause-number
reply-requires-clause-number c = subst (λ config. c.args.number < seat_count config.mutators config.helpers) (sym (c.step-stepped.ensures.config ∙ c.order_noted.ensures.config)) c.requires.number

pub step-stepped-requires : goal.step-stepped-requires
step-stepped-requires c = subst (λ config. c.args.number < seat_count config.mutators config.helpers) (sym c.order_noted.ensures.config) c.requires.number

pub returns-in-Done-clause-config : goal.returns-in-Done-clause-config
returns-in-Done-clause-config c = c.step-stepped.ensures.config ∙ c.order_noted.ensures.config

pub returns-in-Done-clause-idle : goal.returns-in-Done-clause-idle
returns-in-Done-clause-idle c = λ idle. absurd (false≢true (sym (c.step-stepped.ensures.idle.0 idle) ∙ c.order_noted.ensures.has ∙ c.if-not-order_noted.false))

pub returns-in-Done-clause-idle_work : goal.returns-in-Done-clause-idle_work
returns-in-Done-clause-idle_work c = λ idle. absurd (false≢true (sym (c.step-stepped.ensures.idle.0 idle) ∙ c.order_noted.ensures.has ∙ c.if-not-order_noted.false))

pub returns-in_default-clause-config : goal.returns-in_default-clause-config
returns-in_default-clause-config c = c.step-stepped.ensures.config ∙ c.order_noted.ensures.config

pub returns-in_default-clause-idle : goal.returns-in_default-clause-idle
returns-in_default-clause-idle c = λ idle. absurd (false≢true (sym (c.step-stepped.ensures.idle.0 idle) ∙ c.order_noted.ensures.has ∙ c.if-not-order_noted.false))

pub returns-in_default-clause-idle_work : goal.returns-in_default-clause-idle_work
returns-in_default-clause-idle_work c = λ _. refl

pub returns-then-not-order_noted-clause-idle : goal.returns-then-not-order_noted-clause-idle
returns-then-not-order_noted-clause-idle c = λ _. record { config = c.order_noted.ensures.config; words = c.order_noted.ensures.words; machines = c.order_noted.ensures.machines; orders = c.order_noted.ensures.unchanged c.if-not-order_noted.true; notes = c.order_noted.ensures.none c.if-not-order_noted.true }

pub returns-in-Done-clause-notes : goal.returns-in-Done-clause-notes
returns-in-Done-clause-notes c = turn_kept c.args.self.now c.order_noted.new.self c.step-stepped.new.self c.args.work.now c.args.number c.order_noted.ensures.notes c.step-stepped.ensures.notes

pub returns-in_default-clause-notes : goal.returns-in_default-clause-notes
returns-in_default-clause-notes c = turn_kept c.args.self.now c.order_noted.new.self c.step-stepped.new.self c.args.work.now c.args.number c.order_noted.ensures.notes c.step-stepped.ensures.notes

pub returns-then-is_halted-clause-turned : goal.returns-then-is_halted-clause-turned
returns-then-is_halted-clause-turned c =
    let plain = c.args.self.now in
    halted_turned plain c.args.work.now c.args.number (omega (arith, length-map plain.machines.items shown, plain.all_machines, c.requires.number))
    (c.requires.run.orders c.args.number Nothing (omega (arith, length-map plain.machines.items order_of, plain.all_machines, c.requires.number))) (c.is_halted.ensures c.if-is_halted.true)

pub returns-then-is_halted-clause-notes : goal.returns-then-is_halted-clause-notes
returns-then-is_halted-clause-notes c =
    let plain = c.args.self.now in
    halted_notes plain c.args.work.now c.args.number (omega (arith, length-map plain.machines.items shown, plain.all_machines, c.requires.number))
    (c.requires.run.orders c.args.number Nothing (omega (arith, length-map plain.machines.items order_of, plain.all_machines, c.requires.number))) (c.is_halted.ensures c.if-is_halted.true)
