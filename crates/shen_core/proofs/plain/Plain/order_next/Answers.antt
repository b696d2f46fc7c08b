use Rattle.std.proofs.Common.{◌<◌, map, Some, None, sym, ap, ◌∙◌, subst, arith}
use Rattle.std.specs.Prelude.{IfSome, slice_set, slice_index_or, if◌then◌else◌}
use Rattle.std.proofs.lemmas.List.{length-map, length-set}
use Rattle.std.proofs.Math.Logic.{∥∥₁_map}
use Rattle.shen_graph.specs.Valid.{IsValid, most_objects}
use Rattle.shen_graph.specs.declared.order.Order.TheVariants.{Nothing}
use Rattle.heap_machines.specs.Shown.{shown, order_of}
use Rattle.step_core.specs.Machines.{takes_of, may_begin, made_of_machine}
use Rattle.heap_machines.specs.Roles.{is_mutating}
use Rattle.heap_machines.specs.Turn.{order_for}
use Rattle.shen_core.specs.State.{config_of}
use Rattle.shen_core.specs.Progress.{next_for}
use Rattle.shen_core.specs.Runs.{IsShownBySomeRun}
use Rattle.shen_core.proofs.Memory.{from_read, shown_here, none_here, machine_here, machine_now, order_now, ordered_machines, ordered_none, ordered_orders, ordered_heap}
use Rattle.shen_core.proofs.Turns.{role_shown, next_fits, is_turn}
use Rattle.shen_core.proofs.plain.Plain.order_next.Goals as goal

pub order_next-requires-clause-none : goal.order_next-requires-clause-none
order_next-requires-clause-none c =
    let plain = c.args.self.now in
    let machine = c.index_mut.result.now in
    let machine_there = from_read plain.machines.items c.args.number machine (omega (arith, plain.all_machines, c.requires.number)) c.index_mut.ensures.value in
    none_here plain.machines.items c.args.number machine c.requires.run.orders machine_there

pub order_next-requires-clause-next : goal.order_next-requires-clause-next
order_next-requires-clause-next c = λ may_start.
    let plain = c.args.self.now in
    let found_machine = c.index_mut.result.now in
    let machine_there = from_read plain.machines.items c.args.number found_machine (omega (arith, plain.all_machines, c.requires.number)) c.index_mut.ensures.value in
    let shown_there = machine_here plain.machines.items c.args.number found_machine machine_there in
    subst (λ next_command. IfSome next_command (λ command. IsValid command × (made_of_machine (shown found_machine) < most_objects))) (sym (c.next_to_begin-next.ensures.begins (ap may_begin shown_there ∙ may_start)))
    (subst (λ machine. IfSome (next_for (config_of plain) c.args.work.now c.args.number) (λ command. IsValid command × (made_of_machine machine < most_objects))) shown_there
    (next_fits plain c.args.work.now c.args.number c.requires.run (omega (arith, length-map plain.machines.items shown, plain.all_machines, c.requires.number))
    (ap is_mutating shown_there ∙ role_shown plain.config plain.words.items _ c.args.number (shown found_machine) plain.reached (shown_here plain.machines.items c.args.number found_machine machine_there)) (ap may_begin shown_there ∙ may_start)))

pub invariant_of-self : goal.invariant_of-self
invariant_of-self c =
    let plain = c.args.self.now in
    let machine = c.index_mut.result.now in
    let machine_there = from_read plain.machines.items c.args.number machine (omega (arith, plain.all_machines, c.requires.number)) c.index_mut.ensures.value in
    record {
      all_words = plain.all_words;
      all_machines = length-set plain.machines.items _ _ ∙ plain.all_machines;
      one_heap = ordered_heap plain.config plain.machines.items c.args.number machine c.order_next.new.self machine_there c.order_next.ensures.heap plain.one_heap;
      reached = ∥∥₁_map plain.reached (subst (λ machines. IsShownBySomeRun plain.config plain.words.items machines)
          (sym (ordered_machines plain.machines.items c.args.number machine c.order_next.new.self machine_there c.order_next.ensures.shown)));
    }

pub returns-clause-next : goal.returns-clause-next
returns-clause-next c =
    let plain = c.args.self.now in
    let machine = c.index_mut.result.now in
    let ordered = c.order_next.new.self in
    let machine_there = from_read plain.machines.items c.args.number machine (omega (arith, plain.all_machines, c.requires.number)) c.index_mut.ensures.value in
    sym c.next_to_begin-next.ensures.turn
    ∙ ap (order_for c.next_to_begin-next.result) (machine_here plain.machines.items c.args.number machine machine_there)
    ∙ c.order_next.ensures.turn
    ∙ ap (λ order. if c.order_next.result then Some order else None) (sym (order_now plain.machines.items c.args.number machine ordered machine_there))

pub returns-clause-turn : goal.returns-clause-turn
returns-clause-turn c =
    let plain = c.args.self.now in
    let machine = c.index_mut.result.now in
    let ordered = c.order_next.new.self in
    let machine_there = from_read plain.machines.items c.args.number machine (omega (arith, plain.all_machines, c.requires.number)) c.index_mut.ensures.value in
    is_turn plain c.args.work.now c.args.number c.order_next.result _ (omega (arith, length-map plain.machines.items shown, plain.all_machines, c.requires.number))
    (ap is_mutating (machine_here plain.machines.items c.args.number machine machine_there) ∙ role_shown plain.config plain.words.items _ c.args.number (shown machine) plain.reached (shown_here plain.machines.items c.args.number machine machine_there))
    (sym c.next_to_begin-next.ensures.turn
    ∙ ap (order_for c.next_to_begin-next.result) (machine_here plain.machines.items c.args.number machine machine_there)
    ∙ c.order_next.ensures.turn
    ∙ ap (λ order. if c.order_next.result then Some order else None) (sym (order_now plain.machines.items c.args.number machine ordered machine_there)))

pub returns-clause-has : goal.returns-clause-has
returns-clause-has c =
    let plain = c.args.self.now in
    let found_machine = c.index_mut.result.now in
    let ordered = c.order_next.new.self in
    let machine_there = from_read plain.machines.items c.args.number found_machine (omega (arith, plain.all_machines, c.requires.number)) c.index_mut.ensures.value in
    ap (λ machine. takes_of machine (slice_index_or (map order_of (slice_set plain.machines.items c.args.number ordered)) c.args.number Nothing)) (machine_now plain.machines.items c.args.number found_machine ordered machine_there ∙ c.order_next.ensures.shown)
    ∙ ap (takes_of (shown found_machine)) (order_now plain.machines.items c.args.number found_machine ordered machine_there)
    ∙ c.order_next.ensures.takes

pub returns-clause-orders : goal.returns-clause-orders
returns-clause-orders c =
    let plain = c.args.self.now in
    let machine = c.index_mut.result.now in
    let ordered = c.order_next.new.self in
    let machine_there = from_read plain.machines.items c.args.number machine (omega (arith, plain.all_machines, c.requires.number)) c.index_mut.ensures.value in
    ordered_orders plain.machines.items c.args.number ordered _ (sym (order_now plain.machines.items c.args.number machine ordered machine_there))

pub returns-clause-unchanged : goal.returns-clause-unchanged
returns-clause-unchanged c = λ idle.
    let plain = c.args.self.now in
    let machine = c.index_mut.result.now in
    let ordered = c.order_next.new.self in
    let machine_there = from_read plain.machines.items c.args.number machine (omega (arith, plain.all_machines, c.requires.number)) c.index_mut.ensures.value in
    ordered_none plain.machines.items c.args.number machine ordered machine_there (c.order_next.ensures.idle idle ∙ sym (none_here plain.machines.items c.args.number machine c.requires.run.orders machine_there))

pub returns-clause-machines : goal.returns-clause-machines
returns-clause-machines c =
    let plain = c.args.self.now in
    let machine = c.index_mut.result.now in
    let machine_there = from_read plain.machines.items c.args.number machine (omega (arith, plain.all_machines, c.requires.number)) c.index_mut.ensures.value in
    ordered_machines plain.machines.items c.args.number machine c.order_next.new.self machine_there c.order_next.ensures.shown
