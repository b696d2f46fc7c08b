use Rattle.std.proofs.Common.{◌≡◌, true, length, refl, sym, ap, ◌∙◌, arith}
use Rattle.std.proofs.lemmas.List.{length-set}
use Rattle.std.proofs.Math.Logic.{∥∥₁_map}
use Rattle.heap_words.specs.declared.config.Config.{Config}
use Rattle.shen_graph.specs.declared.order.Order.TheVariants.{Nothing}
use Rattle.step_core.specs.Machines.{takes_of}
use Rattle.heap_machines.specs.declared.machine.Machine.{Machine}
use Rattle.heap_machines.specs.Inside.{is_inside_image}
use Rattle.heap_machines.specs.Shown.{shown, order_of, has_turn}
use Rattle.heap_machines.proofs.Inside.{goes_inside}
use Rattle.shen_core.proofs.Memory.{from_read, machine_here, made_from, made_step, made_shown, made_heap, made_orders, made_machines}
use Rattle.shen_core.proofs.plain.Plain.step_inside_image.Goals as goal

-- it has a turn
turn_of : (config : Config) (machine : Machine) → order_of machine ≡ Nothing → is_inside_image config (shown machine) ≡ true → has_turn machine ≡ true
turn_of config machine no_order inside = ap (takes_of (shown machine)) no_order ∙ (goes_inside config (shown machine) inside).takes

pub invariant_of-self : goal.invariant_of-self
invariant_of-self c =
    let plain = c.args.self.now in
    let machine = c.index_mut.result.now in
    let next_machine = c.step_inside_image.new.self in
    let machine_there = from_read plain.machines.items c.args.number machine (omega (arith, plain.all_machines, c.requires.number)) c.index_mut.ensures.value in
    let inside = ap (is_inside_image plain.config) (sym (machine_here plain.machines.items c.args.number machine machine_there)) ∙ c.requires.inside in
    let made = made_from plain.config plain.words.items c.step_inside_image.new.words.items plain.machines.items c.args.number machine next_machine _ _
    (omega (arith, plain.all_machines, c.requires.number)) c.index_mut.ensures.value plain.one_heap (turn_of plain.config machine c.step_inside_image.ensures.none inside) refl
    c.step_inside_image.ensures.words refl c.step_inside_image.ensures.shown in
    record {
      all_words = ap length c.step_inside_image.ensures.words ∙ length-set plain.words.items _ _ ∙ plain.all_words;
      all_machines = length-set plain.machines.items _ _ ∙ plain.all_machines;
      one_heap = made_heap _ _ _ _ _ _ _ made c.step_inside_image.ensures.heap plain.one_heap;
      reached = ∥∥₁_map plain.reached (made_shown _ _ _ _ _ _ _ made);
    }

pub returns-clause-event : goal.returns-clause-event
returns-clause-event c =
    let plain = c.args.self.now in
    let machine = c.index_mut.result.now in
    let next_machine = c.step_inside_image.new.self in
    let machine_there = from_read plain.machines.items c.args.number machine (omega (arith, plain.all_machines, c.requires.number)) c.index_mut.ensures.value in
    let inside = ap (is_inside_image plain.config) (sym (machine_here plain.machines.items c.args.number machine machine_there)) ∙ c.requires.inside in
    made_step _ _ _ _ _ _ _
    (made_from plain.config plain.words.items c.step_inside_image.new.words.items plain.machines.items c.args.number machine next_machine _ _
    (omega (arith, plain.all_machines, c.requires.number)) c.index_mut.ensures.value plain.one_heap (turn_of plain.config machine c.step_inside_image.ensures.none inside) refl
    c.step_inside_image.ensures.words refl c.step_inside_image.ensures.shown)

pub returns-clause-machines : goal.returns-clause-machines
returns-clause-machines c =
    let plain = c.args.self.now in
    let machine = c.index_mut.result.now in
    let next_machine = c.step_inside_image.new.self in
    let machine_there = from_read plain.machines.items c.args.number machine (omega (arith, plain.all_machines, c.requires.number)) c.index_mut.ensures.value in
    let inside = ap (is_inside_image plain.config) (sym (machine_here plain.machines.items c.args.number machine machine_there)) ∙ c.requires.inside in
    made_machines _ _ _ _ _ _ _
    (made_from plain.config plain.words.items c.step_inside_image.new.words.items plain.machines.items c.args.number machine next_machine _ _
    (omega (arith, plain.all_machines, c.requires.number)) c.index_mut.ensures.value plain.one_heap (turn_of plain.config machine c.step_inside_image.ensures.none inside) refl
    c.step_inside_image.ensures.words refl c.step_inside_image.ensures.shown)

pub returns-clause-orders : goal.returns-clause-orders
returns-clause-orders c =
    let plain = c.args.self.now in
    let machine = c.index_mut.result.now in
    let next_machine = c.step_inside_image.new.self in
    let machine_there = from_read plain.machines.items c.args.number machine (omega (arith, plain.all_machines, c.requires.number)) c.index_mut.ensures.value in
    let inside = ap (is_inside_image plain.config) (sym (machine_here plain.machines.items c.args.number machine machine_there)) ∙ c.requires.inside in
    made_orders _ _ _ _ _ _ _
    (made_from plain.config plain.words.items c.step_inside_image.new.words.items plain.machines.items c.args.number machine next_machine _ _
    (omega (arith, plain.all_machines, c.requires.number)) c.index_mut.ensures.value plain.one_heap (turn_of plain.config machine c.step_inside_image.ensures.none inside) refl
    c.step_inside_image.ensures.words refl c.step_inside_image.ensures.shown)
    c.step_inside_image.ensures.order
