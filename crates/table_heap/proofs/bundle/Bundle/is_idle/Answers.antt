use Rattle.std.proofs.Common.{ap, ◌∙◌, arith}
use Rattle.shen_graph.specs.declared.order.Order.TheVariants.{Nothing}
use Rattle.heap_machines.specs.Shown.{shown, order_of, no_machine}
use Rattle.step_core.specs.Machines.{takes_of}
use Rattle.table_heap.specs.State.{order_at}
use Rattle.table_heap.proofs.MachineUnder.{within, read_here, never_none, shows_as}
use Rattle.table_heap.proofs.bundle.Bundle.is_idle.Goals as goal

pub index-requires : goal.index-requires
index-requires c = let number_inside = within shown c.args.self.now.machines.items c.args.number c.requires.here in omega arith

pub unreachable-requires : goal.unreachable-requires
unreachable-requires c = never_none shown c.args.self.now.machines.items c.args.number c.index.result.now c.requires.here c.index.ensures c.in_default.is

pub returns : goal.returns
returns c =
    let bundle = c.args.self.now in
    let machine = c.in-Some.machine in
    let number_inside = within shown bundle.machines.items c.args.number c.requires.here in
    let machine_there = read_here shown bundle.machines.items c.args.number c.index.result.now machine number_inside c.index.ensures c.in-Some.is in
    ap (λ asked_machine. takes_of asked_machine (order_at bundle c.args.number)) (shows_as shown bundle.machines.items c.args.number machine no_machine machine_there)
    ∙ ap (takes_of (shown machine)) (shows_as order_of bundle.machines.items c.args.number machine Nothing machine_there) ∙ c.is_idle.ensures
