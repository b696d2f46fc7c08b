use Rattle.std.proofs.Common.{sym, ap, ◌∙◌, arith}
use Rattle.heap_machines.specs.Shown.{shown, no_machine}
use Rattle.step_core.specs.Machines.{takes_hint}
use Rattle.table_heap.proofs.MachineUnder.{within, read_here, never_none, shows_as}
use Rattle.table_heap.proofs.bundle.Bundle.takes_hint.Goals as goal

pub index-requires : goal.index-requires
index-requires c = let inside = within shown c.args.self.now.machines.items c.args.number c.requires.here in omega arith

pub unreachable-requires : goal.unreachable-requires
unreachable-requires c = never_none shown c.args.self.now.machines.items c.args.number c.index.result.now c.requires.here c.index.ensures c.in_default.is

pub returns : goal.returns
returns c =
    let bundle = c.args.self.now in
    let machine = c.in-Some.machine in
    let inside = within shown bundle.machines.items c.args.number c.requires.here in
    let machine_there = read_here shown bundle.machines.items c.args.number c.index.result.now machine inside c.index.ensures c.in-Some.is in
    c.takes_hint.ensures ∙ sym (ap takes_hint (shows_as shown bundle.machines.items c.args.number machine no_machine machine_there))
