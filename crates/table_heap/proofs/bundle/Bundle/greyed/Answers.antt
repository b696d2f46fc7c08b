use Rattle.std.proofs.Common.{sym, ◌∙◌, arith}
use Rattle.shared_table.proofs.ChangeHands.{machine_of-index}
use Rattle.heap_machines.specs.Shown.{shown}
use Rattle.table_heap.proofs.MachineUnder.{within}
use Rattle.table_heap.proofs.Greyed.{greys_inside}
use Rattle.table_heap.proofs.bundle.Bundle.greyed.Goals as goal

pub index-requires : goal.index-requires
index-requires c =
    let bundle = c.args.self.now in
    let number_inside = within shown bundle.machines.items c.args.number c.requires.here in
    omega (arith, number_inside, bundle.greys.numbers)

pub returns-clause-row : goal.returns-clause-row
returns-clause-row c =
    let bundle = c.args.self.now in
    let number_inside = within shown bundle.machines.items c.args.number c.requires.here in
    c.index.ensures ∙ sym (machine_of-index bundle.greyed.items c.args.number c.index.result.now (omega (arith, number_inside, bundle.greys.numbers)))

pub returns-clause-heap : goal.returns-clause-heap
returns-clause-heap c =
    let bundle = c.args.self.now in
    let number_inside = within shown bundle.machines.items c.args.number c.requires.here in
    let read = machine_of-index bundle.greyed.items c.args.number c.index.result.now (omega (arith, number_inside, bundle.greys.numbers)) in
    greys_inside bundle.config bundle.machines.items bundle.greyed.items c.args.number c.index.result.now (read ∙ sym c.index.ensures) bundle.greys
