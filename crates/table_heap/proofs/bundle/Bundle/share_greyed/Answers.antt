use Rattle.std.proofs.Common.{sym, ◌∙◌, subst, arith}
use Rattle.shared_table.proofs.ChangeHands.{machine_of-index}
use Rattle.heap_words.specs.Words.{Heap, IsWord}
use Rattle.heap_machines.specs.Shown.{shown}
use Rattle.table_heap.proofs.MachineUnder.{within}
use Rattle.table_heap.proofs.bundle.Bundle.share_greyed.Goals as goal

pub index-requires : goal.index-requires
index-requires c =
    let bundle = c.args.self.now in
    let number_inside = within shown bundle.machines.items c.args.number c.requires.here in
    omega (arith, number_inside, bundle.greys.numbers)

pub push-requires : goal.push-requires
push-requires c =
    let bundle = c.args.self.now in
    let number_inside = within shown bundle.machines.items c.args.number c.requires.here in
    let read = machine_of-index bundle.greyed.items c.args.number c.index.result.now (omega (arith, number_inside, bundle.greys.numbers)) in
    subst (λ config. IsWord config (Heap c.in-Some.address)) (sym bundle.hints_of_heap) (bundle.greys.known c.args.number c.in-Some.address (read ∙ sym c.index.ensures ∙ c.in-Some.is)).1
