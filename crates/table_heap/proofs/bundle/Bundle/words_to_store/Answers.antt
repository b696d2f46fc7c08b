use Rattle.std.proofs.Common.{sym, ap, ◌∙◌, arith}
use Rattle.std.specs.Option.{is_some}
use Rattle.heap_machines.specs.Inside.{stores_left}
use Rattle.heap_machines.specs.Shown.{no_machine, shown}
use Rattle.table_heap.proofs.MachineUnder.{some_read, read_here, shows_as}
use Rattle.table_heap.proofs.bundle.Bundle.words_to_store.Goals as goal

pub returns-clause-here : goal.returns-clause-here
returns-clause-here c = λ some_left.
    let bundle = c.args.self.now in
    sym (some_read shown bundle.machines.items c.args.number c.index.result.now (let all_seats = bundle.seats in let number_below = c.requires in omega arith) c.index.ensures) ∙ ap is_some c.in-Some.is

pub returns-clause-left : goal.returns-clause-left
returns-clause-left c = λ some_left.
    let bundle = c.args.self.now in
    let machine = c.in-Some.machine in
    let machine_there = read_here shown bundle.machines.items c.args.number c.index.result.now machine (let all_seats = bundle.seats in let number_below = c.requires in omega arith) c.index.ensures c.in-Some.is in
    c.words_to_store.ensures ∙ ap (λ config. stores_left config (shown machine)) (bundle.of_heap c.args.number machine machine_there).heap
    ∙ ap (stores_left bundle.config) (sym (shows_as shown bundle.machines.items c.args.number machine no_machine machine_there))
