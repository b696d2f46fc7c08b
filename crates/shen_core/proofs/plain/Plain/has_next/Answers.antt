use Rattle.std.proofs.Common.{ap, ◌∙◌, arith}
use Rattle.std.specs.Prelude.{is_some}
use Rattle.std.proofs.lemmas.List.{length-map}
use Rattle.heap_machines.specs.Shown.{shown}
use Rattle.heap_machines.specs.Turn.{order_for}
use Rattle.shen_core.proofs.Memory.{from_read, none_here, machine_here}
use Rattle.shen_core.proofs.Turns.{some_turn}
use Rattle.shen_core.proofs.plain.Plain.has_next.Goals as goal

pub has_next-requires : goal.has_next-requires
has_next-requires c =
    let plain = c.args.self.now in
    none_here plain.machines.items c.args.number c.index.result.now c.requires.orders
    (from_read plain.machines.items c.args.number c.index.result.now (omega (arith, plain.all_machines, c.requires.number)) c.index.ensures)

pub returns : goal.returns
returns c =
    let plain = c.args.self.now in
    let found_machine = c.index.result.now in
    let machine_there = from_read plain.machines.items c.args.number found_machine (omega (arith, plain.all_machines, c.requires.number)) c.index.ensures in
    some_turn plain c.args.number c.has_next.result (omega (arith, length-map plain.machines.items shown, plain.all_machines, c.requires.number))
    (λ next_command. ap (λ machine. is_some (order_for next_command machine)) (machine_here plain.machines.items c.args.number found_machine machine_there) ∙ c.has_next.ensures next_command)
