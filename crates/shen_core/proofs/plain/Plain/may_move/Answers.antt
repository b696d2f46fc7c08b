use Rattle.std.proofs.Common.{ap, ◌∙◌, arith}
use Rattle.std.specs.Prelude.{is_some}
use Rattle.heap_machines.specs.Turn.{order_for}
use Rattle.shen_core.proofs.Memory.{from_read, none_here, machine_here}
use Rattle.shen_core.proofs.plain.Plain.may_move.Goals as goal

pub has_next-requires : goal.has_next-requires
has_next-requires c =
    let plain = c.args.self.now in
    none_here plain.machines.items c.args.number c.index.result.now c.requires.orders
    (from_read plain.machines.items c.args.number c.index.result.now (omega (arith, plain.all_machines, c.requires.number)) c.index.ensures)

pub returns : goal.returns
returns c = λ same_answer next_command.
    let plain = c.args.self.now in
    let found_machine = c.index.result.now in
    let machine_there = from_read plain.machines.items c.args.number found_machine (omega (arith, plain.all_machines, c.requires.number)) c.index.ensures in
    ap (λ machine. is_some (order_for next_command machine)) (machine_here plain.machines.items c.args.number found_machine machine_there) ∙ c.has_next.ensures next_command ∙ same_answer
