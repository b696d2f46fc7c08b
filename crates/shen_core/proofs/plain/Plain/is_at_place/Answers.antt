use Rattle.std.proofs.Common.{arith}
use Rattle.shen_core.proofs.Memory.{from_read, none_here}
use Rattle.shen_core.proofs.plain.Plain.is_at_place.Goals as goal

pub is_at_place-requires : goal.is_at_place-requires
is_at_place-requires c =
    let plain = c.args.self.now in
    none_here plain.machines.items c.args.number c.index.result.now c.requires.run.orders
    (from_read plain.machines.items c.args.number c.index.result.now (omega (arith, plain.all_machines, c.requires.number)) c.index.ensures)
