use Rattle.std.proofs.Common.{arith}
use Rattle.shen_core.proofs.Memory.{from_read, none_here}
use Rattle.shen_core.proofs.plain.Plain.is_halted.Goals as goal

pub awaits-requires : goal.awaits-requires
awaits-requires c =
    let plain = c.args.self.now in
    none_here plain.machines.items c.args.number c.index-then-index-ne0.result.now c.requires.orders
    (from_read plain.machines.items c.args.number c.index-then-index-ne0.result.now (omega (arith, plain.all_machines, c.requires.number)) c.index-then-index-ne0.ensures)
