use Rattle.std.proofs.Common.{sym, ap, ◌∙◌, arith}
use Rattle.step_core.specs.Machines.{takes_hint}
use Rattle.shen_core.proofs.Memory.{from_read, machine_here}
use Rattle.shen_core.proofs.plain.Plain.takes_hint.Goals as goal

pub index-requires : goal.index-requires
index-requires c =
    let plain = c.args.self.now in
    omega (arith, plain.all_machines, c.requires)

pub returns : goal.returns
returns c =
    let plain = c.args.self.now in
    let machine_there = from_read plain.machines.items c.args.number c.index.result.now (omega (arith, plain.all_machines, c.requires)) c.index.ensures in
    c.takes_hint.ensures ∙ sym (ap takes_hint (machine_here plain.machines.items c.args.number c.index.result.now machine_there))
