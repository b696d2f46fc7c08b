use Rattle.std.proofs.Common.{not, refl, sym, ap, ◌∙◌, arith}
use Rattle.std.proofs.lemmas.Bool.{false≢true}
use Rattle.shen_core.proofs.Memory.{from_read, turn_here, place_here}
use Rattle.shen_core.proofs.plain.Plain.place.Goals as goal

pub index-machine-requires : goal.index-machine-requires
index-machine-requires c =
    let plain = c.args.self.now in
    omega (arith, plain.all_machines, c.requires)

pub place-requires : goal.place-requires
place-requires c = c.is_idle.ensures ∙ ap not c.if-is_idle.false

pub returns-then-is_idle-clause-none : goal.returns-then-is_idle-clause-none
returns-then-is_idle-clause-none c =
    let plain = c.args.self.now in
    let machine = c.index-machine.result.now in
    let machine_there = from_read plain.machines.items c.args.number machine (omega (arith, plain.all_machines, c.requires)) c.index-machine.ensures in
    (λ _. turn_here plain.machines.items c.args.number machine machine_there ∙ c.is_idle.ensures ∙ ap not c.if-is_idle.true, λ _. refl)

pub returns-else-is_idle-clause-none : goal.returns-else-is_idle-clause-none
returns-else-is_idle-clause-none c =
    let plain = c.args.self.now in
    let machine = c.index-machine.result.now in
    let machine_there = from_read plain.machines.items c.args.number machine (omega (arith, plain.all_machines, c.requires)) c.index-machine.ensures in
    let turn = turn_here plain.machines.items c.args.number machine machine_there ∙ c.is_idle.ensures ∙ ap not c.if-is_idle.false in
    (λ is. absurd cc, λ no_order. absurd (false≢true (sym no_order ∙ turn)))

pub returns-else-is_idle-clause-place : goal.returns-else-is_idle-clause-place
returns-else-is_idle-clause-place c =
    let plain = c.args.self.now in
    let machine = c.index-machine.result.now in
    let machine_there = from_read plain.machines.items c.args.number machine (omega (arith, plain.all_machines, c.requires)) c.index-machine.ensures in
    c.place.ensures ∙ sym (place_here plain.machines.items c.args.number machine machine_there)
