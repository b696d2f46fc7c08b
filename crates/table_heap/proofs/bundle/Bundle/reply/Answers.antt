use Rattle.std.proofs.Common.{◌≢◌, None, ap, ◌∙◌, subst, arith}
use Rattle.heap_machines.specs.Shown.{shown, no_machine}
use Rattle.step_core.specs.Machines.{reply_in}
use Rattle.table_heap.proofs.MachineUnder.{within, read_here, never_none, shows_as}
use Rattle.table_heap.proofs.bundle.Bundle.reply.Goals as goal

pub index-requires : goal.index-requires
index-requires c = let number_inside = within shown c.args.self.now.machines.items c.args.number c.requires.here in omega arith

pub unreachable-requires : goal.unreachable-requires
unreachable-requires c = never_none shown c.args.self.now.machines.items c.args.number c.index.result.now c.requires.here c.index.ensures c.in_default.is

pub reply-requires : goal.reply-requires
reply-requires c =
    let bundle = c.args.self.now in
    let machine = c.in-Some.machine in
    let number_inside = within shown bundle.machines.items c.args.number c.requires.here in
    let machine_there = read_here shown bundle.machines.items c.args.number c.index.result.now machine number_inside c.index.ensures c.in-Some.is in
    subst (λ x. reply_in x ≢ None) (shows_as shown bundle.machines.items c.args.number machine no_machine machine_there) c.requires.ended

pub returns : goal.returns
returns c =
    let bundle = c.args.self.now in
    let machine = c.in-Some.machine in
    let number_inside = within shown bundle.machines.items c.args.number c.requires.here in
    let machine_there = read_here shown bundle.machines.items c.args.number c.index.result.now machine number_inside c.index.ensures c.in-Some.is in
    ap reply_in (shows_as shown bundle.machines.items c.args.number machine no_machine machine_there) ∙ c.reply.ensures
