use Rattle.std.proofs.Common.{◌≡◌, false, None, sym, ap, ◌∙◌, arith}
use Rattle.std.proofs.lemmas.Bool.{false≢true}
use Rattle.heap_machines.specs.Turn.{order_for}
use Rattle.step_core.specs.Machines.{may_begin}
use Rattle.step_core.proofs.Machines.Roles.{turn_in_call}
use Rattle.shen_core.specs.State.{config_of, machine_at}
use Rattle.shen_core.specs.Progress.{next_for}
use Rattle.shen_core.proofs.Memory.{from_read, machine_here}
use Rattle.shen_core.proofs.plain.Plain.next_to_begin.Goals as goal

pub returns-then-may_begin-clause-turn : goal.returns-then-may_begin-clause-turn
returns-then-may_begin-clause-turn c = ap (λ next_command. order_for next_command (machine_at c.args.self.now c.args.number)) c.next_command.ensures

pub returns-then-may_begin-clause-begins : goal.returns-then-may_begin-clause-begins
returns-then-may_begin-clause-begins c = λ _. c.next_command.ensures

pub returns-else-may_begin-clause-turn : goal.returns-else-may_begin-clause-turn
returns-else-may_begin-clause-turn c =
    let plain = c.args.self.now in
    let machine = c.index.result.now in
    let machine_there = from_read plain.machines.items c.args.number machine (omega (arith, plain.all_machines, c.requires.number)) c.index.ensures in
    let busy : may_begin (machine_at plain c.args.number) ≡ false = ap may_begin (machine_here plain.machines.items c.args.number machine machine_there) ∙ sym c.may_begin.ensures ∙ c.if-may_begin.false in
    turn_in_call (machine_at plain c.args.number) None busy ∙ sym (turn_in_call (machine_at plain c.args.number) (next_for (config_of plain) c.args.work.now c.args.number) busy)

pub returns-else-may_begin-clause-begins : goal.returns-else-may_begin-clause-begins
returns-else-may_begin-clause-begins c = λ may_start.
    let plain = c.args.self.now in
    let machine = c.index.result.now in
    let machine_there = from_read plain.machines.items c.args.number machine (omega (arith, plain.all_machines, c.requires.number)) c.index.ensures in
    let busy : may_begin (machine_at plain c.args.number) ≡ false = ap may_begin (machine_here plain.machines.items c.args.number machine machine_there) ∙ sym c.may_begin.ensures ∙ c.if-may_begin.false in
    absurd (false≢true (sym busy ∙ may_start))
