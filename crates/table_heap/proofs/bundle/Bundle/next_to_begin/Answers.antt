use Rattle.std.proofs.Common.{◌≡◌, false, None, sym, ap, ◌∙◌}
use Rattle.std.proofs.lemmas.Bool.{false≢true}
use Rattle.heap_machines.specs.Turn.{order_for}
use Rattle.step_core.specs.Machines.{may_begin}
use Rattle.step_core.proofs.Machines.Roles.{turn_in_call}
use Rattle.table_heap.specs.Running.{next_for}
use Rattle.table_heap.specs.State.{config_in, machine_at}
use Rattle.table_heap.proofs.bundle.Bundle.next_to_begin.Goals as goal

pub returns-then-may_begin-clause-turn : goal.returns-then-may_begin-clause-turn
returns-then-may_begin-clause-turn c = ap (λ next. order_for next (machine_at c.args.self.now c.args.number)) c.next_command.ensures

pub returns-then-may_begin-clause-begins : goal.returns-then-may_begin-clause-begins
returns-then-may_begin-clause-begins c = λ _. c.next_command.ensures

pub returns-else-may_begin-clause-turn : goal.returns-else-may_begin-clause-turn
returns-else-may_begin-clause-turn c =
    let machine = machine_at c.args.self.now c.args.number in
    let machine_busy : may_begin machine ≡ false = sym c.may_begin.ensures ∙ c.if-may_begin.false in
    turn_in_call machine None machine_busy ∙ sym (turn_in_call machine (next_for (config_in c.args.self.now) c.args.work.now c.args.number) machine_busy)

pub returns-else-may_begin-clause-begins : goal.returns-else-may_begin-clause-begins
returns-else-may_begin-clause-begins c = λ can_begin. absurd (false≢true (sym (sym c.may_begin.ensures ∙ c.if-may_begin.false) ∙ can_begin))
