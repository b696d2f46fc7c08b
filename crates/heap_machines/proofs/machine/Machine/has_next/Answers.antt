use Rattle.std.proofs.Common.{sym, ap, ◌∙◌, not}
use Rattle.step_core.specs.Machines.{takes_of}
use Rattle.heap_machines.specs.Shown.{shown}
use Rattle.heap_machines.proofs.Turns.{turn_is_some}
use Rattle.heap_machines.proofs.machine.Machine.has_next.Goals as goal

pub returns-else-may_begin : goal.returns-else-may_begin
returns-else-may_begin c = λ next.
    let machine = c.args.self.now in
    turn_is_some (shown machine) next (not c.is_idle.result) (sym c.may_begin.ensures ∙ c.if-may_begin.false) (ap (takes_of (shown machine)) (sym c.requires) ∙ c.is_idle.ensures)
