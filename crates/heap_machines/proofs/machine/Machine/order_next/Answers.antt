use Rattle.std.proofs.Common.{None, Some, Option, Bool, false, sym, ap, ◌∙◌, not, ◌≡◌}
use Rattle.std.specs.Prelude.{if◌then◌else◌}
use Rattle.shen_graph.specs.declared.order.Order.{Order}
use Rattle.shen_graph.specs.declared.order.Order.TheVariants.{Nothing}
use Rattle.step_core.specs.Machines.{takes_of, may_begin}
use Rattle.heap_machines.specs.Shown.{shown}
use Rattle.step_core.proofs.Machines.Roles.{turn_in_call}
use Rattle.heap_machines.proofs.machine.Machine.order_next.Goals as goal

pub returns-then-not-may_begin-clause-turn : goal.returns-then-not-may_begin-clause-turn
returns-then-not-may_begin-clause-turn c =
    let machine = c.args.self.now in
    let machine_busy : may_begin (shown machine) ≡ false = sym c.may_begin.ensures ∙ c.if-not-may_begin.true in
    let takes : takes_of (shown machine) Nothing ≡ not c.is_idle.result = ap (takes_of (shown machine)) (sym c.requires.none) ∙ c.is_idle.ensures in
    turn_in_call (shown machine) c.args.next machine_busy
    ∙ ap (λ (holds : Bool). if◌then◌else◌ {A = Option Order} holds (Some Nothing) None) takes
    ∙ ap (λ (order : Order). if◌then◌else◌ {A = Option Order} (not c.is_idle.result) (Some order) None) (sym c.requires.none)
