use Rattle.std.proofs.Common.{sym, ap, ◌∙◌}
use Rattle.shen_graph.specs.Order.{hinting}
use Rattle.control.specs.Seen.{config_in, seen_control}
use Rattle.step_core.specs.Actor.{controlling}
use Rattle.step_core.specs.Machines.{machine_after}
use Rattle.heap_machines.specs.declared.machine.Machine.{Machine}
use Rattle.heap_machines.specs.Inside.{loads_left}
use Rattle.heap_machines.specs.Pause.{pause_image}
use Rattle.heap_machines.specs.Shown.{shown, order_of, config_of}
use Rattle.heap_machines.proofs.machine.Machine.loaded.Goals as goal

pub returns-clause-shown : goal.returns-clause-shown
returns-clause-shown c =
    ap controlling c.loaded.ensures.row
    ∙ ap (λ hint. machine_after pause_image (config_in c.in-Control.control) (hinting hint) c.args.got (controlling (seen_control c.in-Control.control))) (sym c.loaded.ensures.none)
    ∙ ap (λ (machine : Machine). machine_after pause_image (config_of machine) (order_of machine) c.args.got (shown machine)) (sym c.in-Control.is)

pub returns-clause-heap : goal.returns-clause-heap
returns-clause-heap c = c.loaded.ensures.config ∙ ap config_of (sym c.in-Control.is)

pub returns-clause-order : goal.returns-clause-order
returns-clause-order c = ap hinting c.loaded.ensures.hint

pub returns-clause-left : goal.returns-clause-left
returns-clause-left c = c.loaded.ensures.left ∙ ap (λ (machine : Machine). loads_left (config_of machine) (shown machine)) (sym c.in-Control.is)
