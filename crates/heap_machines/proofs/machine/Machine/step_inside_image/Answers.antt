use Rattle.std.proofs.Common.{sym, ap, ◌∙◌}
use Rattle.std.specs.Prelude.{slice_index}
use Rattle.heap_words.specs.Access.{table_index}
use Rattle.heap_words.specs.Steps.{accessed}
use Rattle.shen_graph.specs.Order.{hinting}
use Rattle.control.specs.Seen.{config_in, seen_control}
use Rattle.step_core.specs.Actor.{controlling}
use Rattle.step_core.specs.Machines.{machine_after, plan_of}
use Rattle.heap_machines.specs.declared.machine.Machine.{Machine}
use Rattle.heap_machines.specs.Pause.{pause_image}
use Rattle.heap_machines.specs.Shown.{shown, order_of, config_of}
use Rattle.heap_machines.proofs.machine.Machine.step_inside_image.Goals as goal

pub returns-clause-words : goal.returns-clause-words
returns-clause-words c =
    c.step_inside_image.ensures.words
    ∙ ap (λ hint. accessed (plan_of (config_in c.in-Control.control) (hinting hint) (controlling (seen_control c.in-Control.control))) c.args.words.now.items) (sym c.step_inside_image.ensures.none)
    ∙ ap (λ (machine : Machine). accessed (plan_of (config_of machine) (order_of machine) (shown machine)) c.args.words.now.items) (sym c.in-Control.is)

pub returns-clause-shown : goal.returns-clause-shown
returns-clause-shown c =
    ap controlling c.step_inside_image.ensures.row
    ∙ ap (λ hint. machine_after pause_image (config_in c.in-Control.control) (hinting hint)
    (slice_index c.args.words.now.items (table_index (plan_of (config_in c.in-Control.control) (hinting hint) (controlling (seen_control c.in-Control.control))))) (controlling (seen_control c.in-Control.control)))
    (sym c.step_inside_image.ensures.none)
    ∙ ap (λ (machine : Machine). machine_after pause_image (config_of machine) (order_of machine) (slice_index c.args.words.now.items (table_index (plan_of (config_of machine) (order_of machine) (shown machine)))) (shown machine)) (sym c.in-Control.is)

pub returns-clause-heap : goal.returns-clause-heap
returns-clause-heap c = c.step_inside_image.ensures.config ∙ ap config_of (sym c.in-Control.is)

pub returns-clause-order : goal.returns-clause-order
returns-clause-order c = ap hinting c.step_inside_image.ensures.hint

pub returns-clause-none : goal.returns-clause-none
returns-clause-none c = ap order_of c.in-Control.is ∙ ap hinting c.step_inside_image.ensures.none
