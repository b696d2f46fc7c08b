use Rattle.std.proofs.Common.{◌<◌, sym, ap, ◌∙◌, subst}
use Rattle.heap_words.specs.Words.{table_words}
use Rattle.shen_graph.specs.Order.{hinting}
use Rattle.control.specs.Seen.{config_in, seen_control}
use Rattle.step_core.specs.Actor.{controlling}
use Rattle.step_core.specs.Machines.{plan_of}
use Rattle.heap_machines.specs.declared.machine.Machine.{Machine}
use Rattle.heap_machines.specs.Shown.{shown, order_of, config_of}
use Rattle.heap_machines.proofs.machine.Machine.next_to_store.Goals as goal

pub returns-clause-row : goal.returns-clause-row
returns-clause-row c =
    c.next_to_store.ensures.row
    ∙ ap (λ hint. plan_of (config_in c.in-Control.control) (hinting hint) (controlling (seen_control c.in-Control.control))) (sym c.next_to_store.ensures.none)
    ∙ ap (λ (machine : Machine). plan_of (config_of machine) (order_of machine) (shown machine)) (sym c.in-Control.is)

pub returns-clause-inside : goal.returns-clause-inside
returns-clause-inside c = subst (λ (machine : Machine). c.next_to_store.result.0 < table_words (config_of machine)) (sym c.in-Control.is) c.next_to_store.ensures.inside

pub returns-clause-none : goal.returns-clause-none
returns-clause-none c = ap order_of c.in-Control.is ∙ ap hinting c.next_to_store.ensures.none
