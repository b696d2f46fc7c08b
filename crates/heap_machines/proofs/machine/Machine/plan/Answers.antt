use Rattle.std.proofs.Common.{◌<◌, sym, ap, ◌∙◌, subst}
use Rattle.heap_words.specs.Access.{table_index}
use Rattle.heap_words.specs.Words.{table_words}
use Rattle.heap_words.specs.Touch.{placed}
use Rattle.control.specs.Seen.{config_in, seen_control, hint_of}
use Rattle.collector_rows.specs.ControlRows.{Controlling, control_access}
use Rattle.collector_rows.specs.HelperRows.{Helping, help_touch}
use Rattle.collector_rows.specs.Seen as helpers
use Rattle.heap_machines.proofs.Hinting.{helped, controlled, goes_with_hint}
use Rattle.step_core.specs.Machines.{plan_of}
use Rattle.heap_machines.specs.declared.machine.Machine.{Machine}
use Rattle.heap_machines.specs.Shown.{shown, order_of, config_of, has_turn}
use Rattle.heap_machines.proofs.machine.Machine.plan.Goals as goal

pub returns-in-Mutator-clause-row : goal.returns-in-Mutator-clause-row
returns-in-Mutator-clause-row c = c.plan.ensures.row ∙ ap (λ (machine : Machine). plan_of (config_of machine) (order_of machine) (shown machine)) (sym c.in-Mutator.is)

pub returns-in-Mutator-clause-inside : goal.returns-in-Mutator-clause-inside
returns-in-Mutator-clause-inside c = subst (λ (machine : Machine). table_index c.plan.result < table_words (config_of machine)) (sym c.in-Mutator.is) c.plan.ensures.inside

pub returns-in-Helper-clause-row : goal.returns-in-Helper-clause-row
returns-in-Helper-clause-row c =
    let helper = c.in-Helper.helper in
    c.plan-in-Helper.ensures.row ∙ ap (λ (some_helper : Helping). placed (helpers.config_of helper) (help_touch (helpers.config_of helper) some_helper)) (sym (helped (helpers.config_of helper) (helpers.hint_of helper) (helpers.seen_helper helper)))
    ∙ ap (λ (machine : Machine). plan_of (config_of machine) (order_of machine) (shown machine)) (sym c.in-Helper.is)

pub returns-in-Helper-clause-inside : goal.returns-in-Helper-clause-inside
returns-in-Helper-clause-inside c = subst (λ (machine : Machine). table_index c.plan-in-Helper.result < table_words (config_of machine)) (sym c.in-Helper.is) c.plan-in-Helper.ensures.inside

pub returns-in-Control-clause-row : goal.returns-in-Control-clause-row
returns-in-Control-clause-row c =
    let control = c.in-Control.control in
    c.plan-in-Control.ensures.row ∙ ap (λ (some_control : Controlling). control_access (config_in control) some_control) (sym (controlled (config_in control) (hint_of control) (seen_control control)))
    ∙ ap (λ (machine : Machine). plan_of (config_of machine) (order_of machine) (shown machine)) (sym c.in-Control.is)

pub returns-in-Control-clause-inside : goal.returns-in-Control-clause-inside
returns-in-Control-clause-inside c = subst (λ (machine : Machine). table_index c.plan-in-Control.result < table_words (config_of machine)) (sym c.in-Control.is) c.plan-in-Control.ensures.inside

pub plan-requires-in-Helper : goal.plan-requires-in-Helper
plan-requires-in-Helper c = goes_with_hint _ _ (ap has_turn (sym c.in-Helper.is) ∙ c.requires)

pub plan-requires-in-Control : goal.plan-requires-in-Control
plan-requires-in-Control c = goes_with_hint _ _ (ap has_turn (sym c.in-Control.is) ∙ c.requires)
