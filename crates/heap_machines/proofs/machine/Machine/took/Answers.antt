use Rattle.std.proofs.Common.{◌≡◌, true, Some, refl, sym, ap, ◌∙◌, subst}
use Rattle.std.specs.Prelude.{◌↔◌}
use Rattle.std.proofs.lemmas.Bool.{false≢true}
use Rattle.shen_graph.specs.Order.{hinting}
use Rattle.control.specs.Seen.{config_in, seen_control, hint_of}
use Rattle.collector_rows.specs.ControlRows.{Controlling, control_hinted, control_next, control_says}
use Rattle.collector_rows.specs.ControlReady.{UnitGoesOn}
use Rattle.collector_rows.specs.ControlWaits as control
use Rattle.collector_rows.specs.HelperRows.{Helping, help_hinted, help_next, help_says}
use Rattle.collector_rows.specs.HelperReady.{IsFit}
use Rattle.collector_rows.specs.HelperWaits.{WaitsAt}
use Rattle.heap_machines.proofs.Hinting.{helped, controlled, whole_with_hint, goes_with_hint}
use Rattle.collector_rows.specs.Seen as helpers
use Rattle.heap_words.specs.declared.access.Took.TheVariants as took
use Rattle.heap_words.specs.declared.place.Place.TheVariants.{LV}
use Rattle.step_core.specs.Actor.{mutating, helping, controlling}
use Rattle.step_core.specs.Machines.{machine_after, answer_of, place_in, WaitsIn, IsFitFor}
use Rattle.heap_machines.specs.declared.machine.Machine.{Machine}
use Rattle.heap_machines.specs.Pause.{pause_image}
use Rattle.heap_machines.specs.Roles.{is_mutating}
use Rattle.heap_machines.specs.Shown.{shown, order_of, config_of, has_turn}
use Rattle.heap_machines.proofs.Fit.{fit_for_control}
use Rattle.step_core.proofs.Helpers.GoOn.{goes_on, helps_on}
use Rattle.heap_machines.proofs.machine.Machine.took.Goals as goal

pub took-requires-in-Control-clause-fit : goal.took-requires-in-Control-clause-fit
took-requires-in-Control-clause-fit c =
    let config = config_in c.in-Control.control in
    let hint = hint_of c.in-Control.control in
    let hinted_control : Controlling = control_hinted config hint (seen_control c.in-Control.control) in
    let got_fits = subst (λ (machine : Machine). IsFitFor (config_of machine) (order_of machine) c.args.got (shown machine)) c.in-Control.is c.requires.fit in
    fit_for_control config hinted_control.phase hinted_control.spot hinted_control.image c.args.got (whole_with_hint config hint (seen_control c.in-Control.control) c.args.got got_fits.0)
    (subst (λ (some_control : Controlling). UnitGoesOn config some_control.spot c.args.got) (controlled config hint (seen_control c.in-Control.control)) got_fits.1)

pub returns-in-Control-clause-replied : goal.returns-in-Control-clause-replied
returns-in-Control-clause-replied c = λ said_done.
    let hinted_control : Controlling = control_hinted (config_in c.in-Control.control) (hint_of c.in-Control.control) (seen_control c.in-Control.control) in
    absurd (goes_on (config_in c.in-Control.control) hinted_control.seen hinted_control.spot c.args.got (sym c.took-in-Control.ensures.says ∙ said_done))

pub took-requires-clause-fit : goal.took-requires-clause-fit
took-requires-clause-fit c = subst (λ (machine : Machine). IsFitFor (config_of machine) (order_of machine) c.args.got (shown machine)) c.in-Mutator.is c.requires.fit

pub returns-in-Mutator-clause-shown : goal.returns-in-Mutator-clause-shown
returns-in-Mutator-clause-shown c =
    ap mutating c.took.ensures.seen ∙ ap (λ (machine : Machine). machine_after pause_image (config_of machine) (order_of machine) c.args.got (shown machine)) (sym c.in-Mutator.is)

pub returns-in-Mutator-clause-order : goal.returns-in-Mutator-clause-order
returns-in-Mutator-clause-order c = c.took.ensures.order

pub returns-in-Mutator-clause-heap : goal.returns-in-Mutator-clause-heap
returns-in-Mutator-clause-heap c = c.took.ensures.config ∙ ap config_of (sym c.in-Mutator.is)

pub returns-in-Mutator-clause-answer : goal.returns-in-Mutator-clause-answer
returns-in-Mutator-clause-answer c =
    ap (λ (machine : Machine). answer_of (config_of machine) (order_of machine) (shown machine) c.args.got) c.in-Mutator.is ∙ ap Some (sym c.took.ensures.answer)

pub returns-in-Mutator-clause-done : goal.returns-in-Mutator-clause-done
returns-in-Mutator-clause-done c =
    subst (λ (machine : Machine). (c.took.result ≡ took.Done) ↔ ((is_mutating (shown machine) ≡ true) × (place_in (order_of machine) (shown machine) ≡ LV))) (sym c.in-Mutator.is)
    (λ said_done. (refl, c.took.ensures.done.0 said_done), λ both_parts. c.took.ensures.done.1 both_parts.1)

pub returns-in-Mutator-clause-replied : goal.returns-in-Mutator-clause-replied
returns-in-Mutator-clause-replied c = c.took.ensures.replied

pub returns-in-Mutator-clause-again : goal.returns-in-Mutator-clause-again
returns-in-Mutator-clause-again c =
    subst (λ (machine : Machine). (c.took.result ≡ took.Again) ↔ WaitsIn (config_of machine) (order_of machine) (shown machine) c.args.got) (sym c.in-Mutator.is) c.took.ensures.again

pub took-requires-in-Helper-clause-fit : goal.took-requires-in-Helper-clause-fit
took-requires-in-Helper-clause-fit c =
    let helper = c.in-Helper.helper in
    subst (λ (some_helper : Helping). IsFit (helpers.config_of helper) some_helper c.args.got) (helped (helpers.config_of helper) (helpers.hint_of helper) (helpers.seen_helper helper))
    (subst (λ (machine : Machine). IsFitFor (config_of machine) (order_of machine) c.args.got (shown machine)) c.in-Helper.is c.requires.fit)

pub returns-in-Helper-clause-shown : goal.returns-in-Helper-clause-shown
returns-in-Helper-clause-shown c =
    ap helping c.took-in-Helper.ensures.row
    ∙ ap (λ (helper : Helping). helping (help_next (helpers.config_of c.in-Helper.helper) helper c.args.got)) (sym (helped (helpers.config_of c.in-Helper.helper) (helpers.hint_of c.in-Helper.helper) (helpers.seen_helper c.in-Helper.helper)))
    ∙ ap (λ (machine : Machine). machine_after pause_image (config_of machine) (order_of machine) c.args.got (shown machine)) (sym c.in-Helper.is)

pub returns-in-Helper-clause-order : goal.returns-in-Helper-clause-order
returns-in-Helper-clause-order c = ap hinting c.took-in-Helper.ensures.hint

pub returns-in-Helper-clause-heap : goal.returns-in-Helper-clause-heap
returns-in-Helper-clause-heap c = c.took-in-Helper.ensures.config ∙ ap config_of (sym c.in-Helper.is)

pub returns-in-Helper-clause-answer : goal.returns-in-Helper-clause-answer
returns-in-Helper-clause-answer c =
    ap (λ (machine : Machine). answer_of (config_of machine) (order_of machine) (shown machine) c.args.got) c.in-Helper.is
    ∙ ap (λ (helper : Helping). Some (help_says (helpers.config_of c.in-Helper.helper) helper c.args.got)) (helped (helpers.config_of c.in-Helper.helper) (helpers.hint_of c.in-Helper.helper) (helpers.seen_helper c.in-Helper.helper))
    ∙ ap Some (sym c.took-in-Helper.ensures.says)

pub returns-in-Helper-clause-done : goal.returns-in-Helper-clause-done
returns-in-Helper-clause-done c =
    subst (λ (machine : Machine). (c.took-in-Helper.result ≡ took.Done) ↔ ((is_mutating (shown machine) ≡ true) × (place_in (order_of machine) (shown machine) ≡ LV))) (sym c.in-Helper.is)
    (λ said_done. absurd (helps_on (helpers.config_of c.in-Helper.helper) (help_hinted (helpers.config_of c.in-Helper.helper) (helpers.hint_of c.in-Helper.helper) (helpers.seen_helper c.in-Helper.helper)).spot c.args.got (sym c.took-in-Helper.ensures.says ∙ said_done)), λ both_parts. absurd (false≢true both_parts.0))

pub returns-in-Helper-clause-replied : goal.returns-in-Helper-clause-replied
returns-in-Helper-clause-replied c = λ said_done.
    absurd (helps_on (helpers.config_of c.in-Helper.helper) (help_hinted (helpers.config_of c.in-Helper.helper) (helpers.hint_of c.in-Helper.helper) (helpers.seen_helper c.in-Helper.helper)).spot c.args.got (sym c.took-in-Helper.ensures.says ∙ said_done))

pub returns-in-Helper-clause-again : goal.returns-in-Helper-clause-again
returns-in-Helper-clause-again c =
    subst (λ (machine : Machine). (c.took-in-Helper.result ≡ took.Again) ↔ WaitsIn (config_of machine) (order_of machine) (shown machine) c.args.got) (sym c.in-Helper.is)
    (subst (λ (helper : Helping). (c.took-in-Helper.result ≡ took.Again) ↔ WaitsAt (helpers.config_of c.in-Helper.helper) helper c.args.got)
    (sym (helped (helpers.config_of c.in-Helper.helper) (helpers.hint_of c.in-Helper.helper) (helpers.seen_helper c.in-Helper.helper))) c.took-in-Helper.ensures.again)

pub returns-in-Control-clause-shown : goal.returns-in-Control-clause-shown
returns-in-Control-clause-shown c =
    ap controlling c.took-in-Control.ensures.row
    ∙ ap (λ (some_control : Controlling). controlling (control_next pause_image (config_in c.in-Control.control) some_control c.args.got)) (sym (controlled (config_in c.in-Control.control) (hint_of c.in-Control.control) (seen_control c.in-Control.control)))
    ∙ ap (λ (machine : Machine). machine_after pause_image (config_of machine) (order_of machine) c.args.got (shown machine)) (sym c.in-Control.is)

pub returns-in-Control-clause-order : goal.returns-in-Control-clause-order
returns-in-Control-clause-order c = ap hinting c.took-in-Control.ensures.hint

pub returns-in-Control-clause-heap : goal.returns-in-Control-clause-heap
returns-in-Control-clause-heap c = c.took-in-Control.ensures.config ∙ ap config_of (sym c.in-Control.is)

pub returns-in-Control-clause-answer : goal.returns-in-Control-clause-answer
returns-in-Control-clause-answer c =
    ap (λ (machine : Machine). answer_of (config_of machine) (order_of machine) (shown machine) c.args.got) c.in-Control.is
    ∙ ap (λ (some_control : Controlling). Some (control_says (config_in c.in-Control.control) some_control c.args.got)) (controlled (config_in c.in-Control.control) (hint_of c.in-Control.control) (seen_control c.in-Control.control))
    ∙ ap Some (sym c.took-in-Control.ensures.says)

pub returns-in-Control-clause-done : goal.returns-in-Control-clause-done
returns-in-Control-clause-done c =
    let hinted_control : Controlling = control_hinted (config_in c.in-Control.control) (hint_of c.in-Control.control) (seen_control c.in-Control.control) in
    subst (λ (machine : Machine). (c.took-in-Control.result ≡ took.Done) ↔ ((is_mutating (shown machine) ≡ true) × (place_in (order_of machine) (shown machine) ≡ LV))) (sym c.in-Control.is)
    (λ said_done. absurd (goes_on (config_in c.in-Control.control) hinted_control.seen hinted_control.spot c.args.got (sym c.took-in-Control.ensures.says ∙ said_done)), λ both_parts. absurd (false≢true both_parts.0))

pub returns-in-Control-clause-again : goal.returns-in-Control-clause-again
returns-in-Control-clause-again c =
    subst (λ (machine : Machine). (c.took-in-Control.result ≡ took.Again) ↔ WaitsIn (config_of machine) (order_of machine) (shown machine) c.args.got) (sym c.in-Control.is)
    (subst (λ (some_control : Controlling). (c.took-in-Control.result ≡ took.Again) ↔ control.WaitsAt (config_in c.in-Control.control) some_control c.args.got)
    (sym (controlled (config_in c.in-Control.control) (hint_of c.in-Control.control) (seen_control c.in-Control.control))) c.took-in-Control.ensures.again)

pub took-requires-in-Helper-clause-busy : goal.took-requires-in-Helper-clause-busy
took-requires-in-Helper-clause-busy c = goes_with_hint _ _ (ap has_turn (sym c.in-Helper.is) ∙ c.requires.busy)

pub took-requires-in-Control-clause-busy : goal.took-requires-in-Control-clause-busy
took-requires-in-Control-clause-busy c = goes_with_hint _ _ (ap has_turn (sym c.in-Control.is) ∙ c.requires.busy)
