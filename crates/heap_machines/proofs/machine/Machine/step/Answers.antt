use Rattle.std.proofs.Common.{◌≡◌, ℕ, true, sym, ◌∙◌, subst}
use Rattle.std.specs.Prelude.{◌↔◌, slice_index}
use Rattle.std.proofs.lemmas.Bool.{false≢true}
use Rattle.heap_words.specs.Access.{table_index}
use Rattle.heap_words.specs.declared.access.Took.TheVariants as took
use Rattle.heap_words.specs.declared.place.Place.TheVariants.{LV}
use Rattle.shen_graph.specs.Order.{hinting}
use Rattle.collector_rows.specs.ControlReady.{UnitGoesOn}
use Rattle.collector_rows.specs.ControlRows.{Controlling, control_access}
use Rattle.control.specs.Seen as controls
use Rattle.control.specs.Seen.{config_in, seen_control, hint_of, past_hint}
use Rattle.step_core.specs.Actor.{controlling}
use Rattle.step_core.specs.Machines.{place_in, IsFitFor}
use Rattle.step_core.proofs.Helpers.GoOn.{goes_on}
use Rattle.heap_machines.specs.declared.machine.Machine.{Machine}
use Rattle.heap_machines.specs.Roles.{is_mutating}
use Rattle.heap_machines.specs.Shown.{shown, order_of, config_of, word_found}
use Rattle.heap_machines.proofs.Fit.{fit_for_control}
use Rattle.heap_machines.proofs.Hinting.{controlled, whole_with_hint}
use Rattle.heap_machines.proofs.machine.Machine.step.Goals as goal

pub step-requires-in-Control-clause-fit : goal.step-requires-in-Control-clause-fit
step-requires-in-Control-clause-fit c =
    let config = config_in c.in-Control.control in
    let hint = hint_of c.in-Control.control in
    let words = c.args.words.now.items in
    let hinted_control : Controlling = past_hint c.in-Control.control in
    let got : ℕ = controls.word_found c.in-Control.control words in
    let same_control = controlled config hint (seen_control c.in-Control.control) in
    let word_fits = subst (λ (control : Controlling). IsFitFor config (hinting hint) (slice_index words (table_index (control_access config control))) (controlling (seen_control c.in-Control.control))) same_control
    (subst (λ (machine : Machine). IsFitFor (config_of machine) (order_of machine) (word_found machine words) (shown machine)) c.in-Control.is c.requires.fit) in
    fit_for_control config hinted_control.phase hinted_control.spot hinted_control.image got (whole_with_hint config hint (seen_control c.in-Control.control) got word_fits.0)
    (subst (λ (control : Controlling). UnitGoesOn config control.spot got) same_control word_fits.1)

pub returns-in-Control-clause-done : goal.returns-in-Control-clause-done
returns-in-Control-clause-done c =
    let control : Controlling = past_hint c.in-Control.control in
    let got : ℕ = controls.word_found c.in-Control.control c.args.words.now.items in
    subst (λ (machine : Machine). (c.step-in-Control.result ≡ took.Done) ↔ ((is_mutating (shown machine) ≡ true) × (place_in (order_of machine) (shown machine) ≡ LV))) (sym c.in-Control.is)
    (λ said_done. absurd (goes_on (config_in c.in-Control.control) control.seen control.spot got (sym c.step-in-Control.ensures.says ∙ said_done)), λ both_parts. absurd (false≢true both_parts.0))

pub returns-in-Control-clause-replied : goal.returns-in-Control-clause-replied
returns-in-Control-clause-replied c = λ said_done.
    let control : Controlling = past_hint c.in-Control.control in
    let got : ℕ = controls.word_found c.in-Control.control c.args.words.now.items in
    absurd (goes_on (config_in c.in-Control.control) control.seen control.spot got (sym c.step-in-Control.ensures.says ∙ said_done))
