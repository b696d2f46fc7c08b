use Rattle.std.proofs.Common.{◌≡◌, ◌↔◌, sym, subst}
use Rattle.std.proofs.lemmas.Bool.{and_parts}
use Rattle.heap_words.specs.declared.access.Took.TheVariants.{Again}
use Rattle.collector_rows.specs.HelperRows.{entering_says, working_says}
use Rattle.collector_rows.specs.HelperWaits.{waits_at}
use Rattle.collector_rows.specs.declared.help_spot.HelpSpot.TheVariants.{Working}
use Rattle.collector_rows.proofs.HelperStays.{fits_at, goes_at}
use Rattle.collector_rows.proofs.HelperWaiting.{entering_waits, working_waits}
use Rattle.collector_rows.proofs.help_spot.HelpSpot.next.Goals as goal

pub returns-in-Entering-clause-again : goal.returns-in-Entering-clause-again
returns-in-Entering-clause-again c =
    subst (λ answer_said. (answer_said ≡ Again) ↔ waits_at c.args.config c.args.self c.args.got) (sym c.entering_says.ensures)
    (subst (λ spot. (entering_says c.in-Entering.at c.args.got ≡ Again) ↔ waits_at c.args.config spot c.args.got) (sym c.in-Entering.is) (entering_waits c.args.config c.in-Entering.at c.args.got))

pub returns-in-Working-clause-again : goal.returns-in-Working-clause-again
returns-in-Working-clause-again c =
    let work_result = c.after-next.result in
    subst (λ answer_said. (answer_said ≡ Again) ↔ waits_at c.args.config c.args.self c.args.got) (sym c.working_says.ensures)
    (subst (λ spot. (working_says work_result.0 work_result.1 ≡ Again) ↔ waits_at c.args.config spot c.args.got) (sym c.in-Working.is)
    (subst (λ next_spot. (working_says next_spot work_result.1 ≡ Again) ↔ waits_at c.args.config (Working c.in-Working.at) c.args.got) (sym c.after-next.ensures.row)
    (working_waits c.args.config c.args.seat c.in-Working.at c.args.got work_result.1 (fits_at c.args.config c.args.seat c.args.self (Working c.in-Working.at) c.in-Working.is c.requires.fits) c.after-next.ensures.again)))

pub after-next-requires-clause-ready : goal.after-next-requires-clause-ready
after-next-requires-clause-ready c = (and_parts _ _ (fits_at c.args.config c.args.seat c.args.self (Working c.in-Working.at) c.in-Working.is c.requires.fits)).0

pub after-next-requires-clause-fit : goal.after-next-requires-clause-fit
after-next-requires-clause-fit c = goes_at c.args.config c.args.seat c.args.self (Working c.in-Working.at) c.args.got c.in-Working.is c.requires.fit
