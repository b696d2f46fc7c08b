use Rattle.std.proofs.Common.{◌≡◌, ◌↔◌, true, ap, sym, subst}
use Rattle.std.proofs.lemmas.Bool.{and_parts}
use Rattle.heap_words.specs.declared.access.Took.TheVariants.{More, Again}
use Rattle.collector_rows.specs.declared.control_spot.ControlSpot.TheVariants.{Working}
use Rattle.collector_rows.specs.ControlRows.{stopping_says, working_says, says_at}
use Rattle.unit_part.specs.Ready as unit
use Rattle.collector_rows.specs.ControlWaits.{waits_at}
use Rattle.collector_rows.proofs.ControlStays.{ready_at, goes_at}
use Rattle.collector_rows.proofs.ControlWaiting.{never, stopping_waits, working_waits}
use Rattle.collector_rows.proofs.control_spot.ControlSpot.next.Goals as goal

pub returns-in-Stopping-clause-again : goal.returns-in-Stopping-clause-again
returns-in-Stopping-clause-again c =
    subst (λ answer_said. (answer_said ≡ Again) ↔ waits_at c.args.config c.args.last.seen c.args.self c.args.got) (sym c.stopping_says.ensures)
    (subst (λ spot. (stopping_says c.in-Stopping.at c.args.got ≡ Again) ↔ waits_at c.args.config c.args.last.seen spot c.args.got) (sym c.in-Stopping.is)
    (stopping_waits c.args.config c.args.last.seen c.in-Stopping.at c.args.got))

pub returns-in-LookLeft-clause-again : goal.returns-in-LookLeft-clause-again
returns-in-LookLeft-clause-again c = subst (λ spot. (More ≡ Again) ↔ waits_at c.args.config c.args.last.seen spot c.args.got) (sym c.in-LookLeft.is) never

pub returns-in-LookLeft-clause-says : goal.returns-in-LookLeft-clause-says
returns-in-LookLeft-clause-says c = ap (λ spot. says_at c.args.config c.args.last.seen spot c.args.got) (sym c.in-LookLeft.is)

pub returns-in-LookLeft-2-clause-again : goal.returns-in-LookLeft-2-clause-again
returns-in-LookLeft-2-clause-again c = subst (λ spot. (More ≡ Again) ↔ waits_at c.args.config c.args.last.seen spot c.args.got) (sym c.in-LookLeft-2.is) never

pub returns-in-LookLeft-2-clause-says : goal.returns-in-LookLeft-2-clause-says
returns-in-LookLeft-2-clause-says c = ap (λ spot. says_at c.args.config c.args.last.seen spot c.args.got) (sym c.in-LookLeft-2.is)

pub returns-in-LookAsked-clause-again : goal.returns-in-LookAsked-clause-again
returns-in-LookAsked-clause-again c = subst (λ spot. (More ≡ Again) ↔ waits_at c.args.config c.args.last.seen spot c.args.got) (sym c.in-LookAsked.is) never

pub returns-in-LookAsked-clause-says : goal.returns-in-LookAsked-clause-says
returns-in-LookAsked-clause-says c = ap (λ spot. says_at c.args.config c.args.last.seen spot c.args.got) (sym c.in-LookAsked.is)

pub returns-in-LookAsked-2-clause-again : goal.returns-in-LookAsked-2-clause-again
returns-in-LookAsked-2-clause-again c = subst (λ spot. (More ≡ Again) ↔ waits_at c.args.config c.args.last.seen spot c.args.got) (sym c.in-LookAsked-2.is) never

pub returns-in-LookAsked-2-clause-says : goal.returns-in-LookAsked-2-clause-says
returns-in-LookAsked-2-clause-says c = ap (λ spot. says_at c.args.config c.args.last.seen spot c.args.got) (sym c.in-LookAsked-2.is)

pub returns-in-LoadWord-clause-again : goal.returns-in-LoadWord-clause-again
returns-in-LoadWord-clause-again c = subst (λ spot. (More ≡ Again) ↔ waits_at c.args.config c.args.last.seen spot c.args.got) (sym c.in-LoadWord.is) never

pub returns-in-LoadWord-clause-says : goal.returns-in-LoadWord-clause-says
returns-in-LoadWord-clause-says c = ap (λ spot. says_at c.args.config c.args.last.seen spot c.args.got) (sym c.in-LoadWord.is)

pub returns-in-StoreWord-clause-again : goal.returns-in-StoreWord-clause-again
returns-in-StoreWord-clause-again c = subst (λ spot. (More ≡ Again) ↔ waits_at c.args.config c.args.last.seen spot c.args.got) (sym c.in-StoreWord.is) never

pub returns-in-StoreWord-clause-says : goal.returns-in-StoreWord-clause-says
returns-in-StoreWord-clause-says c = ap (λ spot. says_at c.args.config c.args.last.seen spot c.args.got) (sym c.in-StoreWord.is)

pub returns-in-Go-clause-again : goal.returns-in-Go-clause-again
returns-in-Go-clause-again c = subst (λ spot. (More ≡ Again) ↔ waits_at c.args.config c.args.last.seen spot c.args.got) (sym c.in-Go.is) never

pub returns-in-Go-clause-says : goal.returns-in-Go-clause-says
returns-in-Go-clause-says c = ap (λ spot. says_at c.args.config c.args.last.seen spot c.args.got) (sym c.in-Go.is)

pub after-next-requires-clause-ready : goal.after-next-requires-clause-ready
after-next-requires-clause-ready c = subst (λ seat. unit.is_ready c.args.config seat c.in-Working.at ≡ true) (sym c.seat_of.ensures)
    (and_parts _ _ (ready_at c.args.config c.args.self (Working c.in-Working.at) c.in-Working.is c.requires.ready)).0

pub after-next-requires-clause-fit : goal.after-next-requires-clause-fit
after-next-requires-clause-fit c = subst (λ seat. unit.IsFit c.args.config seat c.in-Working.at c.args.got) (sym c.seat_of.ensures)
    (goes_at c.args.config c.args.self (Working c.in-Working.at) c.args.got c.in-Working.is c.requires.fit)

pub returns-in-Working-clause-again : goal.returns-in-Working-clause-again
returns-in-Working-clause-again c =
    let work_again = c.after-next.ensures.again in
    let says = working_waits c.after-next.result.1 in
    subst (λ answer_said. (answer_said ≡ Again) ↔ waits_at c.args.config c.args.last.seen c.args.self c.args.got) (sym c.working_says.ensures)
    (subst (λ spot. (working_says c.after-next.result.1 ≡ Again) ↔ waits_at c.args.config c.args.last.seen spot c.args.got) (sym c.in-Working.is)
    (λ says_again. work_again.0 (says.0 says_again), λ waits. says.1 (work_again.1 waits)))
