use Rattle.std.proofs.Common.{Some, ap, sym, ◌∙◌, subst}
use Rattle.collector_rows.specs.ControlRows.{hinted_by}
use Rattle.control.specs.Image.{SeesOwn}
use Rattle.control.specs.Seen.{config_in}
use Rattle.control.proofs.Going.{hinted_own}
use Rattle.control.proofs.machine.Control.goes_on_at.Goals as goal

pub returns-in-Some-clause-own : goal.returns-in-Some-clause-own
returns-in-Some-clause-own c =
    let control = c.args.self.now in
    let config = config_in control in
    let address = c.in-Some.address in
    let takes = (control.given address c.in-Some.is).1 in
    subst (λ spot. SeesOwn config spot control.starts) (sym (c.hinted.ensures.row ∙ ap (λ asked_config. hinted_by asked_config (Some address) control.spot) c.config.ensures)) (hinted_own config control.starts address control.spot takes)
