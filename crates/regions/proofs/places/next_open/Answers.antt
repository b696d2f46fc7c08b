use Rattle.std.proofs.Common.{◌≡◌, ◌+◌, ◌-◌, sym, ap, ◌∙◌, arith}
use Rattle.regions.specs.Places.{is_shut, next_open}
use Rattle.regions.proofs.Around.{open_none, open_step, open_found}
use Rattle.regions.proofs.places.next_open.Goals as goal

pub returns-then-not-is_shut-clause-row : goal.returns-then-not-is_shut-clause-row
returns-then-not-is_shut-clause-row c =
    open_found (is_shut c.args.shut) c.loop-step.step c.args.row c.loop-step-test.true (sym c.is_shut.ensures ∙ c.if-not-is_shut.true) c.loop-step.invariant

pub loop-step-preserved : goal.loop-step-preserved
loop-step-preserved c =
    open_step (is_shut c.args.shut) c.loop-step.step c.args.row c.loop-step-test.true (sym c.is_shut.ensures ∙ c.if-not-is_shut.false) c.loop-step.invariant

pub returns-clause-row : goal.returns-clause-row
returns-clause-row c =
    let shut = is_shut c.args.shut in
    let last_step : c.loop-step.step ≡ 64 = omega (arith, c.loop-step-test.false, c.loop-step.auto.step-end) in
    let same_search : next_open shut (64 - c.loop-step.step) (c.args.row + c.loop-step.step) ≡ next_open shut 0 (c.args.row + 64) =
    ap (λ steps. next_open shut (64 - steps) (c.args.row + steps)) last_step in
    sym (c.loop-step.invariant ∙ same_search ∙ open_none shut (c.args.row + 64))
