use Rattle.std.proofs.Common.{arith, subst}
use Rattle.shen_core.specs.Nexts.{AreIdleFrom}
use Rattle.shen_core.proofs.Finding.{rounds_later, rounds_sooner, rounds_none, rounds_due, none_busy}
use Rattle.shen_core.proofs.walk.Walk.find_in_rounds.Goals as goal

pub returns-in-Some-clause-same : goal.returns-in-Some-clause-same
returns-in-Some-clause-same c =
    let found = c.in-Some.ensures in
    rounds_later c.args.plain.now c.args.work.now c.args.self.now c.in-Some.number c.requires.none found.0 (let found_below = found.1 in omega (arith, found_below, c.seats.ensures)) found.2

pub returns-in-Some-clause-due : goal.returns-in-Some-clause-due
returns-in-Some-clause-due c =
    let found = c.in-Some.ensures in
    rounds_due c.args.plain.now c.args.work.now c.args.self.now c.in-Some.number c.requires.none (let found_below = found.1 in omega (arith, found_below, c.seats.ensures)) found.3

pub returns-in-Some-sooner-clause-same : goal.returns-in-Some-sooner-clause-same
returns-in-Some-sooner-clause-same c =
    let found = c.in-Some-sooner.ensures in
    rounds_sooner c.args.plain.now c.args.work.now c.args.self.now c.in-Some-sooner.number c.requires.none c.requires.walk.from found.1
    (subst (λ end. AreIdleFrom c.args.plain.now c.args.self.now.from end) c.seats.ensures (c.in_default.ensures)) found.2

pub returns-in-Some-sooner-clause-due : goal.returns-in-Some-sooner-clause-due
returns-in-Some-sooner-clause-due c =
    let found = c.in-Some-sooner.ensures in
    rounds_due c.args.plain.now c.args.work.now c.args.self.now c.in-Some-sooner.number c.requires.none (let found_below = found.1 in let within = c.requires.walk.from in omega (arith, found_below, within)) found.3

pub returns-in_default-sooner-clause-none : goal.returns-in_default-sooner-clause-none
returns-in_default-sooner-clause-none c = λ is.
    rounds_none c.args.plain.now c.args.work.now c.args.self.now c.requires.none c.requires.walk.from
    (subst (λ end. AreIdleFrom c.args.plain.now c.args.self.now.from end) c.seats.ensures (c.in_default.ensures)) (c.in_default-sooner.ensures)

pub returns-in_default-sooner-clause-idle : goal.returns-in_default-sooner-clause-idle
returns-in_default-sooner-clause-idle c = λ is.
    none_busy c.args.plain.now c.args.work.now c.args.self.now.from
    (subst (λ end. AreIdleFrom c.args.plain.now c.args.self.now.from end) c.seats.ensures c.in_default.ensures) c.in_default-sooner.ensures
