use Rattle.std.proofs.Common.{◌-◌, arith}
use Rattle.shen_core.proofs.Finding.{control_is_due, control_passed}
use Rattle.shen_core.proofs.walk.Walk.find_control.Goals as goal

pub returns-then-has_next-clause-due : goal.returns-then-has_next-clause-due
returns-then-has_next-clause-due c = control_is_due c.args.plain.now c.args.work.now c.args.self.now _ c.if-not-self.false (omega (arith, c.seats-control.ensures)) (omega (arith, c.seats-control.ensures)) c.if-has_next.ensures

pub returns-clause-same : goal.returns-clause-same
returns-clause-same c = control_passed c.args.plain.now c.args.work.now c.args.self.now (c.seats-control.result - 1) c.if-not-self.false (omega (arith, c.seats-control.ensures)) c.if-has_next.ensures
