use Rattle.std.proofs.Common.{arith}
use Rattle.shen_core.proofs.PauseRounds.{halted_more, ended_more}
use Rattle.shen_core.proofs.plain.Plain.count_halted.Goals as goal
use Rattle.shen_core.proofs.plain.Plain.count_halted.Goals.{then-is_halted, else-is_halted+else-may_move}

pub loop-number-preserved : goal.loop-number-preserved
loop-number-preserved c =
    let plain = c.args.self.now in
    let number = c.loop-number.number in
    let few = c.loop-number.invariant.few in
    elim c.if-is_halted.branch [
      | then-is_halted w ↦ record {
        halted = halted_more plain number c.loop-number.waiting c.if-is_halted.waiting w.waiting-is (c.is_halted.ensures w.if-is_halted.true) c.loop-number.invariant.halted;
        few = (let waiting_is = w.waiting-is in omega arith);
      }
      | else-is_halted+else-may_move w ↦ record {
        halted = ended_more plain number c.loop-number.waiting c.if-is_halted.waiting w.waiting-is (w.may_move.ensures w.if-may_move.false) c.loop-number.invariant.halted;
        few = (let waiting_is = w.waiting-is in omega arith);
      }
    ]
