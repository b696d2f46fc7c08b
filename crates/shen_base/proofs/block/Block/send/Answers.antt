use Rattle.std.proofs.Common.{refl}
use Rattle.shen_base.proofs.Stages.{puts_sent, puts_dropped}
use Rattle.shen_base.proofs.block.Block.send.Goals as goal
use Rattle.shen_base.proofs.block.Block.send.Goals.{then-not-self, else-not-self}

pub returns-clause-sent : goal.returns-clause-sent
returns-clause-sent g c =
    elim c.if-not-self.branch [
      | then-not-self w ↦
          rw (w.sink-is, w.self-inside-is, ← c.self.view_is)
          (puts_sent w.write_all-sent.result _ _ _ _ w.write_all-sent.ensures w.if-not-self.true refl w.is_err-self-inside.ensures.value)
      | else-not-self w ↦
          rw (w.sink-is, w.self-inside-is, ← c.self.view_is) (puts_dropped _ _ _ w.if-not-self.false refl w.if-not-self.false)
    ]
