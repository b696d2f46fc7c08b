use Rattle.shen_base.proofs.Stages.{puts_both, taken_by_new}
use Rattle.trace_text.proofs.history.write_history.Goals as goal

pub returns : goal.returns
returns g c = c.finish.ensures.ended _ _ (taken_by_new c.new-block.ensures (puts_both c.put.ensures.put c.put_entries.ensures))
