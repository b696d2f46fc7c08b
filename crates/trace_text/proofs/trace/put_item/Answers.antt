use Rattle.std.proofs.Common.{ap}
use Rattle.std.specs.Fmt.{decimal}
use Rattle.shen_base.proofs.Stages.{puts_both, puts_same}
use Rattle.trace_text.proofs.trace.put_item.Goals as goal

pub returns : goal.returns
returns g c = puts_both c.put.ensures.put (puts_both (puts_same (ap decimal c.machine_of.ensures) c.put_number.ensures.put) c.put_aim.ensures)
