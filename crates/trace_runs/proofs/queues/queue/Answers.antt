use Rattle.std.proofs.Common.{refl}
use Rattle.trace_text.specs.Message.{line_text}
use Rattle.trace_text.specs.declared.message.Line.TheVariants as line
use Rattle.trace_runs.specs.declared.mode.Mode.TheVariants.{Queue}
use Rattle.trace_runs.specs.declared.status.Status.TheVariants.{Ok, NoMemory}
use Rattle.trace_runs.proofs.CallEnds.{said}
use Rattle.trace_runs.proofs.queues.queue.Goals as goal

pub returns-in-Ok : goal.returns-in-Ok
returns-in-Ok g c = λ words input asked.
    said words input _ (line_text (line.Queue c.args.count c.in-Ok.got.items c.in-Ok.got.sum)) Ok c.say.result (Queue c.args.count, asked, c.in-Ok.ensures) c.say.ensures

pub returns-in-Err : goal.returns-in-Err
returns-in-Err g c = λ words input asked.
    said words input _ (line_text line.NoMemory) NoMemory c.say-in-Err.result ((Queue c.args.count, asked), refl) c.say-in-Err.ensures
