use Rattle.std.proofs.Common.{refl}
use Rattle.trace_text.specs.Message.{line_text}
use Rattle.trace_text.specs.declared.message.Line.TheVariants as line
use Rattle.trace_runs.specs.declared.mode.Mode.TheVariants.{Churn}
use Rattle.trace_runs.specs.declared.status.Status.TheVariants.{Ok, NoMemory}
use Rattle.trace_runs.specs.Churned.{IsChurned}
use Rattle.trace_runs.proofs.CallEnds.{said}
use Rattle.trace_runs.proofs.churns.churn.Goals as goal

pub returns-in-Ok : goal.returns-in-Ok
returns-in-Ok g c = λ words input asked.
    let churn_told : IsChurned c.args.workload.seed c.args.workload.count (line_text (line.Churn c.in-Ok.summary)) = record { summary = c.in-Ok.summary; turns = c.in-Ok.ensures; text = refl } in
    said words input _ (line_text (line.Churn c.in-Ok.summary)) Ok c.say.result (Churn c.args.workload, asked, churn_told) c.say.ensures

pub returns-in-Err : goal.returns-in-Err
returns-in-Err g c = λ words input asked.
    said words input _ (line_text line.NoMemory) NoMemory c.say-in-Err.result ((Churn c.args.workload, asked), refl) c.say-in-Err.ensures
