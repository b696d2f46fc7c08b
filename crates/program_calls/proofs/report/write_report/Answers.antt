use Rattle.shen_base.proofs.Stages.{taken_by_new}
use Rattle.program_calls.proofs.Reports.{behind_more}
use Rattle.program_calls.proofs.report.write_report.Goals as goal

pub returns : goal.returns
returns g c =
    let all_told = behind_more c.put_schedules.ensures c.put_runs.ensures c.put_verdict.ensures in
    (all_told.0, c.finish.ensures.ended _ _ (taken_by_new c.new-block.ensures all_told.1))
