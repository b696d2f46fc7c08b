use Rattle.std.proofs.Common.{[]}
use Rattle.program_calls.proofs.Reports.{behind_some}
use Rattle.program_calls.proofs.report.put_verdict.Goals as goal

pub returns-in-Holds : goal.returns-in-Holds
returns-in-Holds g c = rw c.in-Holds.is ([], c.put.ensures.put)

pub returns-in-Fails : goal.returns-in-Fails
returns-in-Fails g c = rw c.in-Fails.is (behind_some c.put_line.ensures c.put_line-in-Fails.ensures)

pub returns-in-Stuck : goal.returns-in-Stuck
returns-in-Stuck g c = rw c.in-Stuck.is (behind_some c.put_line-in-Stuck.ensures c.put_line-in-Stuck-2.ensures)
