use Rattle.trace_runs.proofs.mode.workers_of.Goals as goal

pub returns : goal.returns
returns c = c.number_of.ensures
