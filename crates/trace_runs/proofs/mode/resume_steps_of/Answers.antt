use Rattle.trace_runs.proofs.mode.resume_steps_of.Goals as goal

pub returns : goal.returns
returns c = c.number_of.ensures
