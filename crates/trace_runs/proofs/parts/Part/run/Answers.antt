use Rattle.trace_runs.proofs.parts.Part.run.Goals as goal

pub run-requires-clause-heap : goal.run-requires-clause-heap
run-requires-clause-heap g c κs within = c.requires.of

pub run-requires-clause-start : goal.run-requires-clause-start
run-requires-clause-start g c κs within = c.requires.start

pub returns : goal.returns
returns g c = record { same = c.run.ensures.same; idle = c.run.ensures.idle; done = c.run.ensures.done }
