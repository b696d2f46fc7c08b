use Rattle.shen_core.proofs.plain.Plain.run.Goals as goal

pub returns-clause-events : goal.returns-clause-events
returns-clause-events c = λ scripts stage shows tells. (c.run_agenda.ensures.events scripts stage shows tells).ran
