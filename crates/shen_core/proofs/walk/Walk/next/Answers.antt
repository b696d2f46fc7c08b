use Rattle.shen_core.specs.Agendas.{agenda_in}
use Rattle.shen_core.proofs.Stepping.{settles_next}
use Rattle.shen_core.proofs.walk.Walk.next.Goals as goal

pub returns-clause-settles : goal.returns-clause-settles
returns-clause-settles c =
    settles_next c.args.plain.now c.args.work.now (agenda_in c.args.self.now) c.find.new.self c.in-Some.number c.in-Some-turn_seen.seen.settles c.find.ensures.same c.in-Some.ensures.due c.in-Some-turn_seen.ensures.settles
