use Rattle.std.proofs.Common.{◌-◌, subst}
use Rattle.shen_core.specs.State.{config_of}
use Rattle.shen_core.specs.WholeRun.{EndsRun}
use Rattle.shen_core.specs.Agendas.{agenda_in}
use Rattle.shen_core.proofs.WalkEnds.{ends_by, counts_by}
use Rattle.program_calls.specs.Listed.{HasEvents}
use Rattle.program_calls.proofs.list.list.Goals as goal

pub list_all-left-requires-clause-walk : goal.list_all-left-requires-clause-walk
list_all-left-requires-clause-walk g c = c.open-walk.ensures.fits (config_of c.args.plain.now) c.requires.items

pub returns-clause-events : goal.returns-clause-events
returns-clause-events g c =
    subst (λ todo. EndsRun c.args.plain.now c.args.work.now todo c.args.wanted.steps c.list_all-left.new.plain c.list_all-left.new.work c.ended-ran.result) c.open-walk.ensures.agenda
    (ends_by c.args.plain.now c.list_all-left.new.plain c.args.work.now c.list_all-left.new.work (agenda_in c.open-walk.result) (agenda_in c.list_all-left.new.walk) c.args.wanted.steps c.list_all-left.result c.ended-ran.result
    c.list_all-left.ensures.config c.list_all-left.ensures.events
    c.list_all-left.ensures.ended c.list_all-left.ensures.idle c.ended-ran.ensures.finished c.ended-ran.ensures.unfinished)

pub returns-clause-count : goal.returns-clause-count
returns-clause-count g c =
    subst (λ todo. HasEvents c.args.plain.now c.args.work.now todo c.args.wanted.steps (c.args.wanted.steps - c.list_all-left.result)) c.open-walk.ensures.agenda
    (counts_by c.args.plain.now c.list_all-left.new.plain c.args.work.now c.list_all-left.new.work (agenda_in c.open-walk.result) (agenda_in c.list_all-left.new.walk) c.args.wanted.steps c.list_all-left.result
    c.list_all-left.ensures.config c.list_all-left.ensures.events
    c.list_all-left.ensures.ended)
