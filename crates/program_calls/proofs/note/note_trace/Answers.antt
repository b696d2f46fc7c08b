use Rattle.std.proofs.Common.{rules}
use Rattle.trace_text.specs.Answer.{spelled_answer}
use Rattle.program_calls.proofs.Replays.{noted_as}
use Rattle.program_calls.proofs.note.note_trace.Goals as goal

pub returns-in-Some-2 : goal.returns-in-Some-2
returns-in-Some-2 g c =
    noted_as c.replayed.result c.args.bytes.now (spelled_answer c.in_ok-answer.answer) c.args.trace.version c.in-Ok.again.version c.in-Some-2.noted.version c.args.trace.config c.in-Ok.again.config c.in-Some-2.noted.config c.args.trace.scripts c.in-Ok.again.scripts c.in-Some-2.noted.scripts
    c.args.trace.schedule c.in-Ok.again.schedule c.in-Some.schedule c.in-Some-2.noted.schedule c.in-Some.steps c.requires c.in_ok-answer.ensures.ok c.in-Ok.ensures.ok
    (search rules) (search rules) (search rules) (search rules) c.replayed.ensures
