use Rattle.std.proofs.Common.{Err, ap, ◌∙◌}
use Rattle.find_play.specs.Told.{told_in}
use Rattle.find_play.proofs.Taken.{one_follows, same_fault}
use Rattle.find_play.proofs.read.take_text.Goals as goal

pub returns-in-Ok-take-clause-ok : goal.returns-in-Ok-take-clause-ok
returns-in-Ok-take-clause-ok c =
    one_follows (told_in c.args.draft.now) (told_in c.take.new.self) c.args.text.now c.in-Ok.read.name.now c.in-Ok.read.kind c.in-Ok.read.values c.in-Ok.ensures.ok c.in-Ok.ensures.name c.in-Ok-take.ensures

pub returns-in-Err-clause-bad_line : goal.returns-in-Err-clause-bad_line
returns-in-Err-clause-bad_line c = λ line why bad_line.
    let fault_parts = same_fault c.args.line c.in-Err.why line why bad_line in
    (fault_parts.0, c.in-Err.ensures.err ∙ ap Err fault_parts.1)
