use Rattle.std.proofs.Common.{sym, arith}
use Rattle.shen_core.proofs.Noting.{noted_out}
use Rattle.shen_core.specs.State.{notes_of}
use Rattle.shen_core.proofs.plain.Plain.note_next.Goals as goal

pub returns-else-spare-gt0-clause-notes : goal.returns-else-spare-gt0-clause-notes
returns-else-spare-gt0-clause-notes c stage shows ends = sym (noted_out (notes_of c.args.self.now) _ (let no_spare = c.spare.ensures in let few = c.if-spare-gt0.false in omega arith))
