use Rattle.std.proofs.Common.{sym, ap, ◌∙◌}
use Rattle.shen_core.specs.Noting.{entries_in, noted}
use Rattle.shen_core.proofs.Noting.{noted_none, noted_entry}
use Rattle.shen_core.specs.State.{notes_of}
use Rattle.shen_graph.specs.Noting.{seen}
use Rattle.shen_core.proofs.plain.Plain.note_settled.Goals as goal

pub returns-in-Some-clause-notes : goal.returns-in-Some-clause-notes
returns-in-Some-clause-notes c s shows ends =
    noted_entry (notes_of c.args.self.now) c.note.new.self (seen c.in-Some.entry) c.note.ensures.added c.note.ensures.spare
    ∙ ap (noted (notes_of c.args.self.now)) (sym (c.settles.ensures s shows ends ∙ ap entries_in c.in-Some.is))

pub returns-in_default-clause-notes : goal.returns-in_default-clause-notes
returns-in_default-clause-notes c s shows ends =
    sym (noted_none (notes_of c.args.self.now))
    ∙ ap (noted (notes_of c.args.self.now)) (sym (c.settles.ensures s shows ends ∙ ap entries_in c.in_default.is))
