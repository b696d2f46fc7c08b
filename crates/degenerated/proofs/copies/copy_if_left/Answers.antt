use Rattle.std.proofs.Common.{sym, ◌∙◌}
use Rattle.image_graph.specs.State.{config_of, memory_of}
use Rattle.degenerated.proofs.CopyingOut.{object_taken}
use Rattle.degenerated.proofs.copies.copy_if_left.Goals as goal

pub returns-clause-words : goal.returns-clause-words
returns-clause-words c =
    c.copy_out.ensures.words ∙ object_taken (config_of c.args.image.now) (memory_of c.args.image.now) c.args.address (sym c.is_left.ensures ∙ c.if-not-is_left.false)
