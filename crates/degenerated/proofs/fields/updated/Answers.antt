use Rattle.std.proofs.Common.{sym, ◌∙◌}
use Rattle.image_graph.specs.State.{config_of, memory_of}
use Rattle.cset_choice.proofs.Objects.{collected_of_heap}
use Rattle.degenerated.proofs.fields.updated.Goals as goal

pub kept_copy-requires : goal.kept_copy-requires
kept_copy-requires c = collected_of_heap (config_of c.args.image.now) (memory_of c.args.image.now) c.args.word c.requires (sym c.is_collected.ensures ∙ c.if-is_collected.true)
