use Rattle.std.proofs.Common.{sym, arith}
use Rattle.heap_words.specs.Words.{Cset}
use Rattle.image_graph.specs.State.{config_of}
use Rattle.image_graph.proofs.NamedStores.{placed_inside}
use Rattle.cset_choice.proofs.copy.has_room.Goals as goal

pub word-requires : goal.word-requires
word-requires c = placed_inside (config_of c.args.image.now) c.config-config.result Cset _ (sym c.config-config.ensures) tt c.cset_at.ensures

pub is_in-requires : goal.is_in-requires
is_in-requires c = omega (arith, c.requires.region, (config_of c.args.image.now).in_range.most_regions)

pub top-requires : goal.top-requires
top-requires c = c.requires.region
