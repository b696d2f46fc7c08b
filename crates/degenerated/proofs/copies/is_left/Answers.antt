use Rattle.std.proofs.Common.{sym, subst, arith}
use Rattle.heap_words.specs.declared.config.Config.{Config}
use Rattle.heap_words.specs.Words.{Cset, Heap, IsWord}
use Rattle.image_graph.specs.State.{config_of}
use Rattle.image_graph.proofs.NamedStores.{placed_inside}
use Rattle.degenerated.proofs.copies.is_left.Goals as goal

pub word-requires : goal.word-requires
word-requires c = placed_inside (config_of c.args.image.now) c.config-config.result Cset _ (sym c.config-config.ensures) tt c.cset_at.ensures

pub region_of-region-requires : goal.region_of-region-requires
region_of-region-requires c = subst (λ (config : Config). IsWord config (Heap c.args.address)) (sym c.config-config.ensures) c.requires

pub is_in-requires : goal.is_in-requires
is_in-requires c = omega (arith, c.region_of-region.ensures.below, c.config-config.result.in_range.most_regions)

pub is_black-requires : goal.is_black-requires
is_black-requires c = c.requires

pub heap_at-requires : goal.heap_at-requires
heap_at-requires c = subst (λ (config : Config). IsWord config (Heap c.args.address)) (sym c.config-config.ensures) c.requires

pub word-requires-2 : goal.word-requires-2
word-requires-2 c = placed_inside (config_of c.args.image.now) c.config-config.result (Heap c.args.address) _ (sym c.config-config.ensures) (subst (λ (config : Config). IsWord config (Heap c.args.address)) (sym c.config-config.ensures) c.requires) c.heap_at.ensures
