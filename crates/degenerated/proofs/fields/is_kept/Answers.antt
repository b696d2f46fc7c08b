use Rattle.std.proofs.Common.{sym, subst}
use Rattle.heap_words.specs.declared.config.Config.{Config}
use Rattle.heap_words.specs.Words.{Tams, Heap, IsWord}
use Rattle.image_graph.specs.State.{config_of}
use Rattle.image_graph.proofs.NamedStores.{placed_inside}
use Rattle.degenerated.proofs.fields.is_kept.Goals as goal

pub heap_at-requires : goal.heap_at-requires
heap_at-requires c = subst (λ (config : Config). IsWord config (Heap c.args.object)) (sym c.config-config.ensures) c.requires

pub word-requires : goal.word-requires
word-requires c = placed_inside (config_of c.args.image.now) c.config-config.result (Heap c.args.object) _ (sym c.config-config.ensures)
    (subst (λ (config : Config). IsWord config (Heap c.args.object)) (sym c.config-config.ensures) c.requires) c.heap_at.ensures

pub is_black-requires : goal.is_black-requires
is_black-requires c = c.requires

pub region_of-region-requires : goal.region_of-region-requires
region_of-region-requires c = subst (λ (config : Config). IsWord config (Heap c.args.object)) (sym c.config-config.ensures) c.requires

pub tams_at-requires : goal.tams_at-requires
tams_at-requires c = c.region_of-region.ensures.below

pub word-requires-2 : goal.word-requires-2
word-requires-2 c = placed_inside (config_of c.args.image.now) c.config-config.result (Tams c.region_of-region.result) _ (sym c.config-config.ensures) c.region_of-region.ensures.below c.tams_at.ensures

pub base-requires : goal.base-requires
base-requires c = c.region_of-region.ensures.below
