use Rattle.std.proofs.Common.{◌≡◌, ◌<◌, ℕ, ap, ◌∙◌, arith}
use Rattle.heap_words.specs.declared.config.Config.{Config}
use Rattle.heap_words.specs.Words.{Word, Tams, word_at, write}
use Rattle.image_graph.specs.Edge.{edge}
use Rattle.image_graph.specs.State.{config_of, memory_of}
use Rattle.image_graph.proofs.NamedStores.{stored}
use Rattle.mark_core.specs.Steps.{noted}
use Rattle.mark_core.proofs.LoopTurns.{edge_noted, noted_next}
use Rattle.mark_core.proofs.begin.note_edges.Goals as goal

pub loop-region-preserved : goal.loop-region-preserved
loop-region-preserved c =
    let old = c.args.image.now in
    let config = config_of old in
    let region = c.loop-region.region in
    let region_below : region < config.regions = omega (arith, c.loop-region-test.true, c.regions-region-end.ensures, ap (λ (config : Config). config.regions) c.config-config.ensures) in
    let edge_is : c.edge-edge.result ≡ edge config (memory_of old) region =
    c.edge-edge.ensures ∙ ap (λ (config : Config). edge config (memory_of c.loop-region.image) region) c.loop-region.invariant.config
    ∙ ap (λ (memory : Word → ℕ). edge config memory region) c.loop-region.invariant.words ∙ edge_noted config region region (memory_of old) in
    let one_stored = stored (config_of c.loop-region.image) config (memory_of c.loop-region.image) (memory_of c.set_word.new.self) (Tams region) c.tams_at.result c.edge-edge.result
    c.loop-region.invariant.config region_below (c.tams_at.ensures ∙ ap (λ (config : Config). word_at config (Tams region)) c.config-config.ensures) c.set_word.ensures.named in
    record {
      config = c.set_word.ensures.config ∙ c.loop-region.invariant.config;
      words = one_stored ∙ ap (λ memory_then. write memory_then (Tams region) c.edge-edge.result) c.loop-region.invariant.words
          ∙ ap (write (noted config region (memory_of old)) (Tams region)) edge_is ∙ noted_next config region (memory_of old);
    }

pub returns-clause-words : goal.returns-clause-words
returns-clause-words c =
    let all_regions : c.loop-region.region ≡ (config_of c.args.image.now).regions =
    omega (arith, c.loop-region-test.false, c.loop-region.auto.region-end, c.regions-region-end.ensures, ap (λ (config : Config). config.regions) c.config-config.ensures) in
    c.loop-region.invariant.words ∙ ap (λ count. noted (config_of c.args.image.now) count (memory_of c.args.image.now)) all_regions
