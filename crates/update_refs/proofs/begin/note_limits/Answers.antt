use Rattle.std.proofs.Common.{◌≡◌, ◌<◌, ℕ, refl, ap, ◌∙◌, arith}
use Rattle.heap_words.specs.declared.config.Config.{Config}
use Rattle.heap_words.specs.Words.{Word, Limit, word_at, write}
use Rattle.image_graph.specs.State.{config_of, memory_of}
use Rattle.image_graph.proofs.NamedStores.{stored}
use Rattle.update_refs.specs.Steps.{limit_in, limited}
use Rattle.update_refs.proofs.UpdatingBegun.{none_limited, limit_limited, limited_next}
use Rattle.update_refs.proofs.begin.note_limits.Goals as goal

pub loop-region-init : goal.loop-region-init
loop-region-init c = record { config = refl; words = none_limited (config_of c.args.image.now) (memory_of c.args.image.now) }

pub loop-region-preserved : goal.loop-region-preserved
loop-region-preserved c =
    let old = c.args.image.now in
    let config = config_of old in
    let memory : Word → ℕ = memory_of old in
    let region = c.loop-region.region in
    let region_below : region < config.regions = omega (arith, c.loop-region-test.true, c.regions-region-end.ensures, ap (λ (config : Config). config.regions) c.config-config.ensures) in
    let limit_found : c.limit-limit.result ≡ limit_in config memory region =
    c.limit-limit.ensures ∙ ap (λ (config : Config). limit_in config (memory_of c.loop-region.image) region) c.loop-region.invariant.config
    ∙ ap (λ (memory : Word → ℕ). limit_in config memory region) c.loop-region.invariant.words ∙ limit_limited config region region memory in
    let one_stored = stored (config_of c.loop-region.image) config (memory_of c.loop-region.image) (memory_of c.set_word.new.self) (Limit region) c.limit_at.result c.limit-limit.result
    c.loop-region.invariant.config region_below (c.limit_at.ensures ∙ ap (λ (config : Config). word_at config (Limit region)) c.config-config.ensures) c.set_word.ensures.named in
    record {
      config = c.set_word.ensures.config ∙ c.loop-region.invariant.config;
      words = one_stored ∙ ap (λ state. write state (Limit region) c.limit-limit.result) c.loop-region.invariant.words
          ∙ ap (write (limited config region memory) (Limit region)) limit_found ∙ limited_next config region memory;
    }

pub returns-clause-words : goal.returns-clause-words
returns-clause-words c =
    let all_regions : c.loop-region.region ≡ (config_of c.args.image.now).regions =
    omega (arith, c.loop-region-test.false, c.loop-region.auto.region-end, c.regions-region-end.ensures, ap (λ (config : Config). config.regions) c.config-config.ensures) in
    c.loop-region.invariant.words ∙ ap (λ region_count. limited (config_of c.args.image.now) region_count (memory_of c.args.image.now)) all_regions
