use Rattle.std.proofs.Common.{◌≡◌, ◌<◌, ℕ, Bool, true, false, refl, ap, ◌∙◌, ⊎_elim, arith}
use Rattle.std.proofs.lemmas.Bool.{cases_Bool}
use Rattle.heap_words.specs.declared.config.Config.{Config}
use Rattle.heap_words.specs.Words.{Word}
use Rattle.image_graph.specs.State.{config_of, words_of, memory_of}
use Rattle.mark_core.specs.Steps.{freed_one, freed_below}
use Rattle.mark_core.proofs.Freeing.{freed_none, freed_next, left_next, freed_all}
use Rattle.cycle_words.specs.Updating.Changes.{is_chosen}
use Rattle.update_refs.proofs.end.free_set.Goals as goal

pub loop-region-init : goal.loop-region-init
loop-region-init c = record { config = refl; words = freed_none (is_chosen (memory_of c.args.image.now)) (memory_of c.args.image.now) }

pub loop-region-preserved : goal.loop-region-preserved
loop-region-preserved c =
    let old = c.args.image.now in
    let config = config_of old in
    let memory : Word → ℕ = memory_of old in
    let freed_region : ℕ → Bool = is_chosen memory in
    let region = c.loop-region.region in
    let freed_so_far = c.loop-region.invariant in
    let few : region < 64 = omega (arith, c.loop-region-test.true, c.regions-region-end.ensures, ap (λ (config : Config). config.regions) c.config-config.ensures, config.in_range.most_regions) in
    let still_chosen : is_chosen (memory_of c.loop-region.image) region ≡ freed_region region = ap (λ state. is_chosen state region) freed_so_far.words in
    record {
      config = c.free_if_chosen.ensures.config ∙ freed_so_far.config;
      words = ⊎_elim
          (λ (goes_out : freed_region region ≡ true). c.free_if_chosen.ensures.freed (still_chosen ∙ goes_out) ∙ ap (freed_one region) freed_so_far.words ∙ freed_next freed_region region memory few goes_out)
          (λ (stays : freed_region region ≡ false). c.free_if_chosen.ensures.left (still_chosen ∙ stays) ∙ freed_so_far.words ∙ left_next freed_region region memory stays)
          (cases_Bool (freed_region region));
    }

pub returns-clause-words : goal.returns-clause-words
returns-clause-words c =
    let old = c.args.image.now in
    let config = config_of old in
    let all_regions : c.loop-region.region ≡ config.regions =
    omega (arith, c.loop-region-test.false, c.loop-region.auto.region-end, c.regions-region-end.ensures, ap (λ (config : Config). config.regions) c.config-config.ensures) in
    c.loop-region.invariant.words ∙ ap (λ region_count. freed_below (is_chosen (memory_of old)) region_count (memory_of old)) all_regions
    ∙ freed_all config (words_of old) (is_chosen (memory_of old))
