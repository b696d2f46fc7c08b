use Rattle.std.proofs.Common.{◌≡◌, ◌<◌, ℕ, Bool, true, false, refl, ap, ◌∙◌, ⊎_elim, arith}
use Rattle.std.proofs.lemmas.Bool.{cases_Bool}
use Rattle.heap_words.specs.declared.config.Config.{Config}
use Rattle.heap_words.specs.Words.{Word}
use Rattle.image_graph.specs.State.{config_of, memory_of}
use Rattle.cycle_words.specs.Marking.Final.{is_dead}
use Rattle.mark_core.specs.Steps.{freed_one, freed_below}
use Rattle.mark_core.proofs.Freeing.{freed_none, freed_next, left_next, dead_still}
use Rattle.mark_core.proofs.dead.free_dead.Goals as goal

pub loop-region-init : goal.loop-region-init
loop-region-init c = record { config = refl; words = freed_none (is_dead (config_of c.args.image.now) (memory_of c.args.image.now)) (memory_of c.args.image.now) }

pub loop-region-preserved : goal.loop-region-preserved
loop-region-preserved c =
    let old = c.args.image.now in
    let config = config_of old in
    let memory : Word → ℕ = memory_of old in
    let dead_region : ℕ → Bool = is_dead config memory in
    let region = c.loop-region.region in
    let current_image = c.loop-region.image in
    let invariant_before = c.loop-region.invariant in
    let region_below : region < 64 = omega (arith, c.loop-region-test.true, c.regions-region-end.ensures, ap (λ (config : Config). config.regions) c.config-config.ensures, config.in_range.most_regions) in
    let still_dead : is_dead (config_of current_image) (memory_of current_image) region ≡ dead_region region =
    ap (λ (config : Config). is_dead config (memory_of current_image) region) invariant_before.config ∙ ap (λ memory_then. is_dead config memory_then region) invariant_before.words ∙ dead_still dead_region config region memory in
    record {
      config = c.free_if_dead.ensures.config ∙ invariant_before.config;
      words = ⊎_elim
          (λ (is_out : dead_region region ≡ true). c.free_if_dead.ensures.freed (still_dead ∙ is_out) ∙ ap (freed_one region) invariant_before.words ∙ freed_next dead_region region memory region_below is_out)
          (λ (not_out : dead_region region ≡ false). c.free_if_dead.ensures.left (still_dead ∙ not_out) ∙ invariant_before.words ∙ left_next dead_region region memory not_out)
          (cases_Bool (dead_region region));
    }

pub returns-clause-words : goal.returns-clause-words
returns-clause-words c =
    let old = c.args.image.now in
    let all_regions : c.loop-region.region ≡ (config_of old).regions =
    omega (arith, c.loop-region-test.false, c.loop-region.auto.region-end, c.regions-region-end.ensures, ap (λ (config : Config). config.regions) c.config-config.ensures) in
    c.loop-region.invariant.words ∙ ap (λ count. freed_below (is_dead (config_of old) (memory_of old)) count (memory_of old)) all_regions
