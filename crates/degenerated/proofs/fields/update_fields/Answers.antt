use Rattle.std.proofs.Common.{◌≡◌, ◌+◌, ℕ, refl, sym, ap, ◌∙◌, subst, arith}
use Rattle.heap_words.specs.declared.config.Config.{Config}
use Rattle.heap_words.specs.Words.{Word}
use Rattle.image_graph.specs.State.{config_of, memory_of}
use Rattle.cycle_words.specs.Finishing.Updated.{CanUpdateAll}
use Rattle.degenerated.specs.Steps.{kept_now, fields_updated, is_of, is_of_first}
use Rattle.degenerated.proofs.UpdatedFields.{can_still, no_fields, then_updated, none_of_first, one_region_more, regions_apart}
use Rattle.degenerated.proofs.KeptHeap.{kept_same}
use Rattle.degenerated.proofs.fields.update_fields.Goals as goal

pub loop-region-init : goal.loop-region-init
loop-region-init c =
    let config = config_of c.args.image.now in
    record { config = refl; places = refl; words = no_fields config (memory_of c.args.image.now) (kept_now c.args.image.now) (is_of_first config 0) (λ x field. none_of_first config x) }

pub update_if_staying-requires-clause-can : goal.update_if_staying-requires-clause-can
update_if_staying-requires-clause-can c =
    let config = config_of c.args.image.now in
    let memory : Word → ℕ = memory_of c.args.image.now in
    let invariant = c.loop-region.invariant in
    subst (λ (config : Config). CanUpdateAll config (memory_of c.loop-region.image)) (sym invariant.config)
    (subst (CanUpdateAll config) (sym invariant.words) (can_still config (kept_now c.args.image.now) memory c.requires (is_of_first config c.loop-region.region)))

pub loop-region-preserved : goal.loop-region-preserved
loop-region-preserved c =
    let config = config_of c.args.image.now in
    let memory : Word → ℕ = memory_of c.args.image.now in
    let region = c.loop-region.region in
    let lead : ℕ → ℕ = kept_now c.args.image.now in
    let now = c.loop-region.image in
    let invariant = c.loop-region.invariant in
    record {
      config = c.update_if_staying.ensures.config ∙ invariant.config;
      places = c.update_if_staying.ensures.places ∙ invariant.places;
      words = c.update_if_staying.ensures.words
          ∙ ap (λ (f : ℕ → ℕ). fields_updated (config_of now) f (is_of (config_of now) region) (memory_of now)) (kept_same c.args.image.now now invariant.config invariant.places)
          ∙ ap (λ (config : Config). fields_updated config lead (is_of config region) (memory_of now)) invariant.config
          ∙ ap (fields_updated config lead (is_of config region)) invariant.words
          ∙ then_updated config lead memory c.requires (is_of_first config region) (is_of config region) (is_of_first config (region + 1)) (λ address field before. regions_apart config region address before) (λ address field. one_region_more config region address);
    }

pub returns-clause-words : goal.returns-clause-words
returns-clause-words c =
    let config = config_of c.args.image.now in
    let all_regions : c.loop-region.region ≡ config.regions =
    omega (arith, c.loop-region-test.false, c.loop-region.auto.region-end, c.regions-region-end.ensures, ap (λ (config : Config). config.regions) c.config-config.ensures) in
    c.loop-region.invariant.words ∙ ap (λ regions. fields_updated config (kept_now c.args.image.now) (is_of_first config regions) (memory_of c.args.image.now)) all_regions
