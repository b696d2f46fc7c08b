use Rattle.std.proofs.Common.{◌≡◌, ◌<◌, ℕ, ◌&&◌, ◌==◌, not, true, false, refl, sym, ap, ◌∙◌, subst, ⊎_elim, arith}
use Rattle.std.proofs.lemmas.Bool.{cases_Bool}
use Rattle.heap_words.specs.declared.config.Config.{Config}
use Rattle.heap_words.specs.Words.{Word}
use Rattle.image_graph.specs.Pinned.{is_pinned, filled_in, CanFill}
use Rattle.image_graph.specs.State.{config_of, words_of, memory_of}
use Rattle.mark_core.specs.Steps.{freed_one}
use Rattle.cycle_words.specs.Updating.Changes.{is_chosen}
use Rattle.cycle_words.specs.Finishing.Finish.{is_to_free, is_to_stay, has_moved}
use Rattle.degenerated.proofs.FreedSet.{left_below, none_left, spared_next, freed_region, can_fill_now, filled_region, all_left}
use Rattle.degenerated.proofs.cycle.free_set.Goals as goal

pub loop-region-init : goal.loop-region-init
loop-region-init c = record { config = refl; words = none_left (config_of c.args.image.now) (memory_of c.args.image.now) }

-- which regions are chosen, and pinned, is told by words that stay
stays_still : (config other_config : Config) (memory now : Word → ℕ) (region count : ℕ) → other_config ≡ config → now ≡ left_below config memory count → is_to_stay other_config now region ≡ is_to_stay config memory region
stays_still config other_config memory now region count same_config words = ap (λ (config : Config). is_to_stay config now region) same_config ∙ ap (λ (memory : Word → ℕ). is_to_stay config memory region) words

frees_still : (config other_config : Config) (memory now : Word → ℕ) (region count : ℕ) → other_config ≡ config → now ≡ left_below config memory count → is_to_free other_config now region ≡ is_to_free config memory region
frees_still config other_config memory now region count same_config words = ap (λ (config : Config). is_to_free config now region) same_config ∙ ap (λ (memory : Word → ℕ). is_to_free config memory region) words

chosen_still : (config : Config) (memory now : Word → ℕ) (region count : ℕ) → now ≡ left_below config memory count → is_chosen now region ≡ is_chosen memory region
chosen_still config memory now region count words = ap (λ (memory : Word → ℕ). is_chosen memory region) words

pub free_or_fill-requires-clause-can : goal.free_or_fill-requires-clause-can
free_or_fill-requires-clause-can c = λ stays.
    let config = config_of c.args.image.now in
    let memory : Word → ℕ = memory_of c.args.image.now in
    let now = c.loop-region.image in
    let region = c.loop-region.region in
    let invariant = c.loop-region.invariant in
    let region_below : region < config.regions = omega (arith, c.loop-region-test.true, c.regions-region-end.ensures, ap (λ (config : Config). config.regions) c.config-config.ensures) in
    let stay : is_to_stay config memory region ≡ true = sym (stays_still config (config_of now) memory (memory_of now) region region invariant.config invariant.words) ∙ stays in
    subst (λ (config : Config). CanFill config (memory_of now) region) (sym invariant.config)
    (subst (λ (memory : Word → ℕ). CanFill config memory region) (sym invariant.words) (can_fill_now config memory region (c.requires.fills region region_below stay)))

pub loop-region-preserved : goal.loop-region-preserved
loop-region-preserved c =
    let config = config_of c.args.image.now in
    let memory : Word → ℕ = memory_of c.args.image.now in
    let now = c.loop-region.image in
    let region = c.loop-region.region in
    let invariant = c.loop-region.invariant in
    let turn = c.free_or_fill.ensures in
    let region_below : region < config.regions = omega (arith, c.loop-region-test.true, c.regions-region-end.ensures, ap (λ (config : Config). config.regions) c.config-config.ensures) in
    let stay = stays_still config (config_of now) memory (memory_of now) region region invariant.config invariant.words in
    let same_free = frees_still config (config_of now) memory (memory_of now) region region invariant.config invariant.words in
    record {
      config = turn.config ∙ invariant.config;
      words = ⊎_elim
          (λ (chosen : is_chosen memory region ≡ true). ⊎_elim
          (λ (pinned : is_pinned config memory region ≡ true).
          let stays : is_to_stay config memory region ≡ true = ap (λ in_set. in_set && is_pinned config memory region) chosen ∙ pinned in
          let not_freed : is_to_free config memory region ≡ false = ap (λ in_set. in_set && not (is_pinned config memory region)) chosen ∙ ap not pinned in
          turn.fills (stay ∙ stays)
          ∙ ap (λ (config : Config). filled_in config (λ any_region. any_region == region) (has_moved (memory_of now)) (memory_of now)) invariant.config
          ∙ ap (λ (memory : Word → ℕ). filled_in config (λ any_region. any_region == region) (has_moved memory) memory) invariant.words
          ∙ filled_region config memory region (c.requires.fills region region_below stays) stays not_freed)
          (λ (unpinned : is_pinned config memory region ≡ false).
          let frees : is_to_free config memory region ≡ true = ap (λ in_set. in_set && not (is_pinned config memory region)) chosen ∙ ap not unpinned in
          let not_staying : is_to_stay config memory region ≡ false = ap (λ in_set. in_set && is_pinned config memory region) chosen ∙ unpinned in
          turn.frees (same_free ∙ frees) ∙ ap (freed_one region) invariant.words ∙ freed_region config memory region (omega (arith, region_below, config.in_range.most_regions)) frees not_staying)
          (cases_Bool (is_pinned config memory region)))
          (λ (spared : is_chosen memory region ≡ false).
          turn.spares (chosen_still config memory (memory_of now) region region invariant.words ∙ spared) ∙ invariant.words
          ∙ spared_next config memory region (ap (λ in_set. in_set && not (is_pinned config memory region)) spared) (ap (λ in_set. in_set && is_pinned config memory region) spared))
          (cases_Bool (is_chosen memory region));
    }

pub returns-clause-words : goal.returns-clause-words
returns-clause-words c =
    let config = config_of c.args.image.now in
    let memory : Word → ℕ = memory_of c.args.image.now in
    let all_regions : c.loop-region.region ≡ config.regions =
    omega (arith, c.loop-region-test.false, c.loop-region.auto.region-end, c.regions-region-end.ensures, ap (λ (config : Config). config.regions) c.config-config.ensures) in
    c.loop-region.invariant.words ∙ ap (left_below config memory) all_regions ∙ all_left config (words_of c.args.image.now)
