use Rattle.std.proofs.Common.{◌≡◌, ◌<◌, ℕ, ◌==◌, ◌&&◌, List, Bool, true, refl, sym, ap, ◌∙◌, subst, arith}
use Rattle.heap_words.specs.declared.config.Config.{Config}
use Rattle.heap_words.specs.Words.{Word}
use Rattle.heap_world.specs.Walk.{IsMarked}
use Rattle.image_graph.specs.Pinned.{is_pinned, filled_in, CanFill}
use Rattle.image_graph.specs.Leftovers.{is_left_over}
use Rattle.image_graph.specs.declared.leftovers.Leftover.TheVariants.{NotFound}
use Rattle.image_graph.specs.State.{config_of, memory_of, found_of, marks_of}
use Rattle.full_cycle.proofs.FilledRegions.{unkept_filled, none_filled, can_still, one_filled}
use Rattle.full_cycle.proofs.pack.fill_unkept.Goals as goal

pub loop-region-init : goal.loop-region-init
loop-region-init c = record {
  config = refl;
  places = refl;
  found = refl;
  marks = refl;
  words = none_filled (config_of c.args.image.now) (memory_of c.args.image.now) (found_of c.args.image.now);
}

pub fill_if_pinned-requires-clause-can : goal.fill_if_pinned-requires-clause-can
fill_if_pinned-requires-clause-can c = λ pinned.
    let old = c.args.image.now in
    let config = config_of old in
    let memory : Word → ℕ = memory_of old in
    let now = c.loop-region.image in
    let region = c.loop-region.region in
    let invariant = c.loop-region.invariant in
    let region_below : region < config.regions = omega (arith, c.loop-region-test.true, c.regions-region-end.ensures, ap (λ (config : Config). config.regions) c.config-config.ensures) in
    let still_pinned : is_pinned config (unkept_filled config memory (found_of old) region) region ≡ true =
    sym (ap (λ (memory : Word → ℕ). is_pinned config memory region) invariant.words) ∙ sym (ap (λ (config : Config). is_pinned config (memory_of now) region) invariant.config) ∙ pinned in
    subst (λ (config : Config). CanFill config (memory_of now) region) (sym invariant.config)
    (subst (λ (memory : Word → ℕ). CanFill config memory region) (sym invariant.words) (can_still config memory (found_of old) region (c.requires.can region region_below) still_pinned))

pub fill_if_pinned-requires-clause-found : goal.fill_if_pinned-requires-clause-found
fill_if_pinned-requires-clause-found c =
    let old = c.args.image.now in
    let now = c.loop-region.image in
    let invariant = c.loop-region.invariant in
    subst (λ (config : Config). IsMarked config.region_words (marks_of now) (found_of now)) (sym invariant.config)
    (subst (λ (marks : List Bool). IsMarked (config_of old).region_words marks (found_of now)) (sym invariant.marks)
    (subst (λ (found : List ℕ). IsMarked (config_of old).region_words (marks_of old) found) (sym invariant.found) c.requires.found))

pub loop-region-preserved : goal.loop-region-preserved
loop-region-preserved c =
    let old = c.args.image.now in
    let config = config_of old in
    let memory : Word → ℕ = memory_of old in
    let now = c.loop-region.image in
    let region = c.loop-region.region in
    let invariant = c.loop-region.invariant in
    let turn = c.fill_if_pinned.ensures in
    let region_below : region < config.regions = omega (arith, c.loop-region-test.true, c.regions-region-end.ensures, ap (λ (config : Config). config.regions) c.config-config.ensures) in
    record {
      config = turn.config ∙ invariant.config;
      places = turn.places ∙ invariant.places;
      found = turn.found ∙ invariant.found;
      marks = turn.marks ∙ invariant.marks;
      words = turn.words
          ∙ ap (λ (config : Config). filled_in config (λ own_region. (own_region == region) && is_pinned config (memory_of now) own_region) (is_left_over (memory_of now) (found_of now) NotFound) (memory_of now)) invariant.config
          ∙ ap (λ (memory : Word → ℕ). filled_in config (λ own_region. (own_region == region) && is_pinned config memory own_region) (is_left_over memory (found_of now) NotFound) memory) invariant.words
          ∙ one_filled config memory (found_of old) region (c.requires.can region region_below) (found_of now) invariant.found;
    }

pub returns-clause-words : goal.returns-clause-words
returns-clause-words c =
    let old = c.args.image.now in
    let all_regions : c.loop-region.region ≡ (config_of old).regions =
    omega (arith, c.loop-region-test.false, c.loop-region.auto.region-end, c.regions-region-end.ensures, ap (λ (config : Config). config.regions) c.config-config.ensures) in
    c.loop-region.invariant.words ∙ ap (unkept_filled (config_of old) (memory_of old) (found_of old)) all_regions
