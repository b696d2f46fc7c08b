use Rattle.std.proofs.Common.{◌≡◌, ◌+◌, ◌<◌, ℕ, List, get_or, refl, sym, ap, ◌∙◌, subst, arith}
use Rattle.heap_words.specs.declared.config.Config.{Config}
use Rattle.heap_words.specs.Words.{table_words}
use Rattle.regions.specs.Table.{IsInTable}
use Rattle.image_graph.specs.State.{config_of, words_of, places_of}
use Rattle.full_cycle.specs.Steps.{renewed_by, IsChanged}
use Rattle.full_cycle.proofs.Changed.{none_changed, not_yet, changed_more}
use Rattle.full_cycle.proofs.renew.renew_words.Goals as goal

pub loop-at-init : goal.loop-at-init
loop-at-init c = record {
  config = refl;
  places = refl;
  words = none_changed c.args.from (renewed_by (config_of c.args.image.now).region_words (places_of c.args.image.now)) (words_of c.args.image.now);
}

pub word-requires : goal.word-requires
word-requires c = subst (λ (config : Config). c.loop-at.at < table_words config) (sym c.loop-at.invariant.config) (omega (arith, c.loop-at-test.true, c.requires.inside))

pub renewed-place-requires : goal.renewed-place-requires
renewed-place-requires c = λ some_word.
    let config = config_of c.args.image.now in
    let places = places_of c.args.image.now in
    let before = words_of c.args.image.now in
    let index = c.loop-at.at in
    let invariant = c.loop-at.invariant in
    let word : c.word.result ≡ get_or before index 0 = c.word.ensures.value ∙ not_yet c.args.from index (renewed_by config.region_words places) before (words_of c.loop-at.image) invariant.words in
    let in_table = c.requires.table index c.loop-at.auto.at c.loop-at-test.true (subst (λ (value : ℕ). 1 < value) word some_word) in
    subst (λ (config : Config). IsInTable config.region_words (places_of c.loop-at.image) c.word.result) (sym invariant.config)
    (subst (λ (moved_places : List ℕ). IsInTable config.region_words moved_places c.word.result) (sym invariant.places)
    (subst (IsInTable config.region_words places) (sym word) in_table))

pub set_word-requires : goal.set_word-requires
set_word-requires c = subst (λ (config : Config). c.loop-at.at < table_words config) (sym c.loop-at.invariant.config) (omega (arith, c.loop-at-test.true, c.requires.inside))

pub loop-at-preserved : goal.loop-at-preserved
loop-at-preserved c =
    let config = config_of c.args.image.now in
    let places = places_of c.args.image.now in
    let before = words_of c.args.image.now in
    let renewal : ℕ → ℕ = renewed_by config.region_words places in
    let index = c.loop-at.at in
    let now = c.loop-at.image in
    let invariant = c.loop-at.invariant in
    let inside : index < table_words (config_of now) = subst (λ (config : Config). index < table_words config) (sym invariant.config) (omega (arith, c.loop-at-test.true, c.requires.inside)) in
    let word : c.word.result ≡ get_or before index 0 = c.word.ensures.value ∙ not_yet c.args.from index renewal before (words_of now) invariant.words in
    let place : c.renewed-place.result ≡ renewal (get_or before index 0) =
    c.renewed-place.ensures
    ∙ ap (λ (config : Config). renewed_by config.region_words (places_of now) c.word.result) invariant.config
    ∙ ap (λ (moved_places : List ℕ). renewed_by config.region_words moved_places c.word.result) invariant.places
    ∙ ap renewal word in
    record {
      config = c.set_word.ensures.config ∙ invariant.config;
      places = c.set_word.ensures.places ∙ invariant.places;
      words = subst (IsChanged c.args.from (index + 1) renewal before) (sym c.set_word.ensures.words)
          (changed_more c.args.from index renewal before (words_of now) c.renewed-place.result c.loop-at.auto.at (subst (λ (value : ℕ). index < value) (sym now.all_words) inside) invariant.words place);
    }

pub returns-clause-words : goal.returns-clause-words
returns-clause-words c =
    subst (λ (value : ℕ). IsChanged c.args.from value (renewed_by (config_of c.args.image.now).region_words (places_of c.args.image.now)) (words_of c.args.image.now) (words_of c.loop-at.image))
    (omega (arith, c.requires.order, c.loop-at.auto.at-end, c.loop-at-test.false)) c.loop-at.invariant.words
