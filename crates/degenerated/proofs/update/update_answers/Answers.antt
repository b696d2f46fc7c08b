use Rattle.std.proofs.Common.{◌≡◌, ◌^◌, ◌<◌, ℕ, refl, sym, ap, ◌∙◌, subst, arith}
use Rattle.heap_words.specs.declared.config.Config.{Config}
use Rattle.heap_words.specs.Words.{Word, Cset, Answer, IsWord, word_at, write}
use Rattle.image_graph.specs.State.{config_of, memory_of}
use Rattle.degenerated.specs.Steps.{kept_now, updated_by, answers_updated}
use Rattle.degenerated.proofs.Naming.{no_answers, answers_next, answer_still}
use Rattle.degenerated.proofs.KeptHeap.{kept_same}
use Rattle.degenerated.proofs.update.update_answers.Goals as goal

pub loop-mutator-init : goal.loop-mutator-init
loop-mutator-init c = record { config = refl; places = refl; words = no_answers (config_of c.args.image.now) (kept_now c.args.image.now) (memory_of c.args.image.now) }

pub update_place-requires-clause-set : goal.update_place-requires-clause-set
update_place-requires-clause-set c =
    let invariant = c.loop-mutator.invariant in
    subst (λ (config : Config). memory_of c.loop-mutator.image Cset < 2 ^ config.regions) (sym invariant.config)
    (subst (λ (memory : Word → ℕ). memory Cset < 2 ^ (config_of c.args.image.now).regions) (sym invariant.words) c.requires)

pub loop-mutator-preserved : goal.loop-mutator-preserved
loop-mutator-preserved c =
    let config = config_of c.args.image.now in
    let memory : Word → ℕ = memory_of c.args.image.now in
    let mutator = c.loop-mutator.mutator in
    let lead : ℕ → ℕ = kept_now c.args.image.now in
    let mutator_below : mutator < config.mutators = omega (arith, c.loop-mutator-test.true, c.mutators-mutator-end.ensures, ap (λ (config : Config). config.mutators) c.config-config.ensures) in
    let now = c.loop-mutator.image in
    let invariant = c.loop-mutator.invariant in
    let word : IsWord (config_of now) (Answer mutator) = subst (λ (config : Config). IsWord config (Answer mutator)) (sym invariant.config) mutator_below in
    let answer_word : c.answer_at.result ≡ word_at (config_of now) (Answer mutator) = c.answer_at.ensures ∙ ap (λ (config : Config). word_at config (Answer mutator)) (c.config-config.ensures ∙ sym invariant.config) in
    record {
      config = c.update_place.ensures.config ∙ invariant.config;
      places = c.update_place.ensures.places ∙ invariant.places;
      words = c.update_place.ensures.words (Answer mutator) word (sym answer_word)
          ∙ ap (λ (f : ℕ → ℕ). write (memory_of now) (Answer mutator) (updated_by (config_of now) f (memory_of now) (memory_of now (Answer mutator)))) (kept_same c.args.image.now now invariant.config invariant.places)
          ∙ ap (λ (config : Config). write (memory_of now) (Answer mutator) (updated_by config lead (memory_of now) (memory_of now (Answer mutator)))) invariant.config
          ∙ ap (λ (memory : Word → ℕ). write memory (Answer mutator) (updated_by config lead memory (memory (Answer mutator)))) invariant.words
          ∙ ap (λ answer. write (answers_updated config lead mutator memory) (Answer mutator) (updated_by config lead memory answer)) (answer_still config lead memory mutator)
          ∙ answers_next config lead memory mutator;
    }

pub returns-clause-words : goal.returns-clause-words
returns-clause-words c =
    let config = config_of c.args.image.now in
    let all_done : c.loop-mutator.mutator ≡ config.mutators =
    omega (arith, c.loop-mutator-test.false, c.loop-mutator.auto.mutator-end, c.mutators-mutator-end.ensures, ap (λ (config : Config). config.mutators) c.config-config.ensures) in
    c.loop-mutator.invariant.words ∙ ap (λ mutators. answers_updated config (kept_now c.args.image.now) mutators (memory_of c.args.image.now)) all_done
