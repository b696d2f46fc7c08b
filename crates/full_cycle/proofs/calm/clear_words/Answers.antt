use Rattle.std.proofs.Common.{◌+◌, ◌<◌, ℕ, refl, sym, ◌∙◌, subst, arith}
use Rattle.heap_words.specs.declared.config.Config.{Config}
use Rattle.heap_words.specs.Words.{table_words}
use Rattle.image_graph.specs.State.{config_of, words_of}
use Rattle.full_cycle.specs.Steps.{IsChanged}
use Rattle.full_cycle.proofs.Changed.{none_changed, changed_more}
use Rattle.full_cycle.proofs.calm.clear_words.Goals as goal

pub loop-at-init : goal.loop-at-init
loop-at-init c = record { config = refl; words = none_changed c.args.from (λ (word : ℕ). 0) (words_of c.args.image.now) }

pub set_word-requires : goal.set_word-requires
set_word-requires c = subst (λ (config : Config). c.loop-at.at < table_words config) (sym c.loop-at.invariant.config) (omega (arith, c.loop-at-test.true, c.requires.inside))

pub loop-at-preserved : goal.loop-at-preserved
loop-at-preserved c =
    let word_index = c.loop-at.at in
    let image_now = c.loop-at.image in
    let inside : word_index < table_words (config_of image_now) = subst (λ (config : Config). word_index < table_words config) (sym c.loop-at.invariant.config) (omega (arith, c.loop-at-test.true, c.requires.inside)) in
    record {
      config = c.set_word.ensures.config ∙ c.loop-at.invariant.config;
      words = subst (IsChanged c.args.from (word_index + 1) (λ (word : ℕ). 0) (words_of c.args.image.now)) (sym c.set_word.ensures.words)
          (changed_more c.args.from word_index (λ (word : ℕ). 0) (words_of c.args.image.now) (words_of image_now) 0 c.loop-at.auto.at (subst (λ (some_index : ℕ). word_index < some_index) (sym image_now.all_words) inside) c.loop-at.invariant.words refl);
    }

pub returns-clause-words : goal.returns-clause-words
returns-clause-words c =
    subst (λ (some_index : ℕ). IsChanged c.args.from some_index (λ (word : ℕ). 0) (words_of c.args.image.now) (words_of c.loop-at.image))
    (omega (arith, c.requires.order, c.loop-at.auto.at-end, c.loop-at-test.false)) c.loop-at.invariant.words
