use Rattle.std.proofs.Common.{◌≡◌, ◌<◌, ℕ, slice_index, refl, sym, ap, ◌∙◌, subst, arith}
use Rattle.heap_words.specs.declared.config.Config.{Config}
use Rattle.heap_words.specs.Words.{Word, Answer, IsWord, word_at}
use Rattle.heap_words.proofs.Stores.{view_word}
use Rattle.image_graph.specs.State.{config_of, words_of, memory_of}
use Rattle.cycle_words.specs.Evacuation.Begun.{CanClear, cleared_at}
use Rattle.cset_choice.proofs.ClearedInTurn.{row, row_none, row_next, row_can}
use Rattle.cset_choice.proofs.begin.clear_answers.Goals as goal

pub loop-mutator-init : goal.loop-mutator-init
loop-mutator-init c = record { config = refl; words = row_none (config_of c.args.image.now) (memory_of c.args.image.now) Answer }

pub clear-requires-clause-can : goal.clear-requires-clause-can
clear-requires-clause-can c =
    let config = config_of c.args.image.now in
    let memory : Word → ℕ = memory_of c.args.image.now in
    let mutator = c.loop-mutator.mutator in
    let mutator_below : mutator < config.mutators = omega (arith, c.loop-mutator-test.true, c.mutators-mutator-end.ensures, ap (λ (config : Config). config.mutators) c.config-config.ensures) in
    let image_now = c.loop-mutator.image in
    let cleared_so_far = c.loop-mutator.invariant in
    let word : IsWord (config_of image_now) (Answer mutator) = subst (λ (config : Config). IsWord config (Answer mutator)) (sym cleared_so_far.config) mutator_below in
    let answer_place : c.answer_at.result ≡ word_at (config_of image_now) (Answer mutator) = c.answer_at.ensures ∙ ap (λ (config : Config). word_at config (Answer mutator)) (c.config-config.ensures ∙ sym cleared_so_far.config) in
    let value : slice_index (words_of image_now) c.answer_at.result ≡ memory_of image_now (Answer mutator) =
    ap (slice_index (words_of image_now)) answer_place ∙ sym (view_word (config_of image_now) (words_of image_now) (Answer mutator) word) in
    let can_clear : CanClear config (row config memory Answer mutator) (memory_of image_now (Answer mutator)) =
    subst (λ (some_memory : Word → ℕ). CanClear config (row config memory Answer mutator) (some_memory (Answer mutator))) (sym cleared_so_far.words) (row_can config memory Answer config.mutators mutator mutator_below c.requires) in
    subst (λ (config : Config). CanClear config (memory_of image_now) (slice_index (words_of image_now) c.answer_at.result)) (sym cleared_so_far.config)
    (subst (λ (memory : Word → ℕ). CanClear config memory (slice_index (words_of image_now) c.answer_at.result)) (sym cleared_so_far.words)
    (subst (CanClear config (row config memory Answer mutator)) (sym value) can_clear))

pub loop-mutator-preserved : goal.loop-mutator-preserved
loop-mutator-preserved c =
    let config = config_of c.args.image.now in
    let memory : Word → ℕ = memory_of c.args.image.now in
    let mutator = c.loop-mutator.mutator in
    let mutator_below : mutator < config.mutators = omega (arith, c.loop-mutator-test.true, c.mutators-mutator-end.ensures, ap (λ (config : Config). config.mutators) c.config-config.ensures) in
    let image_now = c.loop-mutator.image in
    let cleared_so_far = c.loop-mutator.invariant in
    let word : IsWord (config_of image_now) (Answer mutator) = subst (λ (config : Config). IsWord config (Answer mutator)) (sym cleared_so_far.config) mutator_below in
    let answer_place : c.answer_at.result ≡ word_at (config_of image_now) (Answer mutator) = c.answer_at.ensures ∙ ap (λ (config : Config). word_at config (Answer mutator)) (c.config-config.ensures ∙ sym cleared_so_far.config) in
    record {
      config = c.clear.ensures.config ∙ cleared_so_far.config;
      words = c.clear.ensures.words (Answer mutator) word (sym answer_place)
          ∙ ap (λ (config : Config). cleared_at config (memory_of image_now) (Answer mutator)) cleared_so_far.config
          ∙ ap (λ (memory : Word → ℕ). cleared_at config memory (Answer mutator)) cleared_so_far.words
          ∙ row_next config memory Answer mutator;
    }
