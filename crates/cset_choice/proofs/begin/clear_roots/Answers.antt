use Rattle.std.proofs.Common.{◌≡◌, ℕ, slice_index, refl, sym, ap, ◌∙◌, subst}
use Rattle.heap_words.specs.declared.config.Config.{Config}
use Rattle.heap_words.specs.Words.{Word, Root, IsWord, word_at}
use Rattle.heap_words.proofs.Stores.{view_word}
use Rattle.image_graph.specs.State.{config_of, words_of, memory_of}
use Rattle.cycle_words.specs.Evacuation.Begun.{CanClear, cleared_at}
use Rattle.cset_choice.proofs.ClearedInTurn.{row, row_none, row_next, row_can}
use Rattle.cset_choice.proofs.begin.clear_roots.Goals as goal

pub loop-index-init : goal.loop-index-init
loop-index-init c = record { config = refl; words = row_none (config_of c.args.image.now) (memory_of c.args.image.now) (Root c.args.mutator) }

pub clear-requires-clause-can : goal.clear-requires-clause-can
clear-requires-clause-can c =
    let config = config_of c.args.image.now in
    let memory : Word → ℕ = memory_of c.args.image.now in
    let mutator = c.args.mutator in
    let index = c.loop-index.index in
    let image_now = c.loop-index.image in
    let cleared_so_far = c.loop-index.invariant in
    let word : IsWord (config_of image_now) (Root mutator index) = subst (λ (config : Config). IsWord config (Root mutator index)) (sym cleared_so_far.config) (c.requires.mutator, c.loop-index-test.true) in
    let root_place : c.root_at.result ≡ word_at (config_of image_now) (Root mutator index) = c.root_at.ensures ∙ ap (λ (config : Config). word_at config (Root mutator index)) (c.config-config.ensures ∙ sym cleared_so_far.config) in
    let value : slice_index (words_of image_now) c.root_at.result ≡ memory_of image_now (Root mutator index) =
    ap (slice_index (words_of image_now)) root_place ∙ sym (view_word (config_of image_now) (words_of image_now) (Root mutator index) word) in
    let can_clear : CanClear config (row config memory (Root mutator) index) (memory_of image_now (Root mutator index)) =
    subst (λ (some_memory : Word → ℕ). CanClear config (row config memory (Root mutator) index) (some_memory (Root mutator index))) (sym cleared_so_far.words) (row_can config memory (Root mutator) 16 index c.loop-index-test.true c.requires.can) in
    subst (λ (config : Config). CanClear config (memory_of image_now) (slice_index (words_of image_now) c.root_at.result)) (sym cleared_so_far.config)
    (subst (λ (memory : Word → ℕ). CanClear config memory (slice_index (words_of image_now) c.root_at.result)) (sym cleared_so_far.words)
    (subst (CanClear config (row config memory (Root mutator) index)) (sym value) can_clear))

pub loop-index-preserved : goal.loop-index-preserved
loop-index-preserved c =
    let config = config_of c.args.image.now in
    let memory : Word → ℕ = memory_of c.args.image.now in
    let mutator = c.args.mutator in
    let index = c.loop-index.index in
    let image_now = c.loop-index.image in
    let cleared_so_far = c.loop-index.invariant in
    let word : IsWord (config_of image_now) (Root mutator index) = subst (λ (config : Config). IsWord config (Root mutator index)) (sym cleared_so_far.config) (c.requires.mutator, c.loop-index-test.true) in
    let root_place : c.root_at.result ≡ word_at (config_of image_now) (Root mutator index) = c.root_at.ensures ∙ ap (λ (config : Config). word_at config (Root mutator index)) (c.config-config.ensures ∙ sym cleared_so_far.config) in
    record {
      config = c.clear.ensures.config ∙ cleared_so_far.config;
      words = c.clear.ensures.words (Root mutator index) word (sym root_place)
          ∙ ap (λ (config : Config). cleared_at config (memory_of image_now) (Root mutator index)) cleared_so_far.config
          ∙ ap (λ (memory : Word → ℕ). cleared_at config memory (Root mutator index)) cleared_so_far.words
          ∙ row_next config memory (Root mutator) index;
    }
