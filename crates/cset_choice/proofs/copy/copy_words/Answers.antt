use Rattle.image_graph.proofs.HeapParts.{low_in}
use Rattle.cset_choice.proofs.Reading.{word_in}
use Rattle.std.proofs.Common.{◌≡◌, ◌+◌, ℕ, sym, ap, ◌∙◌, subst, arith}
use Rattle.heap_words.specs.declared.config.Config.{Config}
use Rattle.heap_words.specs.Words.{Word, Heap, IsWord, word_at, write}
use Rattle.image_graph.specs.State.{config_of, memory_of}
use Rattle.image_graph.proofs.NamedStores.{stored, placed_inside}
use Rattle.cset_choice.specs.Steps.{words_copied}
use Rattle.cset_choice.proofs.Objects.{word_of_heap}
use Rattle.cset_choice.proofs.CopyStores.{none_copied, still_there, copied_next}
use Rattle.cset_choice.proofs.copy.copy_words.Goals as goal

pub loop-index-init : goal.loop-index-init
loop-index-init c = record { config = search; words = none_copied c.args.from c.args.to (memory_of c.args.image.now) }

pub loop-index-preserved : goal.loop-index-preserved
loop-index-preserved c =
    let config = config_of c.args.image.now in
    let memory : Word → ℕ = memory_of c.args.image.now in
    let from = c.args.from in
    let copy = c.args.to in
    let index = c.loop-index.index in
    let image_now = c.loop-index.image in
    let copied_so_far = c.loop-index.invariant in
    let same_config : c.config-config.result ≡ config = c.config-config.ensures in
    let source : IsWord config (Heap (from + index)) = word_of_heap config from c.args.words index c.requires.from c.loop-index-test.true in
    let target : IsWord config (Heap (copy + index)) = word_of_heap config copy c.args.words index c.requires.to c.loop-index-test.true in
    let read : c.word-word.result ≡ memory (Heap (from + index)) =
    c.word-word.ensures.named (Heap (from + index)) (subst (λ (config : Config). IsWord config (Heap (from + index))) (sym copied_so_far.config) source)
    (ap (λ (config : Config). word_at config (Heap (from + index))) (copied_so_far.config ∙ sym same_config) ∙ sym c.heap_at.ensures)
    ∙ ap (λ (memory : Word → ℕ). memory (Heap (from + index))) copied_so_far.words
    ∙ still_there from copy index c.args.words memory c.loop-index-test.true c.requires.apart in
    let stored_word = stored (config_of image_now) c.config-config.result (memory_of image_now) (memory_of c.set_word.new.self) (Heap (copy + index)) c.heap_at-in-loop-index.result c.word-word.result
    (copied_so_far.config ∙ sym same_config) (subst (λ (config : Config). IsWord config (Heap (copy + index))) (sym same_config) target) c.heap_at-in-loop-index.ensures c.set_word.ensures.named in
    record {
      config = c.set_word.ensures.config ∙ copied_so_far.config;
      words = stored_word
          ∙ ap (λ written. write written (Heap (copy + index)) c.word-word.result) copied_so_far.words
          ∙ ap (write (words_copied from copy index memory) (Heap (copy + index))) read
          ∙ copied_next from copy index c.args.words memory c.loop-index-test.true c.requires.apart;
    }

pub returns-clause-words : goal.returns-clause-words
returns-clause-words c =
    let all_words : c.loop-index.index ≡ c.args.words = omega (arith, c.loop-index-test.false, c.loop-index.auto.index-end) in
    c.loop-index.invariant.words ∙ ap (λ words. words_copied c.args.from c.args.to words (memory_of c.args.image.now)) all_words

pub overflow_add-from : goal.overflow_add-from
overflow_add-from c = omega (arith, low_in _ _ _ c.requires.from, c.loop-index-test.true)

pub heap_at-requires : goal.heap_at-requires
heap_at-requires c = word_in (config_of c.args.image.now) c.config-config.result c.args.from c.args.words c.loop-index.index c.config-config.ensures c.requires.from c.loop-index-test.true

pub word-word-requires : goal.word-word-requires
word-word-requires c =
    placed_inside (config_of c.loop-index.image) c.config-config.result (Heap (c.args.from + c.loop-index.index)) _ (c.loop-index.invariant.config ∙ sym c.config-config.ensures)
    (word_in (config_of c.args.image.now) c.config-config.result c.args.from c.args.words c.loop-index.index c.config-config.ensures c.requires.from c.loop-index-test.true) c.heap_at.ensures

pub overflow_add-to : goal.overflow_add-to
overflow_add-to c = omega (arith, low_in _ _ _ c.requires.to, c.loop-index-test.true)

pub heap_at-requires-in-loop-index : goal.heap_at-requires-in-loop-index
heap_at-requires-in-loop-index c = word_in (config_of c.args.image.now) c.config-config.result c.args.to c.args.words c.loop-index.index c.config-config.ensures c.requires.to c.loop-index-test.true

pub set_word-requires : goal.set_word-requires
set_word-requires c =
    placed_inside (config_of c.loop-index.image) c.config-config.result (Heap (c.args.to + c.loop-index.index)) _ (c.loop-index.invariant.config ∙ sym c.config-config.ensures)
    (word_in (config_of c.args.image.now) c.config-config.result c.args.to c.args.words c.loop-index.index c.config-config.ensures c.requires.to c.loop-index-test.true) c.heap_at-in-loop-index.ensures

pub returns-clause-config : goal.returns-clause-config
returns-clause-config c = c.loop-index.invariant.config
