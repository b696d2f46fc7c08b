use Rattle.std.proofs.Common.{◌≡◌, ◌+◌, ℕ, refl, sym, ap, ◌∙◌, subst, arith}
use Rattle.heap_words.specs.declared.config.Config.{Config}
use Rattle.heap_words.specs.Words.{Word, Root, IsWord, write}
use Rattle.shen_graph.specs.GraphText.{root_of}
use Rattle.image_graph.specs.State.{config_of, memory_of}
use Rattle.image_graph.proofs.NamedStores.{stored}
use Rattle.graph_placing.specs.PlacedHeap.{word_for}
use Rattle.graph_placing.specs.Writing.{roots_stored}
use Rattle.graph_placing.proofs.Written.{stored_none, stored_more}
use Rattle.graph_placing.proofs.roots.store_roots_of.Goals as goal

pub loop-index-init : goal.loop-index-init
loop-index-init c = record { config = refl; words = stored_none (config_of c.args.image.now) c.args.text.now c.args.mutator (memory_of c.args.image.now) }

pub loop-index-preserved : goal.loop-index-preserved
loop-index-preserved c =
    let config = config_of c.args.image.now in
    let text = c.args.text.now in
    let mutator = c.args.mutator in
    let index = c.loop-index.index in
    let same_config : c.config-config.result ≡ config = c.config-config.ensures in
    let is_word : IsWord config (Root mutator index) = (c.requires.mutator, c.loop-index-test.true) in
    let root_written : memory_of c.set_word.new.self ≡ write (memory_of c.loop-index.image) (Root mutator index) c.word_for-word.result =
    stored (config_of c.loop-index.image) c.config-config.result (memory_of c.loop-index.image) (memory_of c.set_word.new.self) (Root mutator index) c.root_at.result c.word_for-word.result
    (c.loop-index.invariant.config ∙ sym same_config) (subst (λ (config : Config). IsWord config (Root mutator index)) (sym same_config) is_word) c.root_at.ensures c.set_word.ensures.named in
    let word : c.word_for-word.result ≡ word_for config text (root_of text (mutator + 1) index) = c.word_for-word.ensures ∙ ap (λ (config : Config). word_for config text c.root_at-root.result) same_config ∙ ap (word_for config text) c.root_at-root.ensures in
    record {
      config = c.set_word.ensures.config ∙ c.loop-index.invariant.config;
      words = root_written ∙ ap (λ (memory : Word → ℕ). write memory (Root mutator index) c.word_for-word.result) c.loop-index.invariant.words
          ∙ ap (write (roots_stored config text mutator index (memory_of c.args.image.now)) (Root mutator index)) word ∙ stored_more config text mutator index (memory_of c.args.image.now);
    }

pub returns-clause-words : goal.returns-clause-words
returns-clause-words c =
    let all_roots : c.loop-index.index ≡ 16 = omega (arith, c.loop-index-test.false, c.loop-index.auto.index-end) in
    c.loop-index.invariant.words ∙ ap (λ (roots : ℕ). roots_stored (config_of c.args.image.now) c.args.text.now c.args.mutator roots (memory_of c.args.image.now)) all_roots
