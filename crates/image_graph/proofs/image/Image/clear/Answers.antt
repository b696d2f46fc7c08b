use Rattle.std.proofs.Common.{◌≡◌, ◌+◌, sym, ap, ◌∙◌, subst, arith}
use Rattle.heap_words.specs.Words.{Heap, IsWord, write}
use Rattle.image_graph.specs.State.{config_of, memory_of}
use Rattle.image_graph.specs.Make.{heap_cleared}
use Rattle.image_graph.proofs.NamedStores.{stored, placed_inside, cleared_none, cleared_next}
use Rattle.image_graph.proofs.image.Image.clear.Goals as goal

pub set_word-requires : goal.set_word-requires
set_word-requires c =
    let old = c.args.self.now in
    let is_word : IsWord (config_of old) (Heap (c.args.address + c.loop-index.index)) = (omega (arith, c.requires.inside.from), omega (arith, c.requires.inside.to, c.loop-index-test.true)) in
    placed_inside (config_of c.loop-index.self) c.config-config.result (Heap (c.args.address + c.loop-index.index)) c.heap_at.result
    (c.loop-index.invariant.config ∙ sym c.config-config.ensures)
    (subst (λ config. IsWord config (Heap (c.args.address + c.loop-index.index))) (sym c.config-config.ensures) is_word) c.heap_at.ensures

pub loop-index-init : goal.loop-index-init
loop-index-init c = record { config = search; words = cleared_none c.args.address (memory_of c.args.self.now) }

pub loop-index-preserved : goal.loop-index-preserved
loop-index-preserved c =
    let old = c.args.self.now in
    let address = c.args.address + c.loop-index.index in
    let is_word : IsWord (config_of old) (Heap address) = (omega (arith, c.requires.inside.from), omega (arith, c.requires.inside.to, c.loop-index-test.true)) in
    let word_written : memory_of c.set_word.new.self ≡ write (memory_of c.loop-index.self) (Heap address) 0 =
    stored (config_of c.loop-index.self) c.config-config.result (memory_of c.loop-index.self) (memory_of c.set_word.new.self) (Heap address) c.heap_at.result 0
    (c.loop-index.invariant.config ∙ sym c.config-config.ensures)
    (subst (λ asked_config. IsWord asked_config (Heap address)) (sym c.config-config.ensures) is_word) c.heap_at.ensures c.set_word.ensures.named in
    record {
      config = c.set_word.ensures.config ∙ c.loop-index.invariant.config;
      words = word_written ∙ ap (λ some_memory. write some_memory (Heap address) 0) c.loop-index.invariant.words ∙ cleared_next c.args.address c.loop-index.index (memory_of old);
    }

pub returns-clause-words : goal.returns-clause-words
returns-clause-words c =
    let all_cleared : c.loop-index.index ≡ c.args.words = omega (arith, c.loop-index-test.false, c.loop-index.auto.index-end) in
    c.loop-index.invariant.words ∙ ap (λ words. heap_cleared c.args.address words (memory_of c.args.self.now)) all_cleared
