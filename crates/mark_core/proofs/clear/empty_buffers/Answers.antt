use Rattle.std.proofs.Common.{◌≡◌, ◌<◌, ap, ◌∙◌, arith}
use Rattle.heap_words.specs.declared.config.Config.{Config}
use Rattle.heap_words.specs.Words.{Count, word_at, write}
use Rattle.image_graph.specs.State.{config_of, memory_of}
use Rattle.image_graph.proofs.NamedStores.{stored}
use Rattle.mark_core.specs.Steps.{emptied}
use Rattle.mark_core.proofs.LoopTurns.{emptied_next}
use Rattle.mark_core.proofs.clear.empty_buffers.Goals as goal

pub loop-mutator-preserved : goal.loop-mutator-preserved
loop-mutator-preserved c =
    let config = config_of c.args.image.now in
    let mutator = c.loop-mutator.mutator in
    let mutator_below : mutator < config.mutators = omega (arith, c.loop-mutator-test.true, c.mutators-mutator-end.ensures, ap (λ (config : Config). config.mutators) c.config-config.ensures) in
    let one_stored = stored (config_of c.loop-mutator.image) config (memory_of c.loop-mutator.image) (memory_of c.set_word.new.self) (Count mutator) c.count_at.result 0
    c.loop-mutator.invariant.config mutator_below (c.count_at.ensures ∙ ap (λ (config : Config). word_at config (Count mutator)) c.config-config.ensures) c.set_word.ensures.named in
    record {
      config = c.set_word.ensures.config ∙ c.loop-mutator.invariant.config;
      words = one_stored ∙ ap (λ memory_then. write memory_then (Count mutator) 0) c.loop-mutator.invariant.words ∙ emptied_next mutator (memory_of c.args.image.now);
    }

pub returns-clause-words : goal.returns-clause-words
returns-clause-words c =
    let all_mutators : c.loop-mutator.mutator ≡ (config_of c.args.image.now).mutators =
    omega (arith, c.loop-mutator-test.false, c.loop-mutator.auto.mutator-end, c.mutators-mutator-end.ensures, ap (λ (config : Config). config.mutators) c.config-config.ensures) in
    c.loop-mutator.invariant.words ∙ ap (λ count. emptied count (memory_of c.args.image.now)) all_mutators
