use Rattle.std.proofs.Common.{◌<◌, sym, ap, ◌∙◌, subst}
use Rattle.heap_words.specs.declared.config.Config.{Config}
use Rattle.heap_words.specs.Words.{Wait, Answer, write}
use Rattle.image_graph.specs.State.{config_of, memory_of}
use Rattle.image_graph.proofs.NamedStores.{stored}
use Rattle.full_cycle.proofs.refuse.refuse_one.Goals as goal

pub returns-clause-waits : goal.returns-clause-waits
returns-clause-waits c = λ _.
    let mutator = c.args.mutator in
    let old = c.args.image.now in
    let written = c.set_word.new.self in
    let inside : mutator < c.config-config.result.mutators = subst (λ (config : Config). mutator < config.mutators) (sym c.config-config.ensures) c.requires in
    stored (config_of written) c.config-config.result (memory_of written) (memory_of c.set_word-2.new.self) (Wait mutator) c.wait_at-2.result 0
    (c.set_word.ensures.config ∙ sym c.config-config.ensures) inside c.wait_at-2.ensures c.set_word-2.ensures.named
    ∙ ap (λ memory. write memory (Wait mutator) 0)
    (stored (config_of old) c.config-config.result (memory_of old) (memory_of written) (Answer mutator) c.answer_at.result 1
    (sym c.config-config.ensures) inside c.answer_at.ensures c.set_word.ensures.named)
