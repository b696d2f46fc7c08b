use Rattle.std.proofs.Common.{◌≡◌, ◌<◌, sym, ap, ◌∙◌, subst, arith}
use Rattle.heap_words.specs.declared.config.Config.{Config}
use Rattle.heap_words.specs.Words.{Answer, word_at}
use Rattle.image_graph.specs.State.{config_of, memory_of}
use Rattle.full_cycle.specs.Collect.{LeadsToHeld}
use Rattle.full_cycle.proofs.walk.find_answer.Goals as goal

pub find_copy-requires-clause-leads : goal.find_copy-requires-clause-leads
find_copy-requires-clause-leads c =
    let mutator = c.args.mutator in
    let value : c.word-answer.result ≡ memory_of c.args.image.now (Answer mutator) =
    c.word-answer.ensures.named (Answer mutator) c.requires.mutator (ap (λ (config : Config). word_at config (Answer mutator)) (sym c.config-config.ensures) ∙ sym c.answer_at.ensures) in
    subst (LeadsToHeld (config_of c.args.image.now) (memory_of c.args.image.now)) (sym value)
    (c.requires.can.answers mutator c.requires.mutator (subst (λ answer. 1 < answer) value c.if-answer-le1.false))

pub returns-clause-none : goal.returns-clause-none
returns-clause-none c = λ small.
    let mutator = c.args.mutator in
    let value : c.word-answer.result ≡ memory_of c.args.image.now (Answer mutator) =
    c.word-answer.ensures.named (Answer mutator) c.requires.mutator (ap (λ (config : Config). word_at config (Answer mutator)) (sym c.config-config.ensures) ∙ sym c.answer_at.ensures) in
    absurd (omega (arith, value, small, c.if-answer-le1.false))
