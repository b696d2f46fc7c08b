use Rattle.std.proofs.Common.{◌≡◌, ap, ◌∙◌, arith}
use Rattle.heap_words.specs.declared.config.Config.{Config}
use Rattle.heap_words.specs.Words.{Grey, word_at}
use Rattle.image_graph.specs.State.{config_of, words_of}
use Rattle.mark_core.proofs.NextMarked.{some_marks, grey_in_row}
use Rattle.mark_core.proofs.look.next_grey.Goals as goal

pub grey_at-requires : goal.grey_at-requires
grey_at-requires c = some_marks c.config.result

pub returns-clause-none : goal.returns-clause-none
returns-clause-none c = λ address from address_below.
    let config = config_of c.args.image.now in
    let start : c.grey_at.result ≡ word_at config (Grey 0) = c.grey_at.ensures ∙ ap (λ (config : Config). word_at config (Grey 0)) c.config.ensures in
    grey_in_row config (words_of c.args.image.now) c.grey_at.result address 0
    (omega (arith, c.requires.above, from), omega (arith, c.requires.inside, address_below, c.next_marked.ensures.end))
    (c.next_marked.ensures.none address from address_below) start

pub returns-clause-grey : goal.returns-clause-grey
returns-clause-grey c = λ found_below.
    let config = config_of c.args.image.now in
    let start : c.grey_at.result ≡ word_at config (Grey 0) = c.grey_at.ensures ∙ ap (λ (config : Config). word_at config (Grey 0)) c.config.ensures in
    grey_in_row config (words_of c.args.image.now) c.grey_at.result c.next_marked.result 1
    (omega (arith, c.requires.above, c.next_marked.ensures.from), omega (arith, c.requires.inside, found_below))
    (c.next_marked.ensures.marked found_below) start
