use Rattle.std.proofs.Common.{◌<◌, ◌≤◌, [], ◌∷◌, ◌++◌, take, sym, ap, ◌∙◌, subst}
use Rattle.std.proofs.lemmas.List.{take_more, take_all}
use Rattle.heap_words.specs.Words.{table_words}
use Rattle.heap_machines.proofs.from_image.words_from.Goals as goal

pub loop-at-init : goal.loop-at-init
loop-at-init c = c.new-words.ensures.items

pub word-requires : goal.word-requires
word-requires c = subst (λ bound. c.loop-at.at < bound) (c.table_words-at-end.ensures ∙ ap table_words c.config.ensures) c.loop-at-test.true

pub loop-at-preserved : goal.loop-at-preserved
loop-at-preserved c =
    let image = c.args.image.now in
    let index = c.loop-at.at in
    c.in-Ok.ensures.items
    ∙ ap (λ xs. xs ++ c.word.result ∷ []) c.loop-at.invariant
    ∙ ap (λ word. take index image.words.items ++ word ∷ []) c.word.ensures.value
    ∙ sym (take_more image.words.items index 0 (subst (λ bound. index < bound) (c.table_words-at-end.ensures ∙ ap table_words c.config.ensures ∙ sym image.all_words) c.loop-at-test.true))

pub returns : goal.returns
returns c =
    let image = c.args.image.now in
    let index = c.loop-at.at in
    c.loop-at.invariant ∙ take_all index image.words.items (subst (λ bound. bound ≤ index) (c.table_words-at-end.ensures ∙ ap table_words c.config.ensures ∙ sym image.all_words) c.loop-at-test.false)
