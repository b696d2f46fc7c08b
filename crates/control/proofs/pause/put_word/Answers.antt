use Rattle.std.proofs.Common.{◌≡◌, ◌∙◌, ◌+◌, ◌<◌, drop, get_or, set, ap, subst, arith}
use Rattle.std.proofs.lemmas.List.{drop-set-add, get_or-set_other}
use Rattle.heap_words.specs.Words.{image_start}
use Rattle.image_graph.specs.State.{config_of, words_of}
use Rattle.control.proofs.pause.put_word.Goals as goal

pub returns-clause-config : goal.returns-clause-config
returns-clause-config c = c.set_word.ensures.config

pub returns-clause-image : goal.returns-clause-image
returns-clause-image c =
    let config = config_of c.args.image.now in
    let words = words_of c.args.image.now in
    let start = c.image_start-start.ensures.value ∙ ap image_start c.config.ensures in
    ap (λ asked_config. drop (image_start asked_config) (words_of c.set_word.new.self)) c.set_word.ensures.config ∙ ap (drop (image_start config)) c.set_word.ensures.words
    ∙ ap (λ first_index. drop (image_start config) (set words (first_index + c.args.index) c.args.word)) start ∙ drop-set-add (image_start config) words c.args.index c.args.word

pub returns-clause-clear : goal.returns-clause-clear
returns-clause-clear c place place_below =
    let config = config_of c.args.image.now in
    let words = words_of c.args.image.now in
    let start : c.image_start-start.result ≡ image_start config = c.image_start-start.ensures.value ∙ ap image_start c.config.ensures in
    let before : place < image_start config = subst (λ asked_config. place < image_start asked_config) c.set_word.ensures.config place_below in
    ap (λ word_list. get_or word_list place 0) c.set_word.ensures.words
    ∙ get_or-set_other words (c.image_start-start.result + c.args.index) place c.args.word 0 (omega (arith, start, before)) ∙ c.requires.clear place before
