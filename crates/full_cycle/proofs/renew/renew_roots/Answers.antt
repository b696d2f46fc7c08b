use Rattle.std.proofs.Common.{◌≡◌, ◌<◌, ℕ, get_or, sym, ap, ◌∙◌, subst, arith}
use Rattle.heap_words.specs.declared.config.Config.{Config}
use Rattle.heap_words.specs.Words.{Root, Count, Answer, Grey, word_at, view}
use Rattle.regions.specs.Table.{IsInTable}
use Rattle.image_graph.specs.State.{config_of, words_of, places_of}
use Rattle.full_cycle.specs.Steps.{renewed_by, IsChanged}
use Rattle.full_cycle.proofs.TableRows.{roots_are_renewed}
use Rattle.full_cycle.proofs.RangeWords.{changed_to, roots_row, answers_row, behind_range}
use Rattle.full_cycle.proofs.renew.renew_roots.Goals as goal

pub renew_words-requires-clause-table : goal.renew_words-requires-clause-table
renew_words-requires-clause-table c = λ index low high some_word.
    let old = c.args.image.now in
    let config = config_of old in
    let from : c.root_at.result ≡ word_at config (Root 0 0) = c.root_at.ensures ∙ ap (λ (config : Config). word_at config (Root 0 0)) c.config-config.ensures in
    let end_place : c.count_at.result ≡ word_at config (Count 0) = c.count_at.ensures ∙ ap (λ (config : Config). word_at config (Count 0)) c.config-config.ensures in
    roots_row config (words_of old) (IsInTable config.region_words (places_of old)) c.requires.roots index (omega (arith, from, low)) (omega (arith, end_place, high))

pub renew_words-requires-2-clause-table : goal.renew_words-requires-2-clause-table
renew_words-requires-2-clause-table c = λ index low high some_word.
    let old = c.args.image.now in
    let config = config_of old in
    let first_image = c.renew_words.new.image in
    let end : c.count_at.result ≡ word_at config (Count 0) = c.count_at.ensures ∙ ap (λ (config : Config). word_at config (Count 0)) c.config-config.ensures in
    let from : c.answer_at.result ≡ word_at config (Answer 0) = c.answer_at.ensures ∙ ap (λ (config : Config). word_at config (Answer 0)) c.config-config.ensures in
    let end_place : c.grey_at.result ≡ word_at config (Grey 0) = c.grey_at.ensures ∙ ap (λ (config : Config). word_at config (Grey 0)) c.config-config.ensures in
    let stays : get_or (words_of first_image) index 0 ≡ get_or (words_of old) index 0 =
    behind_range c.root_at.result c.count_at.result index (renewed_by config.region_words (places_of old)) (words_of old) (words_of first_image) c.renew_words.ensures.words (omega (arith, end, from, low)) in
    let word_before : 1 < get_or (words_of old) index 0 = omega (arith, stays, some_word) in
    let P : ℕ → Type 0 = λ word. 1 < word → IsInTable config.region_words (places_of old) word in
    let in_table : IsInTable config.region_words (places_of old) (get_or (words_of old) index 0) =
    answers_row config (words_of old) P c.requires.answers index (omega (arith, from, low)) (omega (arith, end_place, high)) word_before in
    subst (λ (config : Config). IsInTable config.region_words (places_of first_image) (get_or (words_of first_image) index 0)) (sym c.renew_words.ensures.config)
    (subst (λ places. IsInTable config.region_words places (get_or (words_of first_image) index 0)) (sym c.renew_words.ensures.places)
    (subst (IsInTable config.region_words (places_of old)) (sym stays) in_table))

pub returns-clause-words : goal.returns-clause-words
returns-clause-words c =
    let old = c.args.image.now in
    let config = config_of old in
    let first_image = c.renew_words.new.image in
    let second_image = c.renew_words-2.new.image in
    let same_config : c.config-config.result ≡ config = c.config-config.ensures in
    let roots_changed = changed_to _ _ _ _ (renewed_by config.region_words (places_of old)) (words_of old) (words_of first_image)
    (c.root_at.ensures ∙ ap (λ (config : Config). word_at config (Root 0 0)) same_config) (c.count_at.ensures ∙ ap (λ (config : Config). word_at config (Count 0)) same_config) c.renew_words.ensures.words in
    let second_change : IsChanged c.answer_at.result c.grey_at.result (renewed_by config.region_words (places_of old)) (words_of first_image) (words_of second_image) =
    subst (λ (config : Config). IsChanged c.answer_at.result c.grey_at.result (renewed_by config.region_words (places_of old)) (words_of first_image) (words_of second_image)) c.renew_words.ensures.config
    (subst (λ places. IsChanged c.answer_at.result c.grey_at.result (renewed_by (config_of first_image).region_words places) (words_of first_image) (words_of second_image)) c.renew_words.ensures.places c.renew_words-2.ensures.words) in
    let answers_changed = changed_to _ _ _ _ (renewed_by config.region_words (places_of old)) (words_of first_image) (words_of second_image)
    (c.answer_at.ensures ∙ ap (λ (config : Config). word_at config (Answer 0)) same_config) (c.grey_at.ensures ∙ ap (λ (config : Config). word_at config (Grey 0)) same_config) second_change in
    ap (λ (config : Config). view config (words_of second_image)) (c.renew_words-2.ensures.config ∙ c.renew_words.ensures.config)
    ∙ roots_are_renewed config (places_of old) (words_of old) (words_of first_image) (words_of second_image) roots_changed answers_changed
