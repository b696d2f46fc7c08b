use Rattle.std.proofs.Common.{◌≡◌, ℕ, ap, ◌∙◌}
use Rattle.heap_words.specs.declared.config.Config.{Config}
use Rattle.heap_words.specs.Words.{Phase, Free, Evac, Top, Tams, Root, Count, Buffer, Grey, Share, word_at, view, write, heap_start}
use Rattle.image_graph.specs.State.{config_of, words_of}
use Rattle.image_graph.proofs.NamedStores.{stored}
use Rattle.full_cycle.proofs.TableRows.{calmed}
use Rattle.full_cycle.proofs.RangeWords.{changed_to}
use Rattle.full_cycle.proofs.calm.clear_collection.Goals as goal

pub returns-clause-words : goal.returns-clause-words
returns-clause-words c =
    let config = config_of c.args.image.now in
    let same_config : c.config-config.result ≡ config = c.config-config.ensures in
    let first_cleared = changed_to _ _ _ _ (λ (word : ℕ). 0) (words_of c.args.image.now) (words_of c.clear_words.new.image) (c.phase_at.ensures ∙ ap (λ (config : Config). word_at config Phase) same_config) (c.free_at.ensures ∙ ap (λ (config : Config). word_at config Free) same_config) c.clear_words.ensures.words in
    let second_cleared = changed_to _ _ _ _ (λ (word : ℕ). 0) (words_of c.clear_words.new.image) (words_of c.clear_words-2.new.image) (c.evac_at.ensures ∙ ap (λ (config : Config). word_at config Evac) same_config) (c.top_at.ensures ∙ ap (λ (config : Config). word_at config (Top 0)) same_config) c.clear_words-2.ensures.words in
    let third_cleared = changed_to _ _ _ _ (λ (word : ℕ). 0) (words_of c.clear_words-2.new.image) (words_of c.clear_words-3.new.image) (c.tams_at.ensures ∙ ap (λ (config : Config). word_at config (Tams 0)) same_config) (c.root_at.ensures ∙ ap (λ (config : Config). word_at config (Root 0 0)) same_config) c.clear_words-3.ensures.words in
    let fourth_cleared = changed_to _ _ _ _ (λ (word : ℕ). 0) (words_of c.clear_words-3.new.image) (words_of c.clear_words-4.new.image) (c.count_at.ensures ∙ ap (λ (config : Config). word_at config (Count 0)) same_config) (c.buffer_at.ensures ∙ ap (λ (config : Config). word_at config (Buffer 0 0)) same_config) c.clear_words-4.ensures.words in
    let fifth_cleared = changed_to _ _ _ _ (λ (word : ℕ). 0) (words_of c.clear_words-4.new.image) (words_of c.clear_words-5.new.image) (c.grey_at.ensures ∙ ap (λ (config : Config). word_at config (Grey 0)) same_config) (c.heap_start.ensures.value ∙ ap heap_start same_config) c.clear_words-5.ensures.words in
    let unchanged : config_of c.clear_words-5.new.image ≡ config =
    c.clear_words-5.ensures.config ∙ c.clear_words-4.ensures.config ∙ c.clear_words-3.ensures.config ∙ c.clear_words-2.ensures.config ∙ c.clear_words.ensures.config in
    let share = stored (config_of c.clear_words-5.new.image) config (view (config_of c.clear_words-5.new.image) (words_of c.clear_words-5.new.image)) _ Share c.share_at.result 0 unchanged tt
    (c.share_at.ensures ∙ ap (λ (config : Config). word_at config Share) same_config) c.set_word.ensures.named in
    share ∙ ap (λ (config : Config). write (view config (words_of c.clear_words-5.new.image)) Share 0) unchanged
    ∙ calmed config (words_of c.args.image.now) (words_of c.clear_words.new.image) (words_of c.clear_words-2.new.image) (words_of c.clear_words-3.new.image)
    (words_of c.clear_words-4.new.image) (words_of c.clear_words-5.new.image) first_cleared second_cleared third_cleared fourth_cleared fifth_cleared
