-- Words that are read at their places.
use Rattle.std.proofs.Common.{◌≡◌, ℕ, sym, ap, ◌∙◌}
use Rattle.heap_words.specs.declared.config.Config.{Config}
use Rattle.heap_words.specs.Words.{Word, IsWord, word_at}

-- what was read at the place of a word is the word
pub read : (config other_config : Config) (memory : Word → ℕ) (word : Word) (word_place value : ℕ) → other_config ≡ config → IsWord config word → word_place ≡ word_at other_config word
    → ((other_word : Word) → IsWord config other_word → word_at config other_word ≡ word_place → value ≡ memory other_word) → value ≡ memory word
read config other_config memory word word_place value same_config word_there same_place named = named word word_there (ap (λ (config : Config). word_at config word) (sym same_config) ∙ sym same_place)
