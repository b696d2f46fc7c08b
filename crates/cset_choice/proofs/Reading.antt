-- Words that are read at their places, and parts of the heap.
use Rattle.std.proofs.Common.{◌≡◌, ℕ, ◌+◌, ◌<◌, sym, ap, ◌∙◌, subst, arith}
use Rattle.heap_words.specs.declared.config.Config.{Config}
use Rattle.heap_words.specs.Words.{Word, Heap, IsWord, word_at}
use Rattle.image_graph.specs.Make.{AreInHeap}

-- what was read at the place of a word is the word
pub read : (config other_config : Config) (memory : Word → ℕ) (word : Word) (place value : ℕ) → other_config ≡ config → IsWord config word → place ≡ word_at other_config word
    → ((other_word : Word) → IsWord config other_word → word_at config other_word ≡ place → value ≡ memory other_word) → value ≡ memory word
read config other_config memory word place value same_config word_is place_is named = named word word_is (ap (λ (config : Config). word_at config word) (sym same_config) ∙ sym place_is)

-- a word of a part of the heap
pub word_in : (config other_config : Config) (address words offset : ℕ) → other_config ≡ config → AreInHeap config address words → offset < words → IsWord other_config (Heap (address + offset))
word_in config other_config address words offset same_config words_inside offset_below = subst (λ (config : Config). IsWord config (Heap (address + offset))) (sym same_config) (omega (arith, words_inside.from), omega (arith, words_inside.to, offset_below))

pub first_in : (config other_config : Config) (address words : ℕ) → other_config ≡ config → AreInHeap config address words → 0 < words → IsWord other_config (Heap address)
first_in config other_config address words same_config words_inside some_words = subst (λ (config : Config). IsWord config (Heap address)) (sym same_config) (words_inside.from, omega (arith, words_inside.to, some_words))
