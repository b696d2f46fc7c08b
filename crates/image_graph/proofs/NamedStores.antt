-- Stores by the names of words, and what several of them make.
use Rattle.std.proofs.Common.{◌≡◌, ℕ, ◌+◌, ◌<◌, ◌≤◌, ◌&&◌, ◌==◌, nat_le, nat_lt, cond, bit_and, refl, sym, ap, ◌∙◌, subst, arith}
use Rattle.std.proofs.lemmas.Bool.Decides.{nat_tests}
use Rattle.std.proofs.Math.Path.{fun_ext}
use Rattle.heap_words.specs.declared.config.Config.{Config}
use Rattle.heap_words.specs.Words.{Word, Top, Free, Wait, Answer, Heap, IsWord, word_at, table_words, write}
use Rattle.heap_words.specs.Encoding.{object_words, request_shape_in, request_count_in, name_code}
use Rattle.heap_words.proofs.Rows.{word_inside}
use Rattle.regions.specs.Place.{base_of}
use Rattle.regions.specs.Sets.{all_but}
use Rattle.image_graph.specs.Full.{made_in}
use Rattle.image_graph.specs.Make.{heap_cleared}

-- a store at the place of a word is a store at its name
pub stored : (config code_config : Config) (before after : Word → ℕ) (stored_word : Word) (word_place value : ℕ) → config ≡ code_config → IsWord code_config stored_word → word_place ≡ word_at code_config stored_word
    → ((word : Word) → IsWord config word → word_at config word ≡ word_place → after ≡ write before word value) → after ≡ write before stored_word value
stored config code_config before after word word_place value same_config inside_table place named =
    named word (subst (λ some_config. IsWord some_config word) (sym same_config) inside_table) (ap (λ some_config. word_at some_config word) same_config ∙ sym place)

-- and lies in the table
pub placed_inside : (config code_config : Config) (word : Word) (word_place : ℕ) → config ≡ code_config → IsWord code_config word → word_place ≡ word_at code_config word → word_place < table_words config
placed_inside config code_config word word_place same_config inside_table place = omega (arith, word_inside code_config word inside_table, ap table_words same_config, place)

-- Clearing.

cleared_none_at : (address : ℕ) (memory : Word → ℕ) (word : Word) → memory word ≡ heap_cleared address 0 memory word
cleared_none_at address memory (Heap read_address) = grind (arith, nat_tests)
cleared_none_at address memory _ = refl

pub cleared_none : (address : ℕ) (memory : Word → ℕ) → memory ≡ heap_cleared address 0 memory
cleared_none address memory = fun_ext (λ word. cleared_none_at address memory word)

clear_one : (start count asked_address old_word : ℕ) → cond (start + count == asked_address) 0 (cond (nat_le start asked_address && nat_lt asked_address (start + count)) 0 old_word) ≡ cond (nat_le start asked_address && nat_lt asked_address (start + (count + 1))) 0 old_word
clear_one start count asked_address old_word = grind (arith, nat_tests)

cleared_next_at : (address words : ℕ) (memory : Word → ℕ) (word : Word) → write (heap_cleared address words memory) (Heap (address + words)) 0 word ≡ heap_cleared address (words + 1) memory word
cleared_next_at address words memory (Heap read_address) = clear_one address words read_address (memory (Heap read_address))
cleared_next_at address words memory _ = refl

pub cleared_next : (address words : ℕ) (memory : Word → ℕ) → write (heap_cleared address words memory) (Heap (address + words)) 0 ≡ heap_cleared address (words + 1) memory
cleared_next address words memory = fun_ext (λ word. cleared_next_at address words memory word)

-- Making an object.

heap_made : (start words shape name before asked_address : ℕ) → 3 ≤ words
    → cond (start + 2 == asked_address) name (cond (start + 1 == asked_address) shape (cond (start == asked_address) 1 (cond (nat_le start asked_address && nat_lt asked_address (start + words)) 0 before)))
    ≡ cond (nat_le start asked_address && nat_lt asked_address (start + words)) (cond (start == asked_address) 1 (cond (start + 1 == asked_address) shape (cond (start + 2 == asked_address) name 0))) before
heap_made start words shape name before asked_address at_most = grind (arith, nat_tests)

-- the words after these stores
abbrev pub made_by_stores : (Word → ℕ) → (mutator region address shape name top free_bits : ℕ) → Word → ℕ
made_by_stores memory mutator region address shape name top free_bits =
    write (write (write (write (write (write (write (heap_cleared address (object_words shape) memory) (Heap address) 1) (Heap (address + 1)) shape) (Heap (address + 2)) name)
    (Top region) top) Free free_bits) (Answer mutator) address) (Wait mutator) 0

made_at : (config : Config) (memory : Word → ℕ) (mutator region : ℕ) (word : Word)
    → made_by_stores memory mutator region (base_of config region + memory (Top region)) (request_shape_in (memory (Wait mutator))) (name_code (mutator + 1) (request_count_in (memory (Wait mutator))))
    (memory (Top region) + object_words (request_shape_in (memory (Wait mutator)))) (bit_and (memory Free) (all_but region)) word ≡ made_in config memory mutator region word
unfolding made_in
made_at config memory mutator region (Heap address) =
    heap_made (base_of config region + memory (Top region)) (object_words (request_shape_in (memory (Wait mutator)))) (request_shape_in (memory (Wait mutator)))
    (name_code (mutator + 1) (request_count_in (memory (Wait mutator)))) (memory (Heap address)) address (omega arith)
made_at config memory mutator region _ = refl

pub made_steps : (config : Config) (memory : Word → ℕ) (mutator region address shape name top free_bits : ℕ)
    → address ≡ base_of config region + memory (Top region) → shape ≡ request_shape_in (memory (Wait mutator)) → name ≡ name_code (mutator + 1) (request_count_in (memory (Wait mutator)))
    → top ≡ memory (Top region) + object_words shape → free_bits ≡ bit_and (memory Free) (all_but region)
    → made_by_stores memory mutator region address shape name top free_bits ≡ made_in config memory mutator region
made_steps config memory mutator region address shape name top free_bits same_address same_shape named grown taken =
    let top_is : top ≡ memory (Top region) + object_words (request_shape_in (memory (Wait mutator))) = grown ∙ ap (λ some_shape. memory (Top region) + object_words some_shape) same_shape in
    ap (λ address. made_by_stores memory mutator region address shape name top free_bits) same_address
    ∙ ap (λ shape. made_by_stores memory mutator region (base_of config region + memory (Top region)) shape name top free_bits) same_shape
    ∙ ap (λ name. made_by_stores memory mutator region (base_of config region + memory (Top region)) (request_shape_in (memory (Wait mutator))) name top free_bits) named
    ∙ ap (λ top. made_by_stores memory mutator region (base_of config region + memory (Top region)) (request_shape_in (memory (Wait mutator))) (name_code (mutator + 1) (request_count_in (memory (Wait mutator)))) top free_bits) top_is
    ∙ ap (λ free_bits. made_by_stores memory mutator region (base_of config region + memory (Top region)) (request_shape_in (memory (Wait mutator))) (name_code (mutator + 1) (request_count_in (memory (Wait mutator))))
    (memory (Top region) + object_words (request_shape_in (memory (Wait mutator)))) free_bits) taken
    ∙ fun_ext (λ word. made_at config memory mutator region word)
