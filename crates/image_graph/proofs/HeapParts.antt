-- Words that are read at their places, and parts of the heap.
use Rattle.std.proofs.Common.{◌≡◌, ℕ, ◌+◌, ◌*◌, ◌^◌, ◌<◌, ◌≤◌, List, length, sym, ap, ◌∙◌, subst, arith}
use Rattle.std.proofs.Math.Nat.{mul-le-mul}
use Rattle.std.proofs.lemmas.Grind.{common_steps}
use Rattle.heap_words.specs.declared.config.Config.{Config}
use Rattle.heap_words.specs.Words.{Word, Top, Wait, Heap, IsWord, word_at, table_words, heap_size, heap_in, roots_in, pins_in}
use Rattle.heap_words.specs.Encoding.{object_words, request_shape_in}
use Rattle.heap_words.proofs.Bounds.{end_small}
use Rattle.regions.specs.Place.{base_of}
use Rattle.image_graph.specs.Make.{AreInHeap}
use Rattle.image_graph.proofs.Room.{room_in_heap}

-- what was read at the place of a word is the word
pub read : (config read_config : Config) (memory : Word → ℕ) (word : Word) (position value : ℕ) → read_config ≡ config → IsWord config word → position ≡ word_at read_config word
    → ((any_word : Word) → IsWord config any_word → word_at config any_word ≡ position → value ≡ memory any_word) → value ≡ memory word
read config read_config memory word position value same_config is_word place named = named word is_word (ap (λ (config : Config). word_at config word) (sym same_config) ∙ sym place)

-- a word of a part of the heap, by its first address
pub word_in : (config read_config : Config) (address words index : ℕ) → read_config ≡ config → AreInHeap config address words → index < words → IsWord read_config (Heap (address + index))
word_in config read_config address words index same_config inside index_below = subst (λ (config : Config). IsWord config (Heap (address + index))) (sym same_config) (omega (arith, inside.from), omega (arith, inside.to, index_below))

pub first_in : (config read_config : Config) (address words : ℕ) → read_config ≡ config → AreInHeap config address words → 0 < words → IsWord read_config (Heap address)
first_in config read_config address words same_config inside positive = subst (λ (config : Config). IsWord config (Heap address)) (sym same_config) (inside.from, omega (arith, inside.to, positive))

-- no part of the heap has a large address
pub low_in : (config : Config) (address words : ℕ) → AreInHeap config address words → address + words < 2 ^ 32
low_in config address words inside = omega (arith, inside.to, end_small config)

-- no region has one
pub low_region : (config : Config) (region : ℕ) → region < config.regions → base_of config region + config.region_words < 2 ^ 32
low_region config region region_below =
    let region_end : (region + 2) * config.region_words ≤ (config.regions + 1) * config.region_words = mul-le-mul (omega (arith, region_below)) (omega arith) in
    omega (arith, region_end, end_small config)

-- a new object is of the heap, by what was read of it
pub made_inside : (config read_config : Config) (memory : Word → ℕ) (mutator region base top request shape words : ℕ) → read_config ≡ config → region < config.regions
    → memory (Top region) + object_words (request_shape_in (memory (Wait mutator))) ≤ config.region_words
    → base ≡ base_of read_config region → top ≡ memory (Top region) → request ≡ memory (Wait mutator) → shape ≡ request_shape_in request → words ≡ object_words shape
    → AreInHeap config (base + top) words
made_inside config read_config memory mutator region base top request shape words same_config region_below room placed used asked shape_is words_are =
    let base_is : base ≡ base_of config region = placed ∙ ap (λ (config : Config). base_of config region) same_config in
    let asked_words : words ≡ object_words (request_shape_in (memory (Wait mutator))) = words_are ∙ ap object_words (shape_is ∙ ap request_shape_in asked) in
    let room_inside = room_in_heap config region (memory (Top region)) (object_words (request_shape_in (memory (Wait mutator)))) region_below room in
    record { from = omega (arith, room_inside.from, base_is, used); to = omega (arith, room_inside.to, base_is, used, asked_words) }

-- how many words the heap, the roots and the pin slots of a table have
pub heap_length : (config : Config) (words : List ℕ) → length words ≡ table_words config → length (heap_in config words) ≡ heap_size config
heap_length config words whole_table = grind (arith, common_steps)

pub roots_length : (config : Config) (words : List ℕ) → length words ≡ table_words config → length (roots_in config words) ≡ 16 * config.mutators
roots_length config words whole_table = grind (arith, common_steps)

pub pins_length : (config : Config) (words : List ℕ) → length words ≡ table_words config → length (pins_in config words) ≡ 4 * config.mutators
pins_length config words whole_table = grind (arith, common_steps)
