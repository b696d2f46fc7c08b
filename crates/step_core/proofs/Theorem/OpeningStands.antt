-- The opening follows the empty history.
use Rattle.std.proofs.Common.{◌≡◌, ℕ, zero, suc, ◌+◌, ◌*◌, ◌<◌, ◌≤◌, ⊎_elim, true, false, List, length, refl, ap, ◌∙◌, subst, arith, replicate, add-zero}
use Rattle.std.proofs.Math.Path.{fun_ext}
use Rattle.std.proofs.lemmas.List.{length-set, get_or-replicate, length-replicate}
use Rattle.std.proofs.lemmas.Bool.{cases_Bool}
use Rattle.heap_words.specs.declared.config.Config.{Config}
use Rattle.heap_words.specs.Words.{Word, Left, Free, Top, Root, Heap, IsWord, is_word, word_at, view, write, table_words}
use Rattle.heap_words.proofs.Stores.{is_word_true, view_set_all}
use Rattle.heap_words.proofs.Rows.{word_inside}
use Rattle.std.proofs.Math.Nat.{mul-le-mul_right}
use Rattle.step_core.specs.Opening.{stored, rooted, first_free, opening_words}

-- a number stored at a word, by names
view-stored : (config : Config) (word : Word) (value : ℕ) (words : List ℕ) (memory : Word → ℕ) → IsWord config word → length words ≡ table_words config → view config words ≡ memory → view config (stored config word value words) ≡ write memory word value
view-stored config word value words memory word_there table_length same_memory = view_set_all config words word value table_length word_there ∙ ap (λ f. write f word value) same_memory

-- a store keeps the size of the table
length-stored : (config : Config) (word : Word) (value : ℕ) (words : List ℕ) → length words ≡ table_words config → length (stored config word value words) ≡ table_words config
length-stored config word value words table_length = length-set words _ _ ∙ table_length

-- the memory after the roots of so many mutators
abbrev pub rooted_memory : Config → ℕ → Word → ℕ
rooted_memory config zero = λ word. 0
rooted_memory config (suc mutator) = write (rooted_memory config mutator) (Root mutator 0) config.region_words

-- so do the stores into roots
length-rooted : (config : Config) (mutator : ℕ) (words : List ℕ) → length words ≡ table_words config → length (rooted config mutator words) ≡ table_words config
length-rooted config zero words table_length = table_length
length-rooted config (suc mutator) words table_length = length-stored config (Root mutator 0) config.region_words (rooted config mutator words) (length-rooted config mutator words table_length)

-- a table of zeros, by names
view-none : (config : Config) → view config (replicate (table_words config) 0) ≡ (λ word. 0)
view-none config = fun_ext (λ word. zero_word word)
  where
    zero_word : (word : Word) → view config (replicate (table_words config) 0) word ≡ 0
    zero_word word = ⊎_elim
        (λ (word_there : is_word config word ≡ true). rw word_there (get_or-replicate (table_words config) (word_at config word) 0 0 (word_inside config word (is_word_true config word word_there))))
        (λ (no_word : is_word config word ≡ false). rw no_word refl)
        (cases_Bool (is_word config word))

-- the table after the roots, by names
view-rooted : (config : Config) (mutator : ℕ) → mutator ≤ config.mutators → view config (rooted config mutator (replicate (table_words config) 0)) ≡ rooted_memory config mutator
view-rooted config zero mutator_within = view-none config
view-rooted config (suc mutator) mutator_within =
    view-stored config (Root mutator 0) config.region_words (rooted config mutator (replicate (table_words config) 0)) (rooted_memory config mutator) (omega arith, omega arith)
    (length-rooted config mutator _ (length-replicate (table_words config) 0)) (view-rooted config mutator (omega arith))

-- the memory of the opening
abbrev pub first_memory : Config → Word → ℕ
first_memory config =
    write (write (write (write (write (write (rooted_memory config config.mutators) Left config.mutators) Free (first_free config.regions)) (Top 0) 19) (Heap config.region_words) 1)
    (Heap (config.region_words + 1)) 69632) (Heap (config.region_words + 2)) 1

-- an address of the hub is one of the heap
in_heap : (config : Config) (offset : ℕ) → offset < 64 → IsWord config (Heap (config.region_words + offset))
in_heap config offset offset_small =
    (omega arith, (let two_regions : 2 * config.region_words ≤ (config.regions + 1) * config.region_words = mul-le-mul_right config.region_words (omega (arith, config.in_range.least_regions)) in omega (arith, config.in_range.least_words)))

-- the table of the opening, by names
pub view-opening : (config : Config) → view config (opening_words config) ≡ first_memory config
view-opening config =
    let rooted_long = length-rooted config config.mutators (replicate (table_words config) 0) (length-replicate (table_words config) 0) in
    let left_long = length-stored config Left config.mutators _ rooted_long in
    let free_long = length-stored config Free (first_free config.regions) _ left_long in
    let top_long = length-stored config (Top 0) 19 _ free_long in
    let header_long = length-stored config (Heap config.region_words) 1 _ top_long in
    let shape_long = length-stored config (Heap (config.region_words + 1)) 69632 _ header_long in
    let first_there : IsWord config (Heap config.region_words) = subst (λ any_address. IsWord config (Heap any_address)) (add-zero config.region_words) (in_heap config 0 (omega arith)) in
    view-stored config (Heap (config.region_words + 2)) 1 _ _ (in_heap config 2 (omega arith)) shape_long
    (view-stored config (Heap (config.region_words + 1)) 69632 _ _ (in_heap config 1 (omega arith)) header_long
    (view-stored config (Heap config.region_words) 1 _ _ first_there top_long
    (view-stored config (Top 0) 19 _ _ (omega (arith, config.in_range.least_regions)) free_long
    (view-stored config Free (first_free config.regions) _ _ tt left_long
    (view-stored config Left config.mutators _ _ tt rooted_long
    (view-rooted config config.mutators (omega arith)))))))

-- the size of the table of the opening
pub length-opening : (config : Config) → length (opening_words config) ≡ table_words config
length-opening config =
    length-stored config (Heap (config.region_words + 2)) 1 _ (length-stored config (Heap (config.region_words + 1)) 69632 _ (length-stored config (Heap config.region_words) 1 _
    (length-stored config (Top 0) 19 _ (length-stored config Free (first_free config.regions) _ (length-stored config Left config.mutators _
    (length-rooted config config.mutators (replicate (table_words config) 0) (length-replicate (table_words config) 0)))))))
