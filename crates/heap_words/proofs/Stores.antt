-- A table of numbers as a memory of names.
use Rattle.std.proofs.Common.{◌≡◌, ℕ, ◌+◌, ◌*◌, ◌<◌, true, false, ltb, leb, List, length, get_or, set, refl, sym, ap, ◌∙◌, ⊎_elim, arith, get_or-set_same, get_or-set_other}
use Rattle.std.proofs.lemmas.Bool.{cases_Bool, eqb-true, eq-eqb, ltb-true, lt-ltb, leb-true, le-leb, and_parts, and_from, cond-true, cond-false, false≢true}
use Rattle.std.proofs.Math.Path.{fun_ext}
use Rattle.heap_words.proofs.Bools.{both_equal}
use Rattle.heap_words.specs.declared.config.Config.{Config}
use Rattle.heap_words.specs.Words.{Word, Pause, Left, End, State, Phase, Cset, Free, Evac, Claim, Ask, Top, Tams, Limit, Current, Root, Count, Buffer, Wait, Answer, Grey, Black, Heap, Share, Pin, same_word, IsWord, is_word, word_at, table_words, view, write, AreApart, IsStoreOfOne}
use Rattle.heap_words.proofs.Rows.{word_inside, words_differ, is_image-word_at}

pub same_word_refl : (word : Word) → same_word word word ≡ true
same_word_refl Pause = refl
same_word_refl Left = refl
same_word_refl End = refl
same_word_refl (State seat) = eq-eqb seat seat refl
same_word_refl Phase = refl
same_word_refl Cset = refl
same_word_refl Free = refl
same_word_refl Evac = refl
same_word_refl Claim = refl
same_word_refl Ask = refl
same_word_refl (Top region) = eq-eqb region region refl
same_word_refl (Tams region) = eq-eqb region region refl
same_word_refl (Limit region) = eq-eqb region region refl
same_word_refl (Current seat) = eq-eqb seat seat refl
same_word_refl (Root mutator index) = and_from _ _ (eq-eqb mutator mutator refl) (eq-eqb index index refl)
same_word_refl (Count mutator) = eq-eqb mutator mutator refl
same_word_refl (Buffer mutator entry) = and_from _ _ (eq-eqb mutator mutator refl) (eq-eqb entry entry refl)
same_word_refl (Wait mutator) = eq-eqb mutator mutator refl
same_word_refl (Answer mutator) = eq-eqb mutator mutator refl
same_word_refl (Grey number) = eq-eqb number number refl
same_word_refl (Black number) = eq-eqb number number refl
same_word_refl (Heap address) = eq-eqb address address refl
same_word_refl Share = refl
same_word_refl (Pin mutator slot) = and_from _ _ (eq-eqb mutator mutator refl) (eq-eqb slot slot refl)

pub same_word_true : (word second_word : Word) → same_word word second_word ≡ true → word ≡ second_word
same_word_true Pause Pause words_match = refl
same_word_true Left Left words_match = refl
same_word_true End End words_match = refl
same_word_true (State seat) (State second_seat) words_match = ap State (eqb-true seat second_seat words_match)
same_word_true Phase Phase words_match = refl
same_word_true Cset Cset words_match = refl
same_word_true Free Free words_match = refl
same_word_true Evac Evac words_match = refl
same_word_true Claim Claim words_match = refl
same_word_true Ask Ask words_match = refl
same_word_true (Top region) (Top second_region) words_match = ap Top (eqb-true region second_region words_match)
same_word_true (Tams region) (Tams second_region) words_match = ap Tams (eqb-true region second_region words_match)
same_word_true (Limit region) (Limit second_region) words_match = ap Limit (eqb-true region second_region words_match)
same_word_true (Current seat) (Current second_seat) words_match = ap Current (eqb-true seat second_seat words_match)
same_word_true (Root mutator index) (Root second_mutator second_index) words_match = let equal_parts = both_equal mutator second_mutator index second_index words_match in cc
same_word_true (Count mutator) (Count second_mutator) words_match = ap Count (eqb-true mutator second_mutator words_match)
same_word_true (Buffer mutator entry) (Buffer second_mutator second_entry) words_match = let equal_parts = both_equal mutator second_mutator entry second_entry words_match in cc
same_word_true (Wait mutator) (Wait second_mutator) words_match = ap Wait (eqb-true mutator second_mutator words_match)
same_word_true (Answer mutator) (Answer second_mutator) words_match = ap Answer (eqb-true mutator second_mutator words_match)
same_word_true (Grey number) (Grey second_number) words_match = ap Grey (eqb-true number second_number words_match)
same_word_true (Black number) (Black second_number) words_match = ap Black (eqb-true number second_number words_match)
same_word_true (Heap address) (Heap second_address) words_match = ap Heap (eqb-true address second_address words_match)
same_word_true Share Share words_match = refl
same_word_true (Pin mutator slot) (Pin second_mutator second_slot) words_match = let equal_parts = both_equal mutator second_mutator slot second_slot words_match in cc
same_word_true _ _ words_match = absurd (false≢true words_match)

-- the test of a name says that there is such a word
pub is_word_true : (config : Config) (word : Word) → is_word config word ≡ true → IsWord config word
is_word_true config (State seat) word_passes = ltb-true _ _ word_passes
is_word_true config (Top region) word_passes = ltb-true _ _ word_passes
is_word_true config (Tams region) word_passes = ltb-true _ _ word_passes
is_word_true config (Limit region) word_passes = ltb-true _ _ word_passes
is_word_true config (Current seat) word_passes = ltb-true _ _ word_passes
is_word_true config (Root mutator index) word_passes = let passed_parts = and_parts (ltb mutator config.mutators) (ltb index 16) word_passes in (ltb-true _ _ passed_parts.0, ltb-true _ _ passed_parts.1)
is_word_true config (Count mutator) word_passes = ltb-true _ _ word_passes
is_word_true config (Buffer mutator entry) word_passes = let passed_parts = and_parts (ltb mutator config.mutators) (ltb entry 8) word_passes in (ltb-true _ _ passed_parts.0, ltb-true _ _ passed_parts.1)
is_word_true config (Wait mutator) word_passes = ltb-true _ _ word_passes
is_word_true config (Answer mutator) word_passes = ltb-true _ _ word_passes
is_word_true config (Grey number) word_passes = ltb-true _ _ word_passes
is_word_true config (Black number) word_passes = ltb-true _ _ word_passes
is_word_true config (Heap address) word_passes =
    let passed_parts = and_parts (leb config.region_words address) (ltb address ((config.regions + 1) * config.region_words)) word_passes in
    (leb-true _ _ passed_parts.0, ltb-true _ _ passed_parts.1)
is_word_true config (Pin mutator slot) word_passes = let passed_parts = and_parts (ltb mutator config.mutators) (ltb slot 4) word_passes in (ltb-true _ _ passed_parts.0, ltb-true _ _ passed_parts.1)
is_word_true config _ word_passes = tt

pub is_word_from : (config : Config) (word : Word) → IsWord config word → is_word config word ≡ true
is_word_from config (State seat) word = lt-ltb _ _ word
is_word_from config (Top region) word = lt-ltb _ _ word
is_word_from config (Tams region) word = lt-ltb _ _ word
is_word_from config (Limit region) word = lt-ltb _ _ word
is_word_from config (Current seat) word = lt-ltb _ _ word
is_word_from config (Root mutator index) word = and_from _ _ (lt-ltb _ _ word.0) (lt-ltb _ _ word.1)
is_word_from config (Count mutator) word = lt-ltb _ _ word
is_word_from config (Buffer mutator entry) word = and_from _ _ (lt-ltb _ _ word.0) (lt-ltb _ _ word.1)
is_word_from config (Wait mutator) word = lt-ltb _ _ word
is_word_from config (Answer mutator) word = lt-ltb _ _ word
is_word_from config (Grey number) word = lt-ltb _ _ word
is_word_from config (Black number) word = lt-ltb _ _ word
is_word_from config (Heap address) word = and_from _ _ (le-leb _ _ word.0) (lt-ltb _ _ word.1)
is_word_from config (Pin mutator slot) word = and_from _ _ (lt-ltb _ _ word.0) (lt-ltb _ _ word.1)
is_word_from config _ word = refl

-- what a word reads
pub view_word : (config : Config) (words : List ℕ) (word : Word) → IsWord config word → view config words word ≡ get_or words (word_at config word) 0
view_word config words word word_is = cond-true (is_word config word) _ _ (is_word_from config word word_is)

-- what a name reads that is no word
pub view_none : (config : Config) (words : List ℕ) (word : Word) → is_word config word ≡ false → view config words word ≡ 0
view_none config words word no_word = cond-false (is_word config word) _ _ no_word

-- a store at another word's place
pub store_other : (config : Config) (words : List ℕ) (stored_word : Word) (value : ℕ) (word : Word) → IsWord config stored_word → same_word stored_word word ≡ false → view config (set words (word_at config stored_word) value) word ≡ view config words word
store_other config words stored_name value read_name is_at differ =
    ⊎_elim
    (λ (read_is : is_word config read_name ≡ true).
    let word : IsWord config read_name = is_word_true config read_name read_is in
    let places_apart : word_at config read_name ≡ word_at config stored_name → ⊥ =
    λ names_equal. false≢true (sym differ ∙ ap (same_word stored_name) (words_differ config read_name stored_name word is_at names_equal) ∙ same_word_refl stored_name) in
    view_word config _ read_name word ∙ get_or-set_other words (word_at config stored_name) (word_at config read_name) value 0 places_apart ∙ sym (view_word config words read_name word))
    (λ (no_w : is_word config read_name ≡ false). view_none config _ read_name no_w ∙ sym (view_none config words read_name no_w))
    (cases_Bool (is_word config read_name))

-- a store at a word's own place
pub store_same : (config : Config) (words : List ℕ) (word : Word) (value : ℕ) → length words ≡ table_words config → IsWord config word → view config (set words (word_at config word) value) word ≡ value
store_same config words word value whole_table is_at =
    let inside : word_at config word < length words = omega (arith, word_inside config word is_at) in
    view_word config _ word is_at ∙ get_or-set_same words (word_at config word) value 0 inside

pub view_set : (config : Config) (words : List ℕ) (stored_word : Word) (value : ℕ) (word : Word) → length words ≡ table_words config → IsWord config stored_word → view config (set words (word_at config stored_word) value) word ≡ write (view config words) stored_word value word
view_set config words stored_word value word whole_table is_at =
    ⊎_elim
    (λ (same_name : same_word stored_word word ≡ true).
    ap (view config (set words (word_at config stored_word) value)) (sym (same_word_true stored_word word same_name))
    ∙ store_same config words stored_word value whole_table is_at ∙ sym (cond-true (same_word stored_word word) value (view config words word) same_name))
    (λ (differ : same_word stored_word word ≡ false).
    store_other config words stored_word value word is_at differ ∙ sym (cond-false (same_word stored_word word) value (view config words word) differ))
    (cases_Bool (same_word stored_word word))

-- the store of whole memories
pub view_set_all : (config : Config) (words : List ℕ) (word : Word) (value : ℕ) → length words ≡ table_words config → IsWord config word → view config (set words (word_at config word) value) ≡ write (view config words) word value
view_set_all config words read_word value whole_table is_at = fun_ext (λ word. view_set config words read_word value word whole_table is_at)

pub are_apart : AreApart
are_apart = record { inside = word_inside; apart = words_differ; image = is_image-word_at }

pub is_store_of_one : IsStoreOfOne
is_store_of_one = record { read = view_word; stored = view_set }
