-- The words of one kind stand in a row, and the rows one after another: so no two words share a place.
use Rattle.std.proofs.Common.{leb, ◌≡◌, ℕ, ◌+◌, ◌-◌, ◌*◌, ◌/◌, ◌%◌, ◌<◌, ◌≤◌, ⊎_elim, List, [], ◌∷◌, get_or, refl, sym, ap, ◌∙◌, arith, zero, suc}
use Rattle.std.proofs.lemmas.Bool.{cases_order, le-leb, lt-leb}
use Rattle.heap_words.specs.declared.config.Config.{Config}
use Rattle.heap_words.specs.Words.{Word, Pause, Left, End, State, Phase, Cset, Free, Evac, Claim, Ask, Top, Tams, Limit, Current, Root, Count, Buffer, Wait, Answer, Grey, Black, Heap, Share, Pin, IsWord, word_at, table_words, heap_size, bit_words, image_start, is_image}

-- where a row begins, by the sizes of all rows
abbrev pub row_start : List ℕ → ℕ → ℕ
row_start [] index = 0
row_start (size ∷ later_sizes) zero = 0
row_start (size ∷ later_sizes) (suc index) = size + row_start later_sizes index

-- all rows together
abbrev pub row_total : List ℕ → ℕ
row_total [] = 0
row_total (size ∷ later_sizes) = size + row_total later_sizes

-- a row ends where a later one begins, or before
pub row_below : (sizes : List ℕ) (index later_index : ℕ) → index < later_index → row_start sizes index + get_or sizes index 0 ≤ row_start sizes later_index
row_below [] index later_index index_below = omega arith
row_below (size ∷ later_sizes) zero zero index_below = omega arith
row_below (size ∷ later_sizes) zero (suc later_index) index_below = omega arith
row_below (size ∷ later_sizes) (suc index) zero index_below = omega arith
row_below (size ∷ later_sizes) (suc index) (suc later_index) index_below = omega (arith, row_below later_sizes index later_index (omega arith))

-- no row ends behind all of them
pub row_inside : (sizes : List ℕ) (index : ℕ) → row_start sizes index + get_or sizes index 0 ≤ row_total sizes
row_inside [] index = omega arith
row_inside (size ∷ later_sizes) zero = omega arith
row_inside (size ∷ later_sizes) (suc index) = omega (arith, row_inside later_sizes index)

-- places in two rows are equal only where the rows are
pub same_row : (sizes : List ℕ) (index second_index first_offset second_offset : ℕ) → first_offset < get_or sizes index 0 → second_offset < get_or sizes second_index 0 → row_start sizes index + first_offset ≡ row_start sizes second_index + second_offset → index ≡ second_index
same_row sizes index second_index first_offset second_offset in_j in_k same_place =
    ⊎_elim (λ same_index. same_index)
    (⊎_elim
    (λ (first_below : index < second_index). absurd (omega (arith, row_below sizes index second_index first_below)))
    (λ (second_below : second_index < index). absurd (omega (arith, row_below sizes second_index index second_below))))
    (cases_order index second_index)

-- the sizes of the rows
abbrev pub sizes : Config → List ℕ
sizes config =
    1 ∷ 1 ∷ 1 ∷ (config.mutators + config.helpers) ∷ 1 ∷ 1 ∷ 1 ∷ 1 ∷ 1 ∷ 1 ∷ config.regions ∷ config.regions ∷ config.regions
    ∷ (config.mutators + config.helpers + 1) ∷ (16 * config.mutators) ∷ config.mutators ∷ (8 * config.mutators) ∷ config.mutators ∷ config.mutators
    ∷ bit_words config ∷ bit_words config ∷ heap_size config ∷ 1 ∷ (4 * config.mutators) ∷ []

-- the row of a word
abbrev pub row : Word → ℕ
row Pause = 0
row Left = 1
row End = 2
row (State seat) = 3
row Phase = 4
row Cset = 5
row Free = 6
row Evac = 7
row Claim = 8
row Ask = 9
row (Top region) = 10
row (Tams region) = 11
row (Limit region) = 12
row (Current seat) = 13
row (Root mutator index) = 14
row (Count mutator) = 15
row (Buffer mutator entry) = 16
row (Wait mutator) = 17
row (Answer mutator) = 18
row (Grey number) = 19
row (Black number) = 20
row (Heap address) = 21
row Share = 22
row (Pin mutator slot) = 23

-- its place in the row
abbrev pub offset : Config → Word → ℕ
offset config (State seat) = seat
offset config (Top region) = region
offset config (Tams region) = region
offset config (Limit region) = region
offset config (Current seat) = seat
offset config (Root mutator index) = 16 * mutator + index
offset config (Count mutator) = mutator
offset config (Buffer mutator entry) = 8 * mutator + entry
offset config (Wait mutator) = mutator
offset config (Answer mutator) = mutator
offset config (Grey number) = number
offset config (Black number) = number
offset config (Heap address) = address - config.region_words
offset config (Pin mutator slot) = 4 * mutator + slot
offset config _ = 0

-- the word of each row at an offset
abbrev pub words_at : Config → ℕ → List Word
words_at config offset =
    Pause ∷ Left ∷ End ∷ State offset ∷ Phase ∷ Cset ∷ Free ∷ Evac ∷ Claim ∷ Ask ∷ Top offset ∷ Tams offset ∷ Limit offset
    ∷ Current offset ∷ Root (offset / 16) (offset % 16) ∷ Count offset ∷ Buffer (offset / 8) (offset % 8) ∷ Wait offset ∷ Answer offset
    ∷ Grey offset ∷ Black offset ∷ Heap (offset + config.region_words) ∷ Share ∷ Pin (offset / 4) (offset % 4) ∷ []

pub word_at-row : (config : Config) (word : Word) → IsWord config word → word_at config word ≡ row_start (sizes config) (row word) + offset config word
word_at-row config Pause word = refl
word_at-row config Left word = refl
word_at-row config End word = refl
word_at-row config (State seat) word = omega arith
word_at-row config Phase word = omega arith
word_at-row config Cset word = omega arith
word_at-row config Free word = omega arith
word_at-row config Evac word = omega arith
word_at-row config Claim word = omega arith
word_at-row config Ask word = omega arith
word_at-row config (Top region) word = omega arith
word_at-row config (Tams region) word = omega arith
word_at-row config (Limit region) word = omega arith
word_at-row config (Current seat) word = omega arith
word_at-row config (Root mutator index) word = omega arith
word_at-row config (Count mutator) word = omega arith
word_at-row config (Buffer mutator entry) word = omega arith
word_at-row config (Wait mutator) word = omega arith
word_at-row config (Answer mutator) word = omega arith
word_at-row config (Grey number) word = omega arith
word_at-row config (Black number) word = omega arith
word_at-row config (Heap address) word = omega arith
word_at-row config Share word = omega arith
word_at-row config (Pin mutator slot) word = omega arith

pub table_words-rows : (config : Config) → table_words config ≡ row_total (sizes config)
table_words-rows config = omega arith

-- a word stands in its row
pub in_row : (config : Config) (word : Word) → IsWord config word → offset config word < get_or (sizes config) (row word) 0
in_row config Pause word = omega arith
in_row config Left word = omega arith
in_row config End word = omega arith
in_row config (State seat) word = word
in_row config Phase word = omega arith
in_row config Cset word = omega arith
in_row config Free word = omega arith
in_row config Evac word = omega arith
in_row config Claim word = omega arith
in_row config Ask word = omega arith
in_row config (Top region) word = word
in_row config (Tams region) word = word
in_row config (Limit region) word = word
in_row config (Current seat) word = word
in_row config (Root mutator index) word = omega arith
in_row config (Count mutator) word = word
in_row config (Buffer mutator entry) word = omega arith
in_row config (Wait mutator) word = word
in_row config (Answer mutator) word = word
in_row config (Grey number) word = word
in_row config (Black number) word = word
in_row config (Heap address) word = omega arith
in_row config Share word = omega arith
in_row config (Pin mutator slot) word = omega arith

-- the row and the place in it name the word
pub named : (config : Config) (word : Word) → IsWord config word → get_or (words_at config (offset config word)) (row word) Pause ≡ word
named config Pause word = refl
named config Left word = refl
named config End word = refl
named config (State seat) word = refl
named config Phase word = refl
named config Cset word = refl
named config Free word = refl
named config Evac word = refl
named config Claim word = refl
named config Ask word = refl
named config (Top region) word = refl
named config (Tams region) word = refl
named config (Limit region) word = refl
named config (Current seat) word = refl
named config (Root mutator index) word = let quotient : (16 * mutator + index) / 16 ≡ mutator = omega arith in let remainder : (16 * mutator + index) % 16 ≡ index = omega arith in cc
named config (Count mutator) word = refl
named config (Buffer mutator entry) word = let quotient : (8 * mutator + entry) / 8 ≡ mutator = omega arith in let remainder : (8 * mutator + entry) % 8 ≡ entry = omega arith in cc
named config (Wait mutator) word = refl
named config (Answer mutator) word = refl
named config (Grey number) word = refl
named config (Black number) word = refl
named config (Heap address) word = let remainder : address - config.region_words + config.region_words ≡ address = omega arith in cc
named config Share word = refl
named config (Pin mutator slot) word = let quotient : (4 * mutator + slot) / 4 ≡ mutator = omega arith in let remainder : (4 * mutator + slot) % 4 ≡ slot = omega arith in cc

-- each word stands in the table
pub word_inside : (config : Config) (word : Word) → IsWord config word → word_at config word < table_words config
word_inside config word word_is =
    omega (arith, word_at-row config word word_is, table_words-rows config, in_row config word word_is, row_inside (sizes config) (row word))

-- two names never stand at one place
pub words_differ : (config : Config) (word second_word : Word) → IsWord config word → IsWord config second_word → word_at config word ≡ word_at config second_word → word ≡ second_word
words_differ config word second_word first_is second_is same_place =
    let placed : row_start (sizes config) (row word) + offset config word ≡ row_start (sizes config) (row second_word) + offset config second_word =
    sym (word_at-row config word first_is) ∙ same_place ∙ word_at-row config second_word second_is in
    let rows : row word ≡ row second_word =
    same_row (sizes config) (row word) (row second_word) (offset config word) (offset config second_word) (in_row config word first_is) (in_row config second_word second_is) placed in
    let offsets : offset config word ≡ offset config second_word = omega (arith, ap (row_start (sizes config)) rows) in
    sym (named config word first_is) ∙ ap (λ start. get_or (words_at config start) (row word) Pause) offsets
    ∙ ap (λ row_number. get_or (words_at config (offset config second_word)) row_number Pause) rows ∙ named config second_word second_is

-- the words before the image are those of the handshake
pub is_image-word_at : (config : Config) (word : Word) → IsWord config word → is_image word ≡ leb (image_start config) (word_at config word)
is_image-word_at config Pause word = sym (lt-leb (image_start config) 0 (omega arith))
is_image-word_at config Left word = sym (lt-leb (image_start config) 1 (omega arith))
is_image-word_at config End word = sym (lt-leb (image_start config) 2 (omega arith))
is_image-word_at config (State seat) word = sym (lt-leb (image_start config) (3 + seat) (omega arith))
is_image-word_at config word word_is = sym (le-leb (image_start config) (word_at config word) (omega arith))
