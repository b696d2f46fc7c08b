-- Each place of the table is that of a word in one of its rows.
use Rattle.std.proofs.Common.{ltb, ◌≡◌, ℕ, ◌+◌, ◌-◌, ◌<◌, ◌≤◌, ⊎_elim, List, [], ◌∷◌, get_or, true, false, refl, sym, ap, ◌∙◌, subst, zero-add, arith}
use Rattle.std.proofs.lemmas.Bool.{cases_Bool, ltb-true, ltb-false, cond-true, cond-false}
use Rattle.std.proofs.lemmas.Grind.{same_number_lists}
use Rattle.heap_words.specs.declared.config.Config.{Config}
use Rattle.heap_words.specs.Words.{Word, Pause, Left, End, Phase, Cset, Free, Evac, Claim, Ask, Share, IsWord, word_at, table_words}
use Rattle.heap_words.specs.Rows.{Row, rows, word_in, name_of, AreNamed, AreReadWhole}
use Rattle.heap_words.proofs.Rows.{word_inside, words_differ}
use Rattle.heap_words.proofs.Stores.{view_word}

-- a word stands at a place
abbrev pub StandsAt : Config → ℕ → Word → Type 0
StandsAt config place word = IsWord config word × (word_at config word ≡ place)

-- the words of rows stand one after another, from a place on
abbrev pub StandFrom : Config → ℕ → List Row → Type 0
StandFrom config start [] = Unit {0}
StandFrom config start (row ∷ later_rows) = ((place : ℕ) → place < row.size → StandsAt config (start + place) (row.word place)) × StandFrom config (start + row.size) later_rows

-- how many words rows have
abbrev pub size_of : List Row → ℕ
size_of [] = 0
size_of (row ∷ later_rows) = row.size + size_of later_rows

-- the word of rows that has so many words before it
pub word_in-stands : (config : Config) (start : ℕ) (some_rows : List Row) (before : ℕ) → StandFrom config start some_rows → before < size_of some_rows → StandsAt config (start + before) (word_in some_rows before)
word_in-stands config start [] before stand inside = absurd (omega arith)
word_in-stands config start (row ∷ later_rows) before stand inside =
    ⊎_elim
    (λ (in_row : ltb before row.size ≡ true).
    subst (StandsAt config (start + before)) (sym (cond-true (ltb before row.size) _ _ in_row)) (stand.0 before (ltb-true _ _ in_row)))
    (λ (later : ltb before row.size ≡ false).
    let behind_row : row.size ≤ before = ltb-false _ _ later in
    let place : start + row.size + (before - row.size) ≡ start + before = omega arith in
    subst (StandsAt config (start + before)) (sym (cond-false (ltb before row.size) _ _ later))
    (subst (λ any_place. StandsAt config any_place (word_in later_rows (before - row.size))) place
    (word_in-stands config (start + row.size) later_rows (before - row.size) stand.1 (omega arith))))
    (cases_Bool (ltb before row.size))

-- a word alone stands where its row begins
alone : (config : Config) (start : ℕ) (word : Word) → IsWord config word → word_at config word ≡ start → (before : ℕ) → before < 1 → StandsAt config (start + before) word
alone config start word word_is row_begins before none_before = (word_is, omega arith)

-- the rows of the table are those of its words
rows_stand : (config : Config) → StandFrom config 0 (rows config)
rows_stand config = (
  alone config _ Pause tt refl,
  (
    alone config _ Left tt refl,
    (
      alone config _ End tt refl,
      (
        λ number inside. (inside, refl),
        (
          alone config _ Phase tt (omega arith),
          (
            alone config _ Cset tt (omega arith),
            (
              alone config _ Free tt (omega arith),
              (
                alone config _ Evac tt (omega arith),
                (
                  alone config _ Claim tt (omega arith),
                  (
                    alone config _ Ask tt (omega arith),
                    (
                      λ number inside. (inside, omega arith),
                      (
                        λ number inside. (inside, omega arith),
                        (
                          λ number inside. (inside, omega arith),
                          (
                            λ number inside. (inside, omega arith),
                            (
                              λ number inside. ((omega arith, omega arith), omega arith),
                              (
                                λ number inside. (inside, omega arith),
                                (
                                  λ number inside. ((omega arith, omega arith), omega arith),
                                  (
                                    λ number inside. (inside, omega arith),
                                    (
                                      λ number inside. (inside, omega arith),
                                      (
                                        λ number inside. (inside, omega arith),
                                        (
                                          λ number inside. (inside, omega arith),
                                          (λ number inside. ((omega arith, omega arith), omega arith), (alone config _ Share tt (omega arith), (λ number inside. ((omega arith, omega arith), omega arith), tt))),
                                        ),
                                      ),
                                    ),
                                  ),
                                ),
                              ),
                            ),
                          ),
                        ),
                      ),
                    ),
                  ),
                ),
              ),
            ),
          ),
        ),
      ),
    ),
  ),
)

rows_all : (config : Config) → size_of (rows config) ≡ table_words config
rows_all config = omega arith

-- the word at a place stands there
pub name_of-stands : (config : Config) (place : ℕ) → place < table_words config → StandsAt config place (name_of config place)
unfolding name_of
name_of-stands config place place_below =
    subst (λ any_place. StandsAt config any_place (word_in (rows config) place)) (zero-add place)
    (word_in-stands config 0 (rows config) place (rows_stand config) (omega (arith, rows_all config)))

-- a word is that of its place
pub name_of-word_at : (config : Config) (word : Word) → IsWord config word → name_of config (word_at config word) ≡ word
name_of-word_at config word word_is =
    let stands : StandsAt config (word_at config word) (name_of config (word_at config word)) = name_of-stands config (word_at config word) (word_inside config word word_is) in
    words_differ config (name_of config (word_at config word)) word stands.0 word_is stands.1

-- a word that stands at a place is the word at it
pub stands-name_of : (config : Config) (word : Word) (place : ℕ) → IsWord config word → word_at config word ≡ place → word ≡ name_of config place
stands-name_of config word place word_is word_there = sym (name_of-word_at config word word_is) ∙ ap (name_of config) word_there

pub are_named : AreNamed
are_named = record {
  is_word = λ config place place_below. (name_of-stands config place place_below).0;
  there = λ config place place_below. (name_of-stands config place place_below).1;
  back = name_of-word_at;
}

pub are_read_whole : AreReadWhole
are_read_whole config xs ys long_xs long_ys same_views =
    same_number_lists xs ys (long_xs ∙ sym long_ys)
    (λ place place_below.
    let stands : StandsAt config place (name_of config place) = name_of-stands config place (omega arith) in
    ap (λ index. get_or xs index 0) (sym stands.1) ∙ sym (view_word config xs (name_of config place) stands.0)
    ∙ same_views (name_of config place) stands.0 ∙ view_word config ys (name_of config place) stands.0 ∙ ap (λ index. get_or ys index 0) stands.1)
