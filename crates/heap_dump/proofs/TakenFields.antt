-- Taking the fields of an object word by word.
use Rattle.std.proofs.Common.{ℕ, suc, ◌≡◌, ◌+◌, ◌^◌, ◌<◌, ◌≤◌, ◌⊎◌, inl, inr, List, [], ◌∷◌, ◌++◌, length, map, codes, get_or, refl, sym, ap, subst, ◌∙◌, None, Some, arith, append-nil, length-append}
use Rattle.std.specs.Prelude.{All}
use Rattle.std.specs.Fmt.{decimal}
use Rattle.std.proofs.lemmas.List.{append_assoc, map-append}
use Rattle.std.proofs.lemmas.List.Elements.{All-push, All-get_or}
use Rattle.std.specs.Prelude.{Option, true, false}
use Rattle.std.specs.Option.{is_some}
use Rattle.std.specs.Str.Parse.{digits_value}
use Rattle.std.proofs.lemmas.Bool.{false≢true}
use Rattle.shen_graph.proofs.Lists.{cons_injective}
use Rattle.trace_reading.specs.declared.why.Why.{Why}
use Rattle.trace_reading.specs.Causes.{is_plain_number, number_cause}
use Rattle.trace_reading.proofs.Words.{number_fine}
use Rattle.trace_reading.proofs.Numerals.{number_spelled, number_again}
use Rattle.shen_graph.specs.Graph.{Reference}
use Rattle.shen_graph.specs.GraphText.{Text, with_reference, with_references, with_number, with_numbers}
use Rattle.shen_graph.proofs.RowLemmas.{with_references-push, with_numbers-push}
use Rattle.heap_dump.specs.DumpLines.{IsDumpReference, AreReferences}
use Rattle.heap_dump.specs.HeldReferences.{held}
use Rattle.heap_dump.specs.ObjectWords.{AreRefsWords, AreNumsWords}
use Rattle.heap_dump.proofs.Strokes.{references_more, Follows, is_stroke, is_another, follows, no_stroke, length_refs}

-- ---- references

-- of these words so many were taken, which are references
pub record TakenRefs (words rest : List (List ℕ)) (count : ℕ) (before now : Text) : Type 0 where
  pub refs : List Reference
  pub spelled : List (List ℕ)
  pub are : AreReferences spelled refs
  pub size : length refs ≡ count
  pub few : count ≤ 16
  pub words_are : words ≡ spelled ++ rest
  pub text : now ≡ with_references before (map held refs)
  pub room : length rest ≤ now.spare + 1
  pub rows : length now.rows ≡ length before.rows

pub no_refs : (words : List (List ℕ)) (text : Text) → length words ≤ text.spare + 1 → TakenRefs words words 0 text text
no_refs words text room_there = record { refs = []; spelled = []; are = tt; size = refl; few = omega arith; words_are = refl; text = refl; room = room_there; rows = refl }

pub refs_more : (words rest : List (List ℕ)) (count : ℕ) (before now after : Text) (word : List ℕ) (reference : Reference) → TakenRefs words (word ∷ rest) count before now → count < 16 → 1 ≤ now.spare → IsDumpReference word reference
    → after ≡ with_reference now (held reference) → length after.rows ≡ length now.rows → TakenRefs words rest (count + 1) before after
refs_more words rest count before now after word reference taken count_below some_spare spells_it text_made rows = record {
  refs = taken.refs ++ reference ∷ [];
  spelled = taken.spelled ++ word ∷ [];
  are = references_more taken.spelled taken.refs word reference taken.are spells_it;
  size = omega (arith, length-append taken.refs (reference ∷ []), taken.size);
  few = omega arith;
  words_are = taken.words_are ∙ sym (append_assoc taken.spelled (word ∷ []) rest);
  text = (text_made ∙ ap (λ (text : Text). with_reference text (held reference)) taken.text
      ∙ sym (with_references-push before (map held taken.refs) (held reference))
      ∙ ap (with_references before) (sym (map-append held taken.refs (reference ∷ []))));
  room = omega (arith, taken.room, ap (λ (text : Text). text.spare) text_made);
  rows = rows ∙ taken.rows;
}

pub refs_refused : (words rest : List (List ℕ)) (count : ℕ) (before now : Text) (word : List ℕ) → TakenRefs words (word ∷ rest) count before now → (word ≡ codes "/" → ⊥) → (16 ≤ count) ⊎ ((reference : Reference) → IsDumpReference word reference → ⊥)
    → (refs : List Reference) (later_words : List (List ℕ)) → AreRefsWords words refs later_words → ⊥
refs_refused words rest count before now word taken never why refs later_words all_words =
    by_next (follows taken.spelled all_words.spelled taken.refs refs word rest later_words taken.are all_words.are (sym taken.words_are ∙ all_words.words_are)) why
  where
    by_next : Follows word (length taken.refs) (length refs) → (16 ≤ count) ⊎ ((reference : Reference) → IsDumpReference word reference → ⊥) → ⊥
    by_next (is_stroke spelled) cause = never spelled
    by_next (is_another reference spelled taken_below) (inl is_full) = omega (arith, taken_below, is_full, taken.size, all_words.few)
    by_next (is_another reference spelled taken_below) (inr no_reference) = no_reference reference spelled

-- a word that is no stroke, and none behind it
pub refs_short : (words : List (List ℕ)) (count : ℕ) (before now : Text) (word : List ℕ) → TakenRefs words (word ∷ []) count before now → (word ≡ codes "/" → ⊥)
    → (refs : List Reference) (later_words : List (List ℕ)) → AreRefsWords words refs later_words → ⊥
refs_short words count before now word taken never refs later_words all_words =
    by_next (follows taken.spelled all_words.spelled taken.refs refs word [] later_words taken.are all_words.are (sym taken.words_are ∙ all_words.words_are))
  where
    sizes : length (taken.spelled ++ word ∷ []) ≡ length (all_words.spelled ++ codes "/" ∷ later_words)
    sizes = ap length (sym taken.words_are ∙ all_words.words_are)

    by_next : Follows word (length taken.refs) (length refs) → ⊥
    by_next (is_stroke spelled) = never spelled
    by_next (is_another next_reference spelled taken_below) =
        omega (
          arith,
          taken_below,
          sizes,
          length-append taken.spelled (word ∷ []),
          length-append all_words.spelled (codes "/" ∷ later_words),
          length_refs taken.spelled taken.refs taken.are,
          length_refs all_words.spelled refs all_words.are,
        )

pub refs_missing : (words : List (List ℕ)) (count : ℕ) (before now : Text) → TakenRefs words [] count before now → (refs : List Reference) (later_words : List (List ℕ)) → AreRefsWords words refs later_words → ⊥
refs_missing words count before now taken refs later_words all_words =
    no_stroke taken.spelled all_words.spelled taken.refs refs later_words taken.are all_words.are (sym (append-nil taken.spelled) ∙ sym taken.words_are ∙ all_words.words_are)

-- ---- numbers

pub record TakenNums (words rest : List (List ℕ)) (count : ℕ) (before now : Text) : Type 0 where
  pub nums : List ℕ
  pub size : length nums ≡ count
  pub few : count ≤ 16
  pub fit : All (λ x. x < 2 ^ 64) nums
  pub words_are : words ≡ map decimal nums ++ rest
  pub text : now ≡ with_numbers before nums
  pub room : length rest ≤ now.spare
  pub rows : length now.rows ≡ length before.rows

pub nums_more : (words rest : List (List ℕ)) (count : ℕ) (before now after : Text) (word : List ℕ) (number : ℕ) → TakenNums words (word ∷ rest) count before now → count < 16 → number < 2 ^ 64 → word ≡ decimal number
    → after ≡ with_number now number → length after.rows ≡ length now.rows → TakenNums words rest (count + 1) before after
nums_more words rest count before now after word number taken count_below number_fits spells_it text_made rows = record {
  nums = taken.nums ++ number ∷ [];
  size = omega (arith, length-append taken.nums (number ∷ []), taken.size);
  few = omega arith;
  fit = All-push (λ (y : ℕ). y < 2 ^ 64) taken.nums number taken.fit number_fits;
  words_are = (taken.words_are ∙ ap (λ (spelled : List ℕ). map decimal taken.nums ++ spelled ∷ rest) spells_it
      ∙ sym (append_assoc (map decimal taken.nums) (decimal number ∷ []) rest)
      ∙ ap (λ (spelled : List (List ℕ)). spelled ++ rest) (sym (map-append decimal taken.nums (number ∷ []))));
  text = (text_made ∙ ap (λ (text : Text). with_number text number) taken.text ∙ sym (with_numbers-push before taken.nums number));
  room = omega (arith, taken.room, ap (λ (text : Text). text.spare) text_made);
  rows = rows ∙ taken.rows;
}

-- the word behind the first of the numbers is one of the numbers
next_number : (xs ys : List ℕ) (word : List ℕ) (rest : List (List ℕ)) → map decimal xs ++ word ∷ rest ≡ map decimal ys → (length xs < length ys) × (y : ℕ) × (index : ℕ) × (index < length ys) × (y ≡ get_or ys index 0) × (word ≡ decimal y)
next_number [] [] word rest same_words = absurd (let sizes = ap length same_words in omega (arith, sizes))
next_number [] (y ∷ ys) word rest same_words = (omega arith, y, 0, omega arith, refl, (cons_injective word (decimal y) rest (map decimal ys) same_words).0)
next_number (x ∷ xs) [] word rest same_words = absurd (let sizes = ap length same_words in omega (arith, sizes))
next_number (x ∷ xs) (y ∷ ys) word rest same_words =
    let later = next_number xs ys word rest (cons_injective (decimal x) (decimal y) (map decimal xs ++ word ∷ rest) (map decimal ys) same_words).1 in
    (omega (arith, later.0), later.1, suc later.2, omega (arith, later.3), later.4, later.5)

pub nums_refused : (words rest : List (List ℕ)) (count : ℕ) (before now : Text) (word : List ℕ) → TakenNums words (word ∷ rest) count before now → (16 ≤ count) ⊎ ((number : ℕ) → number < 2 ^ 64 → word ≡ decimal number → ⊥)
    → (nums : List ℕ) → AreNumsWords words nums → ⊥
nums_refused words rest count before now word taken why nums all_words =
    let next_found = next_number taken.nums nums word rest (sym taken.words_are ∙ all_words.words_are) in
    by_why why next_found.0 (subst (λ (y : ℕ). y < 2 ^ 64) (sym next_found.4) (All-get_or (λ (y : ℕ). y < 2 ^ 64) nums next_found.2 0 next_found.3 all_words.fit)) next_found.5
  where
    by_why : {y : ℕ} → (16 ≤ count) ⊎ ((number : ℕ) → number < 2 ^ 64 → word ≡ decimal number → ⊥) → length taken.nums < length nums → y < 2 ^ 64 → word ≡ decimal y → ⊥
    by_why (inl is_full) taken_below number_fits spells_it = omega (arith, taken_below, is_full, taken.size, all_words.few)
    by_why {y} (inr more_numbers) taken_below number_fits spells_it = more_numbers y number_fits spells_it

-- ---- words of numbers

none_of : {A : Type 0} (found : Option A) → false ≡ is_some found → found ≡ None
none_of None not_some = refl
none_of (Some value) not_some = absurd (false≢true not_some)

some_of : {A : Type 0} (found : Option A) → true ≡ is_some found → found ≡ None → ⊥
some_of None is_there found_none = false≢true (sym is_there)
some_of (Some value) is_there found_none = absurd cc

abbrev pub most : ℕ
most = 18446744073709551615

pub no_number : (word : List ℕ) (found : Option Why) → found ≡ number_cause 0 most word → true ≡ is_some found → (number : ℕ) → number < 2 ^ 64 → word ≡ decimal number → ⊥
no_number word found cause_is some_cause number number_fits spells_it =
    some_of found some_cause (cause_is ∙ ap (number_cause 0 most) spells_it ∙ number_again 0 most number number_fits (omega arith) (omega (arith, number_fits)))

pub is_number : (word : List ℕ) (found : Option Why) → found ≡ number_cause 0 most word → false ≡ is_some found → (is_plain_number word ≡ true) × (digits_value 10 word ≤ most)
is_number word found cause_is no_cause = let range_holds = number_fine 0 most word (sym cause_is ∙ none_of found no_cause) in (range_holds.0, range_holds.2)

pub number_is : (digits : List ℕ) (number : ℕ) → is_plain_number digits ≡ true → number < 2 ^ 64 → number ≡ digits_value 10 digits → digits ≡ decimal number
number_is digits number plain_digits number_fits value_is = number_spelled digits plain_digits (subst (λ (n : ℕ). n < 2 ^ 64) value_is number_fits) ∙ ap decimal (sym value_is)
