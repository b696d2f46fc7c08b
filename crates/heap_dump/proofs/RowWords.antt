-- The words of a row, and the row that is added for them.
use Rattle.std.proofs.Common.{ℕ, zero, suc, ◌≡◌, ◌+◌, ◌-◌, ◌^◌, ◌<◌, ◌≤◌, true, false, List, [], ◌∷◌, ◌++◌, length, map, codes, get_or, eqb, refl, sym, ap, subst, ◌∙◌, Some, arith, length-append}
use Rattle.std.specs.Prelude.{slice_index}
use Rattle.std.specs.Fmt.{decimal}
use Rattle.std.proofs.lemmas.Bool.{eqb-true, false≢true}
use Rattle.std.proofs.lemmas.List.{get_or-append_right, length-map}
use Rattle.shen_graph.proofs.Lists.{cons_injective}
use Rattle.shen_graph.specs.declared.name.Name.{Name}
use Rattle.shen_graph.specs.Graph.{Reference, hub}
use Rattle.shen_graph.specs.GraphText.{Row, Text, bare, row_of, add_number, with_row, with_number, with_numbers, with_references, with_whole_row}
use Rattle.shen_graph.specs.Reach.{IsBefore}
use Rattle.shen_graph.proofs.RowLemmas.{length-change_last, whole}
use Rattle.trace_reading.specs.Causes.{parts_behind}
use Rattle.trace_reading.proofs.Cuts.{cut_parts}
use Rattle.trace_text.specs.Answer.{name_word}
use Rattle.heap_dump.specs.Dumped.{IsNamed}
use Rattle.heap_dump.specs.DumpLines.{IsDumpReference}
use Rattle.heap_dump.specs.HeldReferences.{held, held_row}
use Rattle.heap_dump.specs.ObjectWords.{AreRefsWords, AreNumsWords, AreRowWords, HasHubFields, IsBehindLast}
use Rattle.heap_dump.proofs.References.{reference_once, word_of_name, named_small}
use Rattle.heap_dump.proofs.Strokes.{same_behind, length_refs}

-- ---- bytes that end

pub no_parts : (separator : ℕ) (bytes : List ℕ) → true ≡ eqb (length bytes) 0 → parts_behind separator bytes ≡ []
no_parts separator [] is_empty = refl
no_parts separator (byte ∷ bytes) is_empty = absurd (let no_length = eqb-true (length (byte ∷ bytes)) 0 (sym is_empty) in omega (arith, no_length))

pub some_parts : (separator : ℕ) (bytes : List ℕ) → false ≡ eqb (length bytes) 0 → 1 ≤ length (parts_behind separator bytes)
some_parts separator [] not_empty = absurd (false≢true not_empty)
some_parts separator (byte ∷ bytes) not_empty = let cut = ap length (cut_parts separator bytes) in omega (arith, cut)

-- ---- the last name

pub last_before : (rows : List Row) (name : Name) (index : ℕ) → index + 1 ≡ length rows → IsBefore (get_or rows index (bare hub)).name name → IsBehindLast (map (λ (row : Row). row.name) rows) name
last_before [] name index last_index name_before = tt
last_before (row ∷ []) name zero last_index name_before = name_before
last_before (row ∷ []) name (suc index) last_index name_before = absurd (omega (arith, last_index))
last_before (first_row ∷ second_row ∷ rows) name zero last_index name_before = absurd (omega (arith, last_index))
last_before (first_row ∷ second_row ∷ rows) name (suc index) last_index name_before = last_before (second_row ∷ rows) name index (omega (arith, last_index)) name_before

pub before_last : (rows : List Row) (name : Name) (index : ℕ) → index + 1 ≡ length rows → IsBehindLast (map (λ (row : Row). row.name) rows) name → IsBefore (get_or rows index (bare hub)).name name
before_last [] name index last_index behind_last = absurd (omega (arith, last_index))
before_last (row ∷ []) name zero last_index behind_last = behind_last
before_last (row ∷ []) name (suc index) last_index behind_last = absurd (omega (arith, last_index))
before_last (first_row ∷ second_row ∷ rows) name zero last_index behind_last = absurd (omega (arith, last_index))
before_last (first_row ∷ second_row ∷ rows) name (suc index) last_index behind_last = before_last (second_row ∷ rows) name index (omega (arith, last_index)) behind_last

-- ---- one row at most

pub one_name : (counts word : List ℕ) (name other_name : Name) → length counts ≤ 8 → ((index : ℕ) → slice_index counts index < 2 ^ 32) → IsNamed counts name → IsNamed counts other_name → word ≡ name_word name → word ≡ name_word other_name → name ≡ other_name
one_name counts word name other_name at_most counts_small named other_named word_is also =
    let name_small = named_small counts name at_most counts_small named in
    let other_small = named_small counts other_name at_most counts_small other_named in
    let same_reference = reference_once word (Some name) (Some other_name)
    (subst (λ (any_word : List ℕ). IsDumpReference any_word (Some name)) (sym word_is) (word_of_name name (omega (arith, name_small.0)) (omega (arith, name_small.1))))
    (subst (λ (any_word : List ℕ). IsDumpReference any_word (Some other_name)) (sym also) (word_of_name other_name (omega (arith, other_small.0)) (omega (arith, other_small.1)))) in
    cc

-- the name of a row with these words, and what is behind it
pub row_name : (counts word : List ℕ) (rest : List (List ℕ)) (name : Name) (row : Row) → length counts ≤ 8 → ((index : ℕ) → slice_index counts index < 2 ^ 32) → IsNamed counts name → word ≡ name_word name → AreRowWords counts (word ∷ rest) row → name ≡ row.name
row_name counts word rest name given_row at_most counts_small named word_is row =
    one_name counts word name given_row.name at_most counts_small named row.row.name word_is (cons_injective word (name_word given_row.name) rest (row.spelled ++ codes "/" ∷ map decimal given_row.nums) row.words_are).0

pub row_rest : (counts word : List ℕ) (rest : List (List ℕ)) (given_row : Row) → (row : AreRowWords counts (word ∷ rest) given_row) → AreRefsWords rest given_row.refs (map decimal given_row.nums)
row_rest counts word rest given_row row = record {
  spelled = row.spelled;
  are = row.are;
  few = row.row.fields.few_refs;
  words_are = (cons_injective word (name_word given_row.name) rest (row.spelled ++ codes "/" ∷ map decimal given_row.nums) row.words_are).1;
}

-- the words of a row do not end behind its name
pub row_short : (counts word : List ℕ) (row : Row) → AreRowWords counts (word ∷ []) row → ⊥
row_short counts word given_row row =
    let rest_refs = row_rest counts word [] given_row row in
    let sizes = ap length rest_refs.words_are in
    omega (arith, sizes, length-append rest_refs.spelled (codes "/" ∷ map decimal given_row.nums))

-- words up to a stroke say how many references there are, and what is behind it
pub refs_once : (words more_words rest : List (List ℕ)) (refs references : List Reference) → AreRefsWords words refs more_words → AreRefsWords words references rest → (length refs ≡ length references) × (more_words ≡ rest)
refs_once words more_words rest refs references refs_words other_words =
    let same_parts = same_behind refs_words.spelled other_words.spelled refs references more_words rest refs_words.are other_words.are (sym refs_words.words_are ∙ other_words.words_are) in
    (sym (length_refs refs_words.spelled refs refs_words.are) ∙ ap length same_parts.0 ∙ length_refs other_words.spelled references other_words.are, same_parts.1)

pub refs_room : (words more_words : List (List ℕ)) (refs : List Reference) → AreRefsWords words refs more_words → length words ≡ length refs + 1 + length more_words
refs_room words more_words refs all_refs =
    let sizes = ap length all_refs.words_are in
    omega (arith, sizes, length-append all_refs.spelled (codes "/" ∷ more_words), length_refs all_refs.spelled refs all_refs.are)

-- ---- the row that is added

pub nums_rows : (text : Text) (numbers : List ℕ) → length (with_numbers text numbers).rows ≡ length text.rows
nums_rows text [] = refl
nums_rows text (number ∷ numbers) = nums_rows (with_number text number) numbers ∙ length-change_last (add_number number) text.rows

pub added : (text : Text) (name : Name) (refs : List Reference) (nums : List ℕ) → with_numbers (with_references (with_row text name) (map held refs)) nums ≡ with_whole_row text (held_row (record { name = name; refs = refs; nums = nums }))
added text name refs nums = whole text name (map held refs) nums

pub added_row : (text : Text) (row : Row) → row_of (with_whole_row text row) (length text.rows) ≡ row
added_row text row =
    let no_difference : length text.rows - length text.rows ≡ 0 = omega arith in
    get_or-append_right text.rows (row ∷ []) (length text.rows) (length text.rows) (bare hub) refl (omega arith) ∙ ap (λ index. get_or (row ∷ []) index (bare hub)) no_difference

pub held_fields : (row : Row) → HasHubFields (held_row row) → HasHubFields row
held_fields row has_hub_fields fields_told = let hub_fields = has_hub_fields fields_told in (sym (length-map row.refs held) ∙ hub_fields.0, hub_fields.1)

pub fields_held : (row : Row) → HasHubFields row → HasHubFields (held_row row)
fields_held row has_hub_fields fields_told = let hub_fields = has_hub_fields fields_told in ((length-map row.refs held) ∙ hub_fields.0, hub_fields.1)

-- the words are those of the row
pub row_taken : (counts word : List ℕ) (rest more_words : List (List ℕ)) (name : Name) (refs : List Reference) (nums : List ℕ) → IsNamed counts name → word ≡ name_word name → AreRefsWords rest refs more_words → AreNumsWords more_words nums
    → HasHubFields (record { name = name; refs = refs; nums = nums }) → AreRowWords counts (word ∷ rest) (record { name = name; refs = refs; nums = nums })
row_taken counts word rest more_words name refs nums named word_is all_refs numbers fields = record {
  row = (record {
    name = named;
    fields = record { few_refs = all_refs.few; few_nums = numbers.few; hub_refs = λ is_hub. (fields is_hub).0; hub_nums = λ is_hub. (fields is_hub).1; fit = numbers.fit };
  });
  spelled = all_refs.spelled;
  are = all_refs.are;
  words_are = (ap (λ (any_word : List ℕ). any_word ∷ rest) word_is ∙ ap (λ (words : List (List ℕ)). name_word name ∷ words) (all_refs.words_are ∙ ap (λ (words : List (List ℕ)). all_refs.spelled ++ codes "/" ∷ words) numbers.words_are));
}

-- if there is a row with these words, it has the fields that these have
pub row_fields : (counts word : List ℕ) (rest more_words : List (List ℕ)) (name : Name) (refs : List Reference) (nums : List ℕ) (row : Row) → name ≡ row.name → AreRefsWords rest refs more_words → AreNumsWords more_words nums
    → AreRowWords counts (word ∷ rest) row → HasHubFields (record { name = name; refs = refs; nums = nums })
row_fields counts word rest more_words name refs nums given_row same_name all_refs numbers row fields_told =
    let same_refs = refs_once rest more_words (map decimal given_row.nums) refs given_row.refs all_refs (row_rest counts word rest given_row row) in
    let sizes : length nums ≡ length given_row.nums = sym (length-map nums decimal) ∙ ap length (sym numbers.words_are ∙ same_refs.1) ∙ (length-map given_row.nums decimal) in
    (same_refs.0 ∙ row.row.fields.hub_refs (sym same_name ∙ fields_told), sizes ∙ row.row.fields.hub_nums (sym same_name ∙ fields_told))

-- and numbers behind the stroke
pub row_numbers : (counts word : List ℕ) (rest more_words : List (List ℕ)) (refs : List Reference) (row : Row) → AreRefsWords rest refs more_words → AreRowWords counts (word ∷ rest) row → AreNumsWords more_words row.nums
row_numbers counts word rest more_words refs given_row all_refs row = record {
  few = row.row.fields.few_nums;
  fit = row.row.fields.fit;
  words_are = (refs_once rest more_words (map decimal given_row.nums) refs given_row.refs all_refs (row_rest counts word rest given_row row)).1;
}
