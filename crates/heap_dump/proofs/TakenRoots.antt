-- Taking the roots of a thread word by word.
use Rattle.std.proofs.Common.{ℕ, suc, ◌≡◌, ◌+◌, ◌-◌, ◌<◌, List, [], ◌∷◌, ◌++◌, length, map, drop, drop-cons, get_or, set, refl, sym, ap, subst, ◌∙◌, None, arith, append-nil, length-append}
use Rattle.std.proofs.lemmas.List.{append_assoc, map-append, set-set, set-get_or, get_or-set_same, drop_all, length-map}
use Rattle.std.proofs.Math.Seq.{set-append_seam}
use Rattle.std.specs.Prelude.{MatchBool, Bool, true, false, ◌^◌}
use Rattle.std.specs.Fmt.{decimal}
use Rattle.std.specs.Str.Parse.{digits_value}
use Rattle.std.proofs.Common.{eqb}
use Rattle.std.proofs.lemmas.Bool.{false≢true, eqb-true, and_parts}
use Rattle.std.proofs.lemmas.Fmt.{digits_value-decimal}
use Rattle.shen_graph.proofs.Lists.{cons_injective}
use Rattle.trace_reading.proofs.GrammarNumbers.{own}
use Rattle.trace_reading.specs.Causes.{is_same}
use Rattle.shen_graph.specs.Graph.{Reference}
use Rattle.shen_graph.specs.GraphText.{Text, roots_of, with_root_of}
use Rattle.heap_dump.specs.DumpLines.{IsDumpReference, AreReferences}
use Rattle.heap_dump.specs.HeldReferences.{held}
use Rattle.heap_dump.specs.ObjectWords.{AreRootsWords}
use Rattle.heap_dump.proofs.Strokes.{references_more, length_refs}

-- the roots that were set so far, and those of before behind them
abbrev pub set_so_far : List Reference → List Reference → List Reference
set_so_far roots before = map held roots ++ drop (length roots) before

pub record TakenRoots (words rest : List (List ℕ)) (count thread : ℕ) (before now : Text) : Type 0 where
  pub roots : List Reference
  pub spelled : List (List ℕ)
  pub are : AreReferences spelled roots
  pub size : length roots ≡ count
  pub words_are : words ≡ spelled ++ rest
  pub text : now ≡ record before { roots = set before.roots (thread - 1) (set_so_far roots (roots_of before thread)) }

pub no_roots : (words : List (List ℕ)) (thread : ℕ) (text : Text) → TakenRoots words words 0 thread text text
no_roots words thread text = record {
  roots = [];
  spelled = [];
  are = tt;
  size = refl;
  words_are = refl;
  text = ap (λ (rows : List (List Reference)). record text { roots = rows }) (sym (set-get_or text.roots (thread - 1) []));
}

-- a root more is set
set_next : (roots before : List Reference) (reference : Reference) → length roots < length before → set (set_so_far roots before) (length roots) (held reference) ≡ set_so_far (roots ++ reference ∷ []) before
set_next roots before reference length_below =
    let held_roots = map held roots in
    let old_root = get_or before (length roots) None in
    let later_roots = drop (suc (length roots)) before in
    let next_length : suc (length roots) ≡ length (roots ++ reference ∷ []) = omega (arith, length-append roots (reference ∷ [])) in
    ap (λ tail. set (held_roots ++ tail) (length roots) (held reference)) (drop-cons before (length roots) None length_below)
    ∙ ap (λ position. set (held_roots ++ old_root ∷ later_roots) position (held reference)) (sym (length-map roots held))
    ∙ set-append_seam held_roots old_root later_roots (held reference)
    ∙ sym (append_assoc held_roots (held reference ∷ []) later_roots)
    ∙ ap (λ tail. tail ++ later_roots) (sym (map-append held roots (reference ∷ [])))
    ∙ ap (λ position. map held (roots ++ reference ∷ []) ++ drop position before) next_length

pub roots_more : (words rest : List (List ℕ)) (count thread : ℕ) (before now after : Text) (word : List ℕ) (reference : Reference) → TakenRoots words (word ∷ rest) count thread before now → count < 16
    → thread - 1 < length before.roots → length (roots_of before thread) ≡ 16 → IsDumpReference word reference → after ≡ with_root_of now thread count (held reference) → TakenRoots words rest (count + 1) thread before after
roots_more words rest count thread before now after word reference taken count_below thread_inside sixteen spells_it text_made =
    let row_index = thread - 1 in
    let row = set_so_far taken.roots (roots_of before thread) in
    let roots_before = ap (λ (text : Text). text.roots) taken.text in
    let row_here = ap (λ (rows : List (List Reference)). get_or rows row_index []) roots_before ∙ get_or-set_same before.roots row_index row [] thread_inside in
    let wanted_row = set_so_far (taken.roots ++ reference ∷ []) (roots_of before thread) in
    let new_rows = set now.roots row_index (set (get_or now.roots row_index []) count (held reference)) in
    let rows_same : new_rows ≡ set before.roots row_index wanted_row =
    ap (λ (rows : List (List Reference)). set rows row_index (set (get_or now.roots row_index []) count (held reference))) roots_before
    ∙ set-set before.roots row_index row (set (get_or now.roots row_index []) count (held reference))
    ∙ ap (λ (references : List Reference). set before.roots row_index (set references count (held reference))) row_here
    ∙ ap (λ position. set before.roots row_index (set row position (held reference))) (sym taken.size)
    ∙ ap (λ (references : List Reference). set before.roots row_index references) (set_next taken.roots (roots_of before thread) reference (omega (arith, taken.size, count_below, sixteen))) in
    record {
      roots = taken.roots ++ reference ∷ [];
      spelled = taken.spelled ++ word ∷ [];
      are = references_more taken.spelled taken.roots word reference taken.are spells_it;
      size = omega (arith, length-append taken.roots (reference ∷ []), taken.size);
      words_are = taken.words_are ∙ sym (append_assoc taken.spelled (word ∷ []) rest);
      text = (text_made ∙ ap (λ (text : Text). record text { roots = new_rows }) taken.text ∙ ap (λ (rows : List (List Reference)). record before { roots = rows }) rows_same);
    }

pub roots_end : (words : List (List ℕ)) (count thread : ℕ) (before now : Text) → length (roots_of before thread) ≡ 16 → count ≡ 16 → (taken : TakenRoots words [] count thread before now)
    → AreRootsWords words [] taken.roots × (now ≡ record before { roots = set before.roots (thread - 1) (map held taken.roots) })
roots_end words count thread before now sixteen all_taken taken =
    let none_left = drop_all (length taken.roots) (roots_of before thread) (omega (arith, taken.size, all_taken, sixteen)) in (
      record { spelled = taken.spelled; are = taken.are; each = taken.size ∙ all_taken; words_are = taken.words_are ∙ append-nil taken.spelled },
      (taken.text ∙ ap (λ (references : List Reference). record before { roots = set before.roots (thread - 1) (map held taken.roots ++ references) }) none_left
          ∙ ap (λ (references : List Reference). record before { roots = set before.roots (thread - 1) references }) (append-nil (map held taken.roots))),
    )

-- a word behind the first of the roots is that of a root, where there are more roots
next_root : (first_words second_words : List (List ℕ)) (references other_references : List Reference) (word : List ℕ) (rest : List (List ℕ)) → AreReferences first_words references → AreReferences second_words other_references → first_words ++ word ∷ rest ≡ second_words → (reference : Reference) × IsDumpReference word reference
next_root [] [] references other_references word rest first_spelled second_spelled same_words = absurd (let sizes = ap length same_words in omega (arith, sizes))
next_root [] (second_word ∷ second_words) references [] word rest first_spelled second_spelled same_words = absurd second_spelled
next_root [] (second_word ∷ second_words) references (reference ∷ later_references) word rest first_spelled second_spelled same_words = (reference, subst (λ (any_text : List ℕ). IsDumpReference any_text reference) (sym (cons_injective word second_word rest second_words same_words).0) second_spelled.0)
next_root (first_word ∷ first_words) second_words [] references word rest first_spelled second_spelled same_words = absurd first_spelled
next_root (first_word ∷ first_words) [] (reference ∷ other_references) references word rest first_spelled second_spelled same_words = absurd (let sizes = ap length same_words in omega (arith, sizes))
next_root (first_word ∷ first_words) (second_word ∷ second_words) (reference ∷ other_references) [] word rest references second_spelled same_words = absurd second_spelled
next_root (first_word ∷ first_words) (second_word ∷ second_words) (other_reference ∷ other_references) (reference ∷ later_references) word rest references second_spelled same_words = next_root first_words second_words other_references later_references word rest references.1 second_spelled.1 (cons_injective first_word second_word (first_words ++ word ∷ rest) second_words same_words).1

pub roots_refused : (words rest : List (List ℕ)) (count thread : ℕ) (before now : Text) (word : List ℕ) → TakenRoots words (word ∷ rest) count thread before now → ((reference : Reference) → IsDumpReference word reference → ⊥)
    → (roots : List Reference) → AreRootsWords words [] roots → ⊥
roots_refused words rest count thread before now word taken no_reference roots all_words =
    let next_found = next_root taken.spelled all_words.spelled taken.roots roots word rest taken.are all_words.are (sym taken.words_are ∙ all_words.words_are) in
    no_reference next_found.0 next_found.1

-- too few words, or too many
pub roots_missing : (words rest : List (List ℕ)) (count thread : ℕ) (before now : Text) → TakenRoots words rest count thread before now → (count + length rest ≡ 16 → ⊥) → (roots : List Reference) → AreRootsWords words [] roots → ⊥
roots_missing words rest count thread before now taken not_sixteen roots all_words =
    let sizes = ap length (sym taken.words_are ∙ all_words.words_are) in
    not_sixteen (omega (arith, sizes, length-append taken.spelled rest, length_refs taken.spelled taken.roots taken.are, taken.size, length_refs all_words.spelled roots all_words.are, all_words.each))

-- ---- a word before them

pub behind_first : (word front_word : List ℕ) (rest front : List (List ℕ)) (roots : List Reference) → word ≡ front_word → AreRootsWords rest front roots → AreRootsWords (word ∷ rest) (front_word ∷ front) roots
behind_first word front_word rest front roots same_word all_words = record {
  spelled = all_words.spelled;
  are = all_words.are;
  each = all_words.each;
  words_are = ap (λ (any_word : List ℕ). any_word ∷ rest) same_word ∙ ap (λ (any_words : List (List ℕ)). front_word ∷ any_words) all_words.words_are;
}

pub first_is : (word front_word : List ℕ) (rest front : List (List ℕ)) (roots : List Reference) → AreRootsWords (word ∷ rest) (front_word ∷ front) roots → word ≡ front_word
first_is word front_word rest front roots all_words = (cons_injective word front_word rest (front ++ all_words.spelled) all_words.words_are).0

pub behind_it : (word front_word : List ℕ) (rest front : List (List ℕ)) (roots : List Reference) → AreRootsWords (word ∷ rest) (front_word ∷ front) roots → AreRootsWords rest front roots
behind_it word front_word rest front roots all_words = record {
  spelled = all_words.spelled;
  are = all_words.are;
  each = all_words.each;
  words_are = (cons_injective word front_word rest (front ++ all_words.spelled) all_words.words_are).1;
}

pub none_first : (front_word : List ℕ) (front : List (List ℕ)) (roots : List Reference) → AreRootsWords [] (front_word ∷ front) roots → ⊥
none_first front_word front roots all_words = let sizes = ap length all_words.words_are in omega (arith, sizes)

-- the same before and behind a word
pub both_ways : (holds : Bool) (word front_word : List ℕ) (rest front : List (List ℕ)) (G : List Reference → Type 0) → word ≡ front_word
    → MatchBool holds ((roots : List Reference) × AreRootsWords rest front roots × G roots) ((roots : List Reference) → AreRootsWords rest front roots → ⊥)
    → MatchBool holds ((roots : List Reference) × AreRootsWords (word ∷ rest) (front_word ∷ front) roots × G roots) ((roots : List Reference) → AreRootsWords (word ∷ rest) (front_word ∷ front) roots → ⊥)
both_ways true word front_word rest front G same_word match_bool = (match_bool.0, behind_first word front_word rest front match_bool.0 same_word match_bool.1, match_bool.2)
both_ways false word front_word rest front G same_word match_bool = λ roots all_words. match_bool roots (behind_it word front_word rest front roots all_words)

pub decimal_once : (n m : ℕ) → n < 2 ^ 64 → m < 2 ^ 64 → decimal n ≡ decimal m → n ≡ m
decimal_once n m first_fits second_fits same_decimal = sym (digits_value-decimal own n first_fits) ∙ ap (digits_value 10) same_decimal ∙ digits_value-decimal own m second_fits

-- bytes that are told to be the same
pub same_bytes : (bytes other_bytes : List ℕ) → true ≡ is_same bytes other_bytes → bytes ≡ other_bytes
same_bytes [] [] same_test = refl
same_bytes [] (y ∷ ys) same_test = absurd (false≢true (sym same_test))
same_bytes (x ∷ xs) [] same_test = absurd (false≢true (sym same_test))
same_bytes (x ∷ xs) (y ∷ ys) same_test =
    let test_parts = and_parts (eqb x y) (is_same xs ys) (sym same_test) in
    ap (λ (byte : ℕ). byte ∷ xs) (eqb-true x y test_parts.0) ∙ ap (λ (zs : List ℕ). y ∷ zs) (same_bytes xs ys (sym test_parts.1))
