-- Words for references, by what stands between their dots.
use Rattle.std.proofs.Common.{ℕ, ◌≡◌, ◌-◌, ◌^◌, ◌<◌, ◌≤◌, ◌⊎◌, inl, inr, lit<, Bool, true, false, List, [], ◌∷◌, ◌++◌, length, codes, refl, sym, ap, subst, ◌∙◌, None, Some, arith}
use Rattle.std.specs.Str.Parse.{digits_value}
use Rattle.std.specs.Prelude.{slice_index}
use Rattle.std.specs.Fmt.{decimal}
use Rattle.std.specs.List.{join_with_byte}
use Rattle.std.proofs.lemmas.Bool.{false≢true, lt-ltb}
use Rattle.std.proofs.lemmas.Fmt.{digits_value-decimal}
use Rattle.std.proofs.lemmas.List.Splits.{join_with_byte-slice_split}
use Rattle.std.proofs.lemmas.List.{append_assoc}
use Rattle.shen_graph.proofs.Lists.{cons_injective}
use Rattle.shen_graph.specs.declared.name.Name.{Name}
use Rattle.shen_graph.specs.Graph.{Reference}
use Rattle.trace_reading.specs.Causes.{parts, parts_behind, is_plain_number, is_same}
use Rattle.trace_reading.proofs.HeadWords.{is_same_again}
use Rattle.trace_reading.proofs.Numerals.{number_spelled, decimal_is_number}
use Rattle.trace_reading.proofs.GrammarNumbers.{own}
use Rattle.trace_text.specs.Answer.{name_word}
use Rattle.heap_dump.specs.Dumped.{IsNamed}
use Rattle.heap_dump.specs.HeldReferences.{nameless, fits, held_name, held}
use Rattle.trace_reading.proofs.Words.{number_digits}
use Rattle.trace_reading.proofs.Free.{free_digits, parts_at, parts_none}
use Rattle.heap_dump.specs.DumpLines.{IsDumpReference}

same_names : (name other_name : Name) → name.thread ≡ other_name.thread → name.count ≡ other_name.count → name ≡ other_name
same_names name other_name same_thread count =
    ap (λ some_thread. record { thread = some_thread; count = name.count }) same_thread ∙ ap (λ some_count. record { thread = other_name.thread; count = some_count }) count

-- a name is two words with a dot between
pub dotted : (word : List ℕ) (name : Name) (dump_reference : IsDumpReference word (Some name)) → parts 46 word ≡ dump_reference.0 ∷ dump_reference.1 ∷ []
dotted word name dump_reference =
    let thread_free = free_digits 46 dump_reference.0 (omega arith) (number_digits dump_reference.0 dump_reference.2) in
    let count_parts = free_digits 46 dump_reference.1 (omega arith) (number_digits dump_reference.1 dump_reference.3) in
    ap (parts 46) (dump_reference.4 ∙ append_assoc dump_reference.0 (codes ".") dump_reference.1) ∙ parts_at 46 dump_reference.0 dump_reference.1 thread_free ∙ ap (λ (given_words : List (List ℕ)). dump_reference.0 ∷ given_words) (parts_none 46 dump_reference.1 count_parts)

dash_is_no_name : (word : List ℕ) (name : Name) → word ≡ codes "-" → IsDumpReference word (Some name) → ⊥
dash_is_no_name word name dash dump_reference =
    let same_parts : codes "-" ∷ [] ≡ dump_reference.0 ∷ dump_reference.1 ∷ [] = sym (ap (parts 46) dash) ∙ dotted word name dump_reference in
    let sizes = ap length same_parts in
    absurd (omega (arith, sizes))

-- a word is one reference at most
pub reference_once : (word : List ℕ) (reference other_reference : Reference) → IsDumpReference word reference → IsDumpReference word other_reference → reference ≡ other_reference
reference_once word None None dump_reference second_reading = refl
reference_once word None (Some name) dump_reference second_reading = absurd (dash_is_no_name word name dump_reference second_reading)
reference_once word (Some name) None dump_reference second_reading = absurd (dash_is_no_name word name second_reading dump_reference)
reference_once word (Some name) (Some other_name) dump_reference second_reading =
    let same_parts = sym (dotted word name dump_reference) ∙ dotted word other_name second_reading in
    let first_parts = cons_injective dump_reference.0 second_reading.0 (dump_reference.1 ∷ []) (second_reading.1 ∷ []) same_parts in
    let second_parts = cons_injective dump_reference.1 second_reading.1 [] [] first_parts.1 in
    let threads = dump_reference.5 ∙ ap (digits_value 10) first_parts.0 ∙ sym second_reading.5 in
    let counts = dump_reference.6 ∙ ap (digits_value 10) second_parts.0 ∙ sym second_reading.6 in
    ap Some (same_names name other_name threads counts)

-- ---- a word, cut at its first dot

pub not_same : (word other_word : List ℕ) → false ≡ is_same word other_word → word ≡ other_word → ⊥
not_same word other_word test_false same_words = false≢true (test_false ∙ ap (λ (any_word : List ℕ). is_same any_word other_word) same_words ∙ is_same_again other_word)

pub not_dash : (word : List ℕ) → false ≡ is_same word (codes "-") → word ≡ codes "-" → ⊥
not_dash word test_false is_dash = false≢true (test_false ∙ ap (λ (given_word : List ℕ). is_same given_word (codes "-")) is_dash ∙ is_same_again (codes "-"))

pub no_dot : (word thread rest : List ℕ) → parts 46 word ≡ thread ∷ parts_behind 46 rest → length rest ≡ 0 → false ≡ is_same word (codes "-") → (reference : Reference) → IsDumpReference word reference → ⊥
no_dot word thread rest cut no_rest test_false None dump_reference = absurd (not_dash word test_false dump_reference)
no_dot word thread (byte ∷ rest) cut no_rest test_false (Some n) dump_reference = absurd (omega (arith, no_rest))
no_dot word thread [] cut no_rest test_false (Some name) dump_reference =
    let sizes = ap length (sym cut ∙ dotted word name dump_reference) in
    absurd (omega (arith, sizes))

pub not_numbers : (word thread rest count : List ℕ) (byte : ℕ) → parts 46 word ≡ thread ∷ parts_behind 46 rest → rest ≡ byte ∷ count → false ≡ is_same word (codes "-") → (is_plain_number thread ≡ false) ⊎ (is_plain_number count ≡ false)
    → (reference : Reference) → IsDumpReference word reference → ⊥
not_numbers word thread rest count byte cut rest_is test_false why None dump_reference = absurd (not_dash word test_false dump_reference)
not_numbers word thread rest count byte cut rest_is test_false why (Some name) dump_reference =
    let same_parts : thread ∷ parts 46 count ≡ dump_reference.0 ∷ dump_reference.1 ∷ [] = ap (λ (given_rest : List ℕ). thread ∷ parts_behind 46 given_rest) (sym rest_is) ∙ sym cut ∙ dotted word name dump_reference in
    let both_same = cons_injective thread dump_reference.0 (parts 46 count) (dump_reference.1 ∷ []) same_parts in
    let same_count : count ≡ dump_reference.1 = sym (join_with_byte-slice_split 46 count) ∙ ap (join_with_byte 46) both_same.1 in
    by_why why (ap is_plain_number both_same.0 ∙ dump_reference.2) (ap is_plain_number same_count ∙ dump_reference.3)
  where
    by_why : (is_plain_number thread ≡ false) ⊎ (is_plain_number count ≡ false) → is_plain_number thread ≡ true → is_plain_number count ≡ true → ⊥
    by_why (inl thread_bad) thread_number count_number = false≢true (sym thread_bad ∙ thread_number)
    by_why (inr count_bad) thread_number count_number = false≢true (sym count_bad ∙ count_number)

pub is_name : (word thread rest count : List ℕ) (byte : ℕ) → parts 46 word ≡ thread ∷ parts_behind 46 rest → rest ≡ byte ∷ count → is_plain_number thread ≡ true → is_plain_number count ≡ true
    → IsDumpReference word (Some (record { thread = digits_value 10 thread; count = digits_value 10 count }))
is_name word thread rest count byte cut rest_is thread_number plain_count =
    let count_free = free_digits 46 count (omega arith) (number_digits count plain_count) in
    let all_parts : parts 46 word ≡ thread ∷ count ∷ [] = cut ∙ ap (λ (given_rest : List ℕ). thread ∷ parts_behind 46 given_rest) rest_is ∙ ap (λ (given_words : List (List ℕ)). thread ∷ given_words) (parts_none 46 count count_free) in
    (thread, count, thread_number, plain_count, (sym (join_with_byte-slice_split 46 word) ∙ ap (join_with_byte 46) all_parts ∙ sym (append_assoc thread (codes ".") count)), refl, refl)

-- ---- names of objects

pub word_of_name : (name : Name) → name.thread < 2 ^ 64 → name.count < 2 ^ 64 → IsDumpReference (name_word name) (Some name)
word_of_name name small_thread count =
    (decimal name.thread, decimal name.count, decimal_is_number name.thread small_thread, decimal_is_number name.count count, refl, sym (digits_value-decimal own name.thread small_thread), sym (digits_value-decimal own name.count count))

pub name_of_word : (word : List ℕ) (name : Name) → name.thread < 2 ^ 64 → name.count < 2 ^ 64 → IsDumpReference word (Some name) → word ≡ name_word name
name_of_word word name small_thread count dump_reference =
    let thread_spelled = number_spelled dump_reference.0 dump_reference.2 (subst (λ (number : ℕ). number < 2 ^ 64) dump_reference.5 small_thread) ∙ ap decimal (sym dump_reference.5) in
    let count_spelled = number_spelled dump_reference.1 dump_reference.3 (subst (λ (number : ℕ). number < 2 ^ 64) dump_reference.6 count) ∙ ap decimal (sym dump_reference.6) in
    dump_reference.4 ∙ ap (λ (given_word : List ℕ). given_word ++ codes "." ++ dump_reference.1) thread_spelled ∙ ap (λ (given_word : List ℕ). decimal name.thread ++ codes "." ++ given_word) count_spelled

-- a name of an object fits
pub named_small : (counts : List ℕ) (name : Name) → length counts ≤ 8 → ((index : ℕ) → slice_index counts index < 2 ^ 32) → IsNamed counts name → (name.thread < 2 ^ 32) × (name.count < 2 ^ 32)
named_small counts name at_most each_small (inl named_there) = (subst (λ (name : Name). name.thread < 2 ^ 32) (sym named_there) (lit< tt), subst (λ (name : Name). name.count < 2 ^ 32) (sym named_there) (lit< tt))
named_small counts name at_most each_small (inr name_made) = (omega (arith, name_made.to_last, at_most), omega (arith, name_made.to_count, each_small (name.thread - 1)))

pub held_small : (name : Name) → name.thread < 2 ^ 32 → name.count < 2 ^ 32 → held_name name ≡ name
held_small name small_thread count = rw (lt-ltb name.thread (2 ^ 32) small_thread, lt-ltb name.count (2 ^ 32) count) refl

nobody_unnamed : (counts : List ℕ) (name : Name) → length counts ≤ 8 → name ≡ nameless → IsNamed counts name → ⊥
nobody_unnamed counts name at_most is_nameless (inl at_hub) = let impossible : ◌≡◌ {A = ℕ} 4294967295 0 = sym (ap (λ (name : Name). name.thread) is_nameless) ∙ ap (λ (name : Name). name.thread) at_hub in absurd (omega (arith, impossible))
nobody_unnamed counts name at_most is_nameless (inr name_made) = omega (arith, name_made.to_last, at_most, ap (λ (name : Name). name.thread) is_nameless)

-- what is held as the name of an object is that name
pub held_named : (counts : List ℕ) (name : Name) → length counts ≤ 8 → IsNamed counts (held_name name) → held_name name ≡ name
held_named counts name at_most held_is_named = by_test (fits name) refl
  where
    by_test : (holds : Bool) → fits name ≡ holds → held_name name ≡ name
    by_test true test_is = rw test_is refl
    by_test false test_is = let held_nameless : held_name name ≡ nameless = rw test_is refl in absurd (nobody_unnamed counts (held_name name) at_most held_nameless held_is_named)

pub no_named : (counts word : List ℕ) → length counts ≤ 8 → ((index : ℕ) → slice_index counts index < 2 ^ 32) → ((reference : Reference) → IsDumpReference word reference → ⊥) → (name : Name) → IsNamed counts name → word ≡ name_word name → ⊥
no_named counts word at_most each_small none_read name named is_name_word =
    let small_name = named_small counts name at_most each_small named in
    none_read (Some name) (subst (λ (given_word : List ℕ). IsDumpReference given_word (Some name)) (sym is_name_word) (word_of_name name (omega (arith, small_name.0)) (omega (arith, small_name.1))))

pub taken_name : (counts word : List ℕ) (reference : Reference) (name : Name) → length counts ≤ 8 → ((index : ℕ) → slice_index counts index < 2 ^ 32) → IsDumpReference word reference → Some name ≡ held reference → IsNamed counts name → word ≡ name_word name
taken_name counts word None name at_most each_small reads_reference is_held named = absurd cc
taken_name counts word (Some other_name) name at_most each_small reads_reference is_held named =
    let held_same : name ≡ held_name other_name = cc in
    let equal_names : name ≡ other_name = held_same ∙ held_named counts other_name at_most (subst (IsNamed counts) held_same named) in
    let small_name = named_small counts name at_most each_small named in
    name_of_word word name (omega (arith, small_name.0)) (omega (arith, small_name.1)) (subst (λ (name : Name). IsDumpReference word (Some name)) (sym equal_names) reads_reference)

pub other_name : (counts word : List ℕ) (reference : Reference) (other_reference : Reference) → length counts ≤ 8 → ((index : ℕ) → slice_index counts index < 2 ^ 32) → IsDumpReference word reference → other_reference ≡ held reference → ((name : Name) → other_reference ≡ Some name → IsNamed counts name → ⊥)
    → (given_name : Name) → IsNamed counts given_name → word ≡ name_word given_name → ⊥
other_name counts word reference other_reference at_most each_small reads_reference is_held none_named name named is_name_word =
    let small_name = named_small counts name at_most each_small named in
    let same_reference : reference ≡ Some name = reference_once word reference (Some name) reads_reference (subst (λ (given_word : List ℕ). IsDumpReference given_word (Some name)) (sym is_name_word) (word_of_name name (omega (arith, small_name.0)) (omega (arith, small_name.1)))) in
    none_named name (is_held ∙ ap held same_reference ∙ ap Some (held_small name small_name.0 small_name.1)) named
