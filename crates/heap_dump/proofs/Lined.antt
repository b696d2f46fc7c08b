-- Lines of objects, by their words.
use Rattle.std.proofs.Common.{ℕ, ◌≡◌, ◌+◌, ◌^◌, ◌<◌, ◌≤◌, ◌||◌, Bool, true, false, cond, List, [], ◌∷◌, ◌++◌, length, map, take, drop, codes, refl, sym, ap, subst, ◌∙◌, None, Some, arith}
use Rattle.std.specs.Prelude.{All}
use Rattle.std.specs.List.{join_with_byte, onto_first, AllByRecursion}
use Rattle.std.specs.Fmt.{decimal}
use Rattle.std.specs.Prelude.{◌==◌}
use Rattle.std.proofs.lemmas.List.{map-append}
use Rattle.std.proofs.lemmas.List.Sums.{sum_by-cons, sum_by-append}
use Rattle.std.proofs.lemmas.List.Elements.{All-head, All-tail}
use Rattle.shen_graph.proofs.Lists.{cons_injective, same_before_end}
use Rattle.shen_graph.specs.declared.name.Name.{Name}
use Rattle.shen_graph.specs.Graph.{Reference}
use Rattle.shen_graph.specs.GraphText.{Row}
use Rattle.shen_graph.specs.Reach.{InOrder}
use Rattle.trace_reading.specs.Spelling.{newline}
use Rattle.trace_reading.specs.Causes.{parts, parts_behind}
use Rattle.trace_reading.proofs.Cuts.{cut_parts, count_before}
use Rattle.trace_reading.proofs.Words.{number_digits}
use Rattle.trace_reading.proofs.Free.{IsWord, free_both, free_digits, parts_again}
use Rattle.trace_reading.proofs.Numerals.{decimal_word}
use Rattle.trace_reading.proofs.HeadWords.{joined}
use Rattle.trace_text.specs.Answer.{line_of, name_word}
use Rattle.heap_dump.specs.DumpLines.{Spells, IsDumpReference, AreReferences}
use Rattle.heap_dump.specs.HeldReferences.{held_row}
use Rattle.heap_dump.specs.ObjectWords.{IsBehindLast}
use Rattle.heap_dump.specs.Listing.{separators}

-- ---- words

dash_word : IsWord (codes "-")
dash_word = record { no_space = refl; no_end = refl }

pub stroke_word : IsWord (codes "/")
stroke_word = record { no_space = refl; no_end = refl }

dotted_word : (xs ys : List ℕ) → IsWord xs → IsWord ys → IsWord (xs ++ codes "." ++ ys)
dotted_word xs ys word second_word = record {
  no_space = free_both 32 (xs ++ codes ".") ys (free_both 32 xs (codes ".") word.no_space refl) second_word.no_space;
  no_end = free_both 10 (xs ++ codes ".") ys (free_both 10 xs (codes ".") word.no_end refl) second_word.no_end;
}

pub name_is_word : (name : Name) → name.thread < 2 ^ 64 → name.count < 2 ^ 64 → IsWord (name_word name)
name_is_word name thread_small count = dotted_word (decimal name.thread) (decimal name.count) (decimal_word name.thread thread_small) (decimal_word name.count count)

dump_reference_word : (word : List ℕ) (reference : Reference) → IsDumpReference word reference → IsWord word
dump_reference_word word None dump_reference = subst IsWord (sym dump_reference) dash_word
dump_reference_word word (Some name) dump_reference =
    let name_is_word : IsWord dump_reference.0 = record { no_space = free_digits 32 dump_reference.0 (omega arith) (number_digits dump_reference.0 dump_reference.2); no_end = free_digits 10 dump_reference.0 (omega arith) (number_digits dump_reference.0 dump_reference.2) } in
    let second_word : IsWord dump_reference.1 = record { no_space = free_digits 32 dump_reference.1 (omega arith) (number_digits dump_reference.1 dump_reference.3); no_end = free_digits 10 dump_reference.1 (omega arith) (number_digits dump_reference.1 dump_reference.3) } in
    subst IsWord (sym dump_reference.4) (dotted_word dump_reference.0 dump_reference.1 name_is_word second_word)

pub references_are_words : (words : List (List ℕ)) (references : List Reference) → AreReferences words references → AllByRecursion IsWord words
references_are_words [] [] references = tt
references_are_words [] (reference ∷ later_references) references = absurd references
references_are_words (word ∷ words) [] references = absurd references
references_are_words (word ∷ words) (reference ∷ later_references) references = (dump_reference_word word reference references.0, references_are_words words later_references references.1)

pub words_both : (xs ys : List (List ℕ)) → AllByRecursion IsWord xs → AllByRecursion IsWord ys → AllByRecursion IsWord (xs ++ ys)
words_both [] ys left_words right_words = right_words
words_both (x ∷ xs) ys left_words right_words = (left_words.0, words_both xs ys left_words.1 right_words)

pub numbers_are_words : (given_numbers : List ℕ) → All (λ number. number < 2 ^ 64) given_numbers → AllByRecursion IsWord (map decimal given_numbers)
numbers_are_words [] all_small = tt
numbers_are_words (number ∷ given_numbers) all_small = (decimal_word number (All-head (λ number. number < 2 ^ 64) number given_numbers all_small), numbers_are_words given_numbers (All-tail (λ number. number < 2 ^ 64) number given_numbers all_small))

-- ---- the words of a line that is spelled so, and back

pub line_words : (text word : List ℕ) (later_words : List (List ℕ)) → AllByRecursion IsWord (word ∷ later_words) → Spells text (line_of (word ∷ later_words)) → parts 32 text ≡ word ∷ later_words
line_words text word later_words all_words spells = ap (parts 32) (same_before_end text (join_with_byte 32 (word ∷ later_words)) newline spells) ∙ parts_again word later_words all_words

pub words_line : (text : List ℕ) (words : List (List ℕ)) → parts 32 text ≡ words → Spells text (line_of words)
words_line text words same_words = ap (λ (line : List ℕ). line ++ newline ∷ []) (joined text words same_words)

pub object_title : IsWord (codes "object")
object_title = record { no_space = refl; no_end = refl }

pub roots_title : IsWord (codes "roots")
roots_title = record { no_space = refl; no_end = refl }

pub trace_title : IsWord (codes "trace")
trace_title = record { no_space = refl; no_end = refl }

pub object_words : (text : List ℕ) (row : Row) (words : List (List ℕ)) → row.name.thread < 2 ^ 64 → row.name.count < 2 ^ 64 → AreReferences words row.refs → All (λ number. number < 2 ^ 64) row.nums
    → Spells text (line_of (codes "object" ∷ name_word row.name ∷ (words ++ codes "/" ∷ map decimal row.nums))) → parts 32 text ≡ codes "object" ∷ name_word row.name ∷ (words ++ codes "/" ∷ map decimal row.nums)
object_words text row words thread_small count spelled nums_fit spells =
    line_words text (codes "object") (name_word row.name ∷ (words ++ codes "/" ∷ map decimal row.nums))
    (object_title, (name_is_word row.name thread_small count, words_both words (codes "/" ∷ map decimal row.nums) (references_are_words words row.refs spelled) (stroke_word, numbers_are_words row.nums nums_fit))) spells

pub roots_words : (text : List ℕ) (thread : ℕ) (roots : List Reference) (words : List (List ℕ)) → thread < 2 ^ 64 → AreReferences words roots → Spells text (line_of (codes "roots" ∷ decimal thread ∷ words)) → parts 32 text ≡ codes "roots" ∷ decimal thread ∷ words
roots_words text thread roots words thread_small spelled spells = line_words text (codes "roots") (decimal thread ∷ words) (roots_title, (decimal_word thread thread_small, references_are_words words roots spelled)) spells

pub mark_words : (text : List ℕ) → Spells text (line_of (codes "trace" ∷ [])) → parts 32 text ≡ codes "trace" ∷ []
mark_words text spells = line_words text (codes "trace") [] (trace_title, tt) spells

pub object_is_no_roots : (words later_words : List (List ℕ)) → codes "object" ∷ words ≡ codes "roots" ∷ later_words → ⊥
object_is_no_roots words later_words same_words = let same_letter = (cons_injective 111 114 _ _ (cons_injective (codes "object") (codes "roots") words later_words same_words).0).0 in omega (arith, same_letter)

pub object_is_no_mark : (words later_words : List (List ℕ)) → codes "object" ∷ words ≡ codes "trace" ∷ later_words → ⊥
object_is_no_mark words later_words same_words = let same_letter = (cons_injective 111 116 _ _ (cons_injective (codes "object") (codes "trace") words later_words same_words).0).0 in omega (arith, same_letter)

pub roots_is_no_mark : (words later_words : List (List ℕ)) → codes "roots" ∷ words ≡ codes "trace" ∷ later_words → ⊥
roots_is_no_mark words later_words same_words = let same_letter = (cons_injective 114 116 _ _ (cons_injective (codes "roots") (codes "trace") words later_words same_words).0).0 in omega (arith, same_letter)

-- ---- the order of names

pub names_held : (rows : List Row) → map (λ (row : Row). row.name) (map held_row rows) ≡ map (λ (row : Row). row.name) rows
names_held [] = refl
names_held (row ∷ rows) = ap (λ (listed_names : List Name). row.name ∷ listed_names) (names_held rows)

pub order_more : (names : List Name) (name : Name) → InOrder names → IsBehindLast names name → InOrder (names ++ name ∷ [])
order_more [] name order name_behind = tt
order_more (last_name ∷ []) name order name_behind = (name_behind, tt)
order_more (first_name ∷ next_name ∷ later_names) name order name_behind = (order.0, order_more (next_name ∷ later_names) name order.1 name_behind)

pub order_behind : (names : List Name) (name : Name) → InOrder (names ++ name ∷ []) → IsBehindLast names name
order_behind [] name order = tt
order_behind (last_name ∷ []) name order = order.0
order_behind (first_name ∷ next_name ∷ later_names) name order = order_behind (next_name ∷ later_names) name order.1

pub names_more : (rows : List Row) (row : Row) → map (λ (row : Row). row.name) (rows ++ row ∷ []) ≡ map (λ (row : Row). row.name) rows ++ row.name ∷ []
names_more rows row = map-append (λ (row : Row). row.name) rows (row ∷ [])

-- ---- room

abbrev is_separator : ℕ → ℕ
is_separator byte = cond ((byte == 32) || (byte == 10)) 1 0

more_separators : (byte : ℕ) (text : List ℕ) → separators (byte ∷ text) ≡ is_separator byte + separators text
more_separators byte text = sum_by-cons is_separator byte text

cut_room : (byte : ℕ) (text : List ℕ) (first : List ℕ) (rest : List (List ℕ)) → parts 32 text ≡ first ∷ rest → length (parts 32 text) ≤ separators text + 1 → (holds : Bool) → (byte == 32) ≡ holds
    → length (cond holds ([] ∷ parts 32 text) (onto_first byte (parts 32 text))) ≤ is_separator byte + separators text + 1
cut_room byte text first rest cut fewer_parts true tested = rw tested (omega (arith, fewer_parts))
cut_room byte text first rest cut fewer_parts false tested =
    let sizes = ap (λ (cut_words : List (List ℕ)). length (onto_first byte cut_words)) cut in
    let cut_length = ap length cut in
    omega (arith, fewer_parts, sizes, cut_length)

pub parts_room : (text : List ℕ) → length (parts 32 text) ≤ separators text + 1
parts_room [] = omega arith
parts_room (byte ∷ text) =
    let room_here = cut_room byte text (take (count_before 32 text) text) (parts_behind 32 (drop (count_before 32 text) text)) (cut_parts 32 text) (parts_room text) (byte == 32) refl in
    omega (arith, room_here, more_separators byte text)

pub separators_line : (text later_bytes : List ℕ) → separators (text ++ 10 ∷ later_bytes) ≡ separators text + 1 + separators later_bytes
separators_line text later_bytes =
    let all_separators = sum_by-append is_separator text (10 ∷ later_bytes) in
    let last_separators = more_separators 10 later_bytes in
    omega (arith, all_separators, last_separators)
