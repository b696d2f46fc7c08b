-- An answer is lines, of which none is `history`.
use Rattle.std.proofs.Common.{◌≡◌, ◌≢◌, ℕ, zero, suc, ◌+◌, ◌^◌, ◌<◌, ◌≤◌, Bool, true, false, cond, ltb, List, [], ◌∷◌, ◌++◌, length, map, codes, Some, None, refl, sym, ap, subst, ◌∙◌, append_assoc, append-nil, arith}
use Rattle.std.specs.Prelude.{All}
use Rattle.std.specs.Fmt.{decimal}
use Rattle.std.specs.List.{flat_map, join_with_byte, range_with_len, AllByRecursion}
use Rattle.std.proofs.lemmas.List.Concat.{flat_map-cons}
use Rattle.std.proofs.lemmas.Grind.{flat_map-append}
use Rattle.std.proofs.lemmas.List.Elements.{All-head, All-tail}
use Rattle.shen_graph.proofs.Lists.{all_append}
use Rattle.shen_graph.specs.declared.name.Name.{Name}
use Rattle.shen_graph.specs.declared.command.Reply.{Reply}
use Rattle.shen_graph.specs.declared.command.Reply.TheVariants.{Ref, Null, Ok, Yes, No, Number, Bad, Full, At}
use Rattle.shen_graph.specs.Graph.{Reference}
use Rattle.shen_graph.specs.GraphText.{Row}
use Rattle.trace_reading.specs.Spelling.{newline}
use Rattle.trace_reading.specs.Causes.{parts}
use Rattle.trace_reading.proofs.Free.{is_free, free_both, parts_at, IsWord, parts_again, joined_free}
use Rattle.trace_reading.proofs.Numerals.{decimal_word}
use Rattle.trace_text.specs.Answer.{line_of, name_word, reference_word, reply_word, reply_line, object_line, root_spellings, roots_line, pin_spellings, pins_line, pins_text, thread_numbers, answer_text}
use Rattle.trace_text.specs.Entries.{FitsReply}
use Rattle.trace_text.specs.LineCuts.{with_ends, IsCutAt}
use Rattle.trace_text.proofs.CutLines.{AreOthers}
use Rattle.trace_text.proofs.SmallGraphs.{IsSmallName, IsSmallReference}

-- ---- lines

abbrev AreFree : List (List ℕ) → Type 0
AreFree lines = AllByRecursion (λ line. is_free 10 line ≡ true) lines

-- the text is lines, and none is `history`
pub record AreLines (text : List ℕ) : Type 0 where
  pub lines : List (List ℕ)
  pub spelled : text ≡ with_ends lines
  pub free : AreFree lines
  pub others : AreOthers (codes "history") lines

no_lines : AreLines []
no_lines = record { lines = []; spelled = refl; free = tt; others = tt }

lines_both : (text other_text : List ℕ) → AreLines text → AreLines other_text → AreLines (text ++ other_text)
lines_both text second_text lines second_lines = record {
  lines = lines.lines ++ second_lines.lines;
  spelled = ap (λ (some_text : List ℕ). some_text ++ second_text) lines.spelled ∙ ap (λ (some_text : List ℕ). with_ends lines.lines ++ some_text) second_lines.spelled ∙ sym (flat_map-append (λ (some_line : List ℕ). some_line ++ newline ∷ []) lines.lines second_lines.lines);
  free = all_append (λ line. is_free 10 line ≡ true) lines.lines second_lines.lines lines.free second_lines.free;
  others = all_append (λ line. line ≢ codes "history") lines.lines second_lines.lines lines.others second_lines.others;
}

lines_each : {X : Type 0} (f : X → List ℕ) (P : X → Type 0) (xs : List X) → ((x : X) → P x → AreLines (f x)) → AllByRecursion P xs → AreLines (flat_map f xs)
lines_each f P [] each_lines all_hold = no_lines
lines_each f P (x ∷ xs) each_lines all_hold = subst AreLines (sym (flat_map-cons f x xs)) (lines_both (f x) (flat_map f xs) (each_lines x all_hold.0) (lines_each f P xs each_lines all_hold.1))

-- words are one line, which is not `history` where they are two or more
line_of_words : (first_word next_word : List ℕ) (later_words : List (List ℕ)) → AllByRecursion IsWord (first_word ∷ next_word ∷ later_words) → AreLines (line_of (first_word ∷ next_word ∷ later_words))
line_of_words first_word next_word later_words all_words =
    let text = join_with_byte 32 (first_word ∷ next_word ∷ later_words) in
    record {
      lines = text ∷ [];
      spelled = sym (flat_map-cons (λ (line : List ℕ). line ++ newline ∷ []) text [] ∙ nothing_more (text ++ newline ∷ []));
      free = (joined_free first_word (next_word ∷ later_words) all_words, tt);
      others = (λ same_line. two_words (sym (parts_again first_word (next_word ∷ later_words) all_words) ∙ ap (parts 32) same_line), tt);
    }
  where
    nothing_more : (text : List ℕ) → text ++ [] ≡ text
    nothing_more text = append-nil text

    two_words : first_word ∷ next_word ∷ later_words ≡ codes "history" ∷ [] → ⊥
    two_words same_words = absurd (omega (arith, ap length same_words))

parts_of_lines : (lines : List (List ℕ)) (rest : List ℕ) → AreFree lines → parts 10 (with_ends lines ++ rest) ≡ lines ++ parts 10 rest
parts_of_lines [] rest lines_free = refl
parts_of_lines (first_line ∷ lines) rest lines_free =
    let front : with_ends (first_line ∷ lines) ++ rest ≡ first_line ++ 10 ∷ (with_ends lines ++ rest) =
    ap (λ (bytes : List ℕ). bytes ++ rest) (flat_map-cons (λ (line : List ℕ). line ++ newline ∷ []) first_line lines) ∙ append_assoc (first_line ++ 10 ∷ []) (with_ends lines) rest ∙ append_assoc first_line (10 ∷ []) (with_ends lines ++ rest) in
    ap (parts 10) front ∙ parts_at 10 first_line (with_ends lines ++ rest) lines_free.0 ∙ ap (λ (pieces : List (List ℕ)). first_line ∷ pieces) (parts_of_lines lines rest lines_free.1)

-- behind such lines the line `history` is the first that is so
pub lines_cut : (text claimed : List ℕ) → AreLines text → IsCutAt (codes "history") (text ++ (codes "history" ++ 10 ∷ claimed)) text claimed
lines_cut text claimed are_lines =
    let rest = codes "history" ++ 10 ∷ claimed in
    record {
      lines = are_lines.lines;
      parts_are = ap (λ (bytes : List ℕ). parts 10 (bytes ++ rest)) are_lines.spelled ∙ parts_of_lines are_lines.lines rest are_lines.free ∙ ap (λ (pieces : List (List ℕ)). are_lines.lines ++ pieces) (parts_at 10 (codes "history") claimed refl);
      others = are_lines.others;
      before_is = are_lines.spelled;
    }

-- ---- words

word_both : (xs ys : List ℕ) → IsWord xs → IsWord ys → IsWord (xs ++ ys)
word_both xs ys word second_word = record { no_space = free_both 32 xs ys word.no_space second_word.no_space; no_end = free_both 10 xs ys word.no_end second_word.no_end }

number_word : (number : ℕ) → number < 2 ^ 64 → IsWord (decimal number)
number_word number small = decimal_word number small

name_is_word : (name : Name) → IsSmallName name → IsWord (name_word name)
name_is_word name small = word_both (decimal name.thread ++ codes ".") (decimal name.count) (word_both (decimal name.thread) (codes ".") (number_word name.thread (omega (arith, small.0))) (record { no_space = refl; no_end = refl })) (number_word name.count (omega (arith, small.1)))

reference_is_word : (reference : Reference) → IsSmallReference reference → IsWord (reference_word reference)
reference_is_word None small = record { no_space = refl; no_end = refl }
reference_is_word (Some name) small = name_is_word name small

reply_is_word : (reply : Reply) → FitsReply reply → IsWord (reply_word reply)
reply_is_word (Ref name) fits = name_is_word name fits
reply_is_word Null fits = record { no_space = refl; no_end = refl }
reply_is_word Ok fits = record { no_space = refl; no_end = refl }
reply_is_word Yes fits = record { no_space = refl; no_end = refl }
reply_is_word No fits = record { no_space = refl; no_end = refl }
reply_is_word (Number number) fits = number_word number fits
reply_is_word Bad fits = record { no_space = refl; no_end = refl }
reply_is_word Full fits = record { no_space = refl; no_end = refl }
reply_is_word (At place) fits = word_both (codes "@") (decimal place) (record { no_space = refl; no_end = refl }) (number_word place fits)

words_each : {X : Type 0} (f : X → List ℕ) (P : X → Type 0) (xs : List X) → ((x : X) → P x → IsWord (f x)) → All P xs → AllByRecursion IsWord (map f xs)
words_each f P [] each_word all_hold = tt
words_each f P (x ∷ xs) each_word all_hold = (each_word x (All-head P x xs all_hold), words_each f P xs each_word (All-tail P x xs all_hold))

-- ---- the answer

pub record IsSmallRow (row : Row) : Type 0 where
  pub name : IsSmallName row.name
  pub refs : All IsSmallReference row.refs
  pub nums : All (λ n. n < 2 ^ 64) row.nums

reply_lines : (thread : ℕ) (reply : Reply) → thread < 2 ^ 64 → FitsReply reply → AreLines (reply_line thread reply)
reply_lines thread reply small fits = line_of_words (decimal thread) (reply_word reply) [] (number_word thread small, (reply_is_word reply fits, tt))

object_lines : (row : Row) → IsSmallRow row → AreLines (object_line row)
object_lines row small =
    line_of_words (codes "object") (name_word row.name) (map reference_word row.refs ++ codes "/" ∷ map decimal row.nums) (
      record { no_space = refl; no_end = refl },
      (
        name_is_word row.name small.name,
        all_append IsWord (map reference_word row.refs) (codes "/" ∷ map decimal row.nums) (words_each reference_word IsSmallReference row.refs reference_is_word small.refs)
            (record { no_space = refl; no_end = refl }, words_each decimal (λ number. number < 2 ^ 64) row.nums number_word small.nums),
      ),
    )

root_words : (root : ℕ → Reference) (from count : ℕ) → ((thread : ℕ) → IsSmallReference (root thread)) → AllByRecursion IsWord (map (λ thread. reference_word (root thread)) (range_with_len from count))
root_words root from zero small = tt
root_words root from (suc count) small = (reference_is_word (root from) (small from), root_words root (from + 1) count small)

spelled_roots : (root : ℕ → Reference) → ((thread : ℕ) → IsSmallReference (root thread)) → AllByRecursion IsWord (root_spellings root)
unfolding root_spellings
spelled_roots root small = root_words root 0 16 small

root_lines : (line_thread : ℕ) (root : ℕ → Reference) → line_thread < 2 ^ 64 → ((thread : ℕ) → IsSmallReference (root thread)) → AreLines (roots_line line_thread root)
root_lines line_thread root thread_below small = line_of_words (codes "roots") (decimal line_thread) (root_spellings root) (record { no_space = refl; no_end = refl }, (number_word line_thread thread_below, spelled_roots root small))

spelled_pins : (pin : ℕ → Reference) → ((thread : ℕ) → IsSmallReference (pin thread)) → AllByRecursion IsWord (pin_spellings pin)
unfolding pin_spellings
spelled_pins pin small = root_words pin 0 4 small

pin_lines : (line_thread : ℕ) (pin : ℕ → Reference) → line_thread < 2 ^ 64 → ((thread : ℕ) → IsSmallReference (pin thread)) → AreLines (pins_line line_thread pin)
pin_lines line_thread pin thread_below small = line_of_words (codes "pins") (decimal line_thread) (pin_spellings pin) (record { no_space = refl; no_end = refl }, (number_word line_thread thread_below, spelled_pins pin small))

below : (bound from count : ℕ) → from + count ≤ bound → AllByRecursion (λ number. number < bound) (range_with_len from count)
below bound from zero range_below = tt
below bound from (suc count) range_below = (omega (arith, range_below), below bound (from + 1) count (omega (arith, range_below)))

graph_line : AreLines (line_of (codes "graph" ∷ []))
graph_line = record { lines = codes "graph" ∷ []; spelled = refl; free = (refl, tt); others = (λ same_line. absurd (omega (arith, ap length same_line)), tt) }

all_pins : (version threads : ℕ) (pin : ℕ → ℕ → Reference) → threads + 1 ≤ 2 ^ 64 → ((thread slot : ℕ) → IsSmallReference (pin thread slot)) → AreLines (pins_text version threads pin)
all_pins version threads pin at_most small = by_version (ltb version 2)
  where
    by_version : (test : Bool) → AreLines (cond test [] (flat_map (λ thread. pins_line thread (pin thread)) (thread_numbers threads)))
    by_version true = no_lines
    by_version false = lines_each (λ thread. pins_line thread (pin thread)) (λ thread_number. thread_number < 2 ^ 64) (thread_numbers threads) (λ thread low. pin_lines thread (pin thread) low (small thread)) (below (2 ^ 64) 1 threads (omega (arith, at_most)))

pub answer_lines : (version threads : ℕ) (replies : ℕ → List Reply) (rows : List Row) (root pin : ℕ → ℕ → Reference) → threads + 1 ≤ 2 ^ 64 → ((thread : ℕ) → AllByRecursion FitsReply (replies thread)) → AllByRecursion IsSmallRow rows
    → ((thread slot : ℕ) → IsSmallReference (root thread slot)) → ((thread slot : ℕ) → IsSmallReference (pin thread slot)) → AreLines (answer_text version threads replies rows root pin)
answer_lines version threads replies rows root pin at_most fit small roots pins =
    let numbers = below (2 ^ 64) 1 threads (omega (arith, at_most)) in
    lines_both _ _ (lines_each (λ thread_number. flat_map (reply_line thread_number) (replies thread_number)) (λ thread_number. thread_number < 2 ^ 64) (thread_numbers threads) (λ thread_number low. lines_each (reply_line thread_number) FitsReply (replies thread_number) (λ reply fits. reply_lines thread_number reply low fits) (fit thread_number)) numbers)
    (lines_both _ _ graph_line (lines_both _ _ (lines_each object_line IsSmallRow rows object_lines small)
    (lines_both _ _ (lines_each (λ thread. roots_line thread (root thread)) (λ thread_number. thread_number < 2 ^ 64) (thread_numbers threads) (λ thread low. root_lines thread (root thread) low (roots thread)) numbers)
    (all_pins version threads pin at_most pins))))
