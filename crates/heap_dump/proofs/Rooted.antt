-- Taking the lines of roots one after the other.
use Rattle.std.proofs.Common.{ℕ, suc, ◌≡◌, ◌+◌, ◌-◌, ◌<◌, ◌≤◌, inl, inr, List, [], ◌∷◌, ◌++◌, length, map, drop, drop-cons, get_or, set, codes, refl, sym, ap, ◌∙◌, append_assoc, arith, length-append}
use Rattle.std.specs.Prelude.{All}
use Rattle.std.specs.List.{join_with_byte}
use Rattle.std.specs.Fmt.{decimal}
use Rattle.std.proofs.Math.Seq.{set-append_seam}
use Rattle.std.proofs.lemmas.List.{map-append, get_or-append_right, length-map}
use Rattle.std.proofs.lemmas.List.Elements.{All-push, All-get_or}
use Rattle.shen_graph.proofs.Lists.{same_before_end}
use Rattle.shen_graph.specs.Graph.{Reference}
use Rattle.shen_graph.specs.GraphText.{Text, roots_of}
use Rattle.trace_reading.specs.Spelling.{newline}
use Rattle.trace_reading.specs.Causes.{parts}
use Rattle.trace_reading.proofs.Free.{parts_at}
use Rattle.trace_reading.proofs.Leads.{bytes_of_line}
use Rattle.trace_text.specs.Answer.{line_of, name_word}
use Rattle.heap_dump.specs.Dumped.{Dumped}
use Rattle.heap_dump.specs.DumpLines.{DumpStage, Listed, DumpFollows, Spells}
use Rattle.heap_dump.specs.HeldReferences.{held}
use Rattle.heap_dump.specs.ObjectWords.{AreRootsWords}
use Rattle.heap_dump.specs.Listing.{HasTakenRoots, NoObjectLine}
use Rattle.heap_dump.proofs.Steps.{leads_one, leads_both}
use Rattle.heap_dump.proofs.Lined.{words_line, roots_words}

-- an element behind the first so many
pub set_seam : {A : Type 0} (xs ys : List A) (index : ℕ) (x default : A) → length xs ≡ index → index < length ys → set (xs ++ drop index ys) index x ≡ (xs ++ x ∷ []) ++ drop (index + 1) ys
set_seam xs ys index x default prefix_length index_below =
    let same_successor : suc index ≡ index + 1 = omega arith in
    ap (λ any_tail. set (xs ++ any_tail) index x) (drop-cons ys index default index_below)
    ∙ ap (λ place. set (xs ++ get_or ys index default ∷ drop (suc index) ys) place x) (sym prefix_length)
    ∙ set-append_seam xs (get_or ys index default) (drop (suc index) ys) x
    ∙ sym (append_assoc xs (x ∷ []) (drop (suc index) ys))
    ∙ ap (λ place. (xs ++ x ∷ []) ++ drop place ys) same_successor

pub get_seam : {A : Type 0} (xs ys : List A) (index : ℕ) (default : A) → length xs ≡ index → index < length ys → get_or (xs ++ drop index ys) index default ≡ get_or ys index default
get_seam xs ys index default prefix_length index_below =
    let no_distance : index - index ≡ 0 = omega arith in
    get_or-append_right xs (drop index ys) index index default prefix_length (omega arith) ∙ ap (λ other_index. get_or (drop index ys) other_index default) no_distance ∙ ap (λ tail. get_or tail 0 default) (drop-cons ys index default index_below)

abbrev pub held_roots : List (List Reference) → List (List Reference)
held_roots all_roots = map (map held) all_roots

pub next_sixteen : (bytes rest : List ℕ) (lines : ℕ) (before text_now : Text) (all_roots : List (List Reference)) → HasTakenRoots bytes rest lines before text_now all_roots → lines < length before.roots → All (λ (row : List Reference). length row ≡ 16) before.roots
    → length (roots_of text_now (lines + 1)) ≡ 16
next_sixteen bytes rest lines before text_now all_roots roots_taken lines_below full_rows =
    let line_back : lines + 1 - 1 ≡ lines = omega arith in
    ap (λ row_index. length (get_or text_now.roots row_index [])) line_back
    ∙ ap (λ (text : Text). length (get_or text.roots lines [])) roots_taken.text
    ∙ ap length (get_seam (held_roots all_roots) before.roots lines [] ((length-map all_roots (map held)) ∙ roots_taken.count) lines_below)
    ∙ All-get_or (λ (row : List Reference). length row ≡ 16) before.roots lines [] lines_below full_rows

pub roots_line_more : (bytes rest behind text : List ℕ) (lines : ℕ) (before text_now after : Text) (all_roots : List (List Reference)) (roots : List Reference) → HasTakenRoots bytes rest lines before text_now all_roots → parts 10 rest ≡ text ∷ parts 10 behind
    → AreRootsWords (parts 32 text) (codes "roots" ∷ decimal (lines + 1) ∷ []) roots → lines < length before.roots → after ≡ record text_now { roots = set text_now.roots (lines + 1 - 1) (map held roots) }
    → HasTakenRoots bytes behind (lines + 1) before after (all_roots ++ roots ∷ [])
roots_line_more bytes rest behind text lines before text_now after all_roots roots roots_taken cut are_words lines_below text_made =
    let line_back : lines + 1 - 1 ≡ lines = omega arith in
    let more_roots = all_roots ++ roots ∷ [] in
    let size = (length-map all_roots (map held)) ∙ roots_taken.count in
    let wanted_roots = held_roots more_roots ++ drop (lines + 1) before.roots in
    let rows : set text_now.roots (lines + 1 - 1) (map held roots) ≡ wanted_roots =
    ap (λ row_index. set text_now.roots row_index (map held roots)) line_back
    ∙ ap (λ (text : Text). set text.roots lines (map held roots)) roots_taken.text
    ∙ set_seam (held_roots all_roots) before.roots lines (map held roots) [] size lines_below
    ∙ ap (λ (given_roots : List (List Reference)). given_roots ++ drop (lines + 1) before.roots) (sym (map-append (map held) all_roots (roots ∷ []))) in
    let spells = words_line text (codes "roots" ∷ decimal (length all_roots + 1) ∷ are_words.spelled) (are_words.words_are ∙ ap (λ row_index. codes "roots" ∷ decimal (row_index + 1) ∷ are_words.spelled) (sym roots_taken.count)) in
    let size_rest = ap length (bytes_of_line rest text behind cut) in
    record {
      count = omega (arith, length-append all_roots (roots ∷ []), roots_taken.count);
      led = (λ dump no_roots same_mutators.
          leads_both (Listed dump) (Listed (record dump { roots = all_roots })) (Listed (record dump { roots = more_roots })) bytes rest behind lines 1 (roots_taken.led dump no_roots same_mutators)
          (leads_one (Listed (record dump { roots = all_roots })) (Listed (record dump { roots = more_roots })) rest text behind cut
          (inr (inl (roots, are_words.spelled, omega (arith, roots_taken.count, lines_below, same_mutators), are_words.each, are_words.are, spells, refl)))));
      each = All-push (λ (row : List Reference). length row ≡ 16) all_roots roots roots_taken.each are_words.each;
      text = (text_made ∙ ap (λ (text : Text). record text { roots = set text_now.roots (lines + 1 - 1) (map held roots) }) roots_taken.text ∙ ap (λ (any_roots : List (List Reference)). record before { roots = any_roots }) rows);
      shorter = omega (arith, roots_taken.shorter, size_rest, length-append text (10 ∷ behind));
    }

-- the first word of an object's line
pub object_first : (text first_word : List ℕ) (later_words : List (List ℕ)) → Spells text (line_of (codes "object" ∷ first_word ∷ later_words)) → parts 32 text ≡ codes "object" ∷ parts 32 (join_with_byte 32 (first_word ∷ later_words))
object_first text first_word later_words spells =
    ap (parts 32) (same_before_end text (join_with_byte 32 (codes "object" ∷ first_word ∷ later_words)) newline spells) ∙ parts_at 32 (codes "object") (join_with_byte 32 (first_word ∷ later_words)) refl

-- where no line was taken yet, the bytes are all
pub none_taken : (bytes rest : List ℕ) (lines : ℕ) (before text_now : Text) (all_roots : List (List Reference)) (dump : Dumped) → HasTakenRoots bytes rest lines before text_now all_roots → dump.roots ≡ [] → dump.config.mutators ≡ length before.roots → all_roots ≡ [] → parts 10 bytes ≡ parts 10 rest
none_taken bytes rest lines before text_now all_roots dump roots_taken no_roots same_mutators empty =
    let led = roots_taken.led dump no_roots same_mutators in
    let count : length led.texts ≡ 0 = led.count ∙ sym roots_taken.count ∙ ap length empty in
    led.cut ∙ ap (λ (given_texts : List (List ℕ)). given_texts ++ parts 10 rest) (no_texts led.texts count)
  where
    no_texts : (texts : List (List ℕ)) → length texts ≡ 0 → texts ≡ []
    no_texts [] no_length = refl
    no_texts (first_text ∷ texts) no_length = absurd (omega (arith, no_length))

pub roots_line_refused : (bytes rest behind text : List ℕ) (lines : ℕ) (before text_now : Text) (all_roots : List (List Reference)) (dump : Dumped) → HasTakenRoots bytes rest lines before text_now all_roots → parts 10 rest ≡ text ∷ parts 10 behind → NoObjectLine bytes
    → dump.roots ≡ [] → dump.config.mutators ≡ length before.roots → lines < length before.roots → length before.roots ≤ 8 → ((roots : List Reference) → AreRootsWords (parts 32 text) (codes "roots" ∷ decimal (lines + 1) ∷ []) roots → ⊥)
    → (next_stage : DumpStage) → DumpFollows (Listed (record dump { roots = all_roots })) text next_stage → ⊥
roots_line_refused bytes rest behind text lines before text_now all_roots dump roots_taken cut no_object no_roots same_mutators lines_below at_most refused next_stage (inl line_follows) =
    let name = name_word line_follows.0.name in
    let fields = line_follows.1 ++ codes "/" ∷ map decimal line_follows.0.nums in
    no_object text behind (parts 32 (join_with_byte 32 (name ∷ fields))) (none_taken bytes rest lines before text_now all_roots dump roots_taken no_roots same_mutators line_follows.2 ∙ cut) (object_first text name fields line_follows.6)
roots_line_refused bytes rest behind text lines before text_now all_roots dump roots_taken cut no_object no_roots same_mutators lines_below at_most refused next_stage (inr (inl line_follows)) =
    let words = roots_words text (length all_roots + 1) line_follows.0 line_follows.1 (omega (arith, roots_taken.count, lines_below, at_most)) line_follows.4 line_follows.5 in
    refused line_follows.0 (record { spelled = line_follows.1; are = line_follows.4; each = line_follows.3; words_are = words ∙ ap (λ row. codes "roots" ∷ decimal (row + 1) ∷ line_follows.1) roots_taken.count })
roots_line_refused bytes rest behind text lines before text_now all_roots dump roots_taken cut no_object no_roots same_mutators lines_below at_most refused next_stage (inr (inr line_follows)) =
    omega (arith, line_follows.0.form.each, roots_taken.count, same_mutators, lines_below)
