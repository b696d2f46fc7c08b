-- Taking the lines of objects one after the other.
use Rattle.std.proofs.Common.{ℕ, ◌≡◌, ◌+◌, ◌^◌, ◌<◌, ◌≤◌, inl, inr, List, [], ◌∷◌, ◌++◌, length, map, codes, lit<, refl, sym, ap, subst, ◌∙◌, arith, length-append}
use Rattle.std.specs.Prelude.{slice_index}
use Rattle.std.specs.Fmt.{decimal}
use Rattle.std.proofs.lemmas.List.{map-append, length-map}
use Rattle.std.proofs.lemmas.List.Elements.{All-push, All-nil}
use Rattle.heap_words.specs.declared.config.Config.{Config}
use Rattle.shen_graph.specs.declared.name.Name.{Name}
use Rattle.shen_graph.specs.GraphText.{Row, Text, names_of, with_whole_row}
use Rattle.shen_graph.specs.Reach.{InOrder}
use Rattle.trace_reading.specs.Causes.{parts, parts_behind}
use Rattle.trace_reading.proofs.Leads.{bytes_of_line}
use Rattle.trace_text.specs.Answer.{name_word}
use Rattle.heap_dump.specs.Dumped.{IsRow}
use Rattle.heap_dump.specs.DumpLines.{DumpStage, Listed, DumpFollows}
use Rattle.heap_dump.specs.HeldReferences.{held, held_row}
use Rattle.heap_dump.specs.ObjectWords.{AreRowWords, IsBehindLast}
use Rattle.heap_dump.specs.Listing.{separators, listed, HasTakenRows}
use Rattle.heap_dump.proofs.References.{named_small}
use Rattle.heap_dump.proofs.Strokes.{length_refs}
use Rattle.heap_dump.proofs.Steps.{leads_none, leads_one, leads_both}
use Rattle.heap_dump.proofs.Lined.{words_line, object_words, roots_words, mark_words, object_is_no_roots, object_is_no_mark, names_held, order_more, order_behind, names_more, parts_room, separators_line}

abbrev name_of : Row → Name
name_of row = row.name

pub rows_none : (counts bytes : List ℕ) (text : Text) → text.rows ≡ [] → separators bytes ≤ text.spare → HasTakenRows counts bytes bytes 0 text text
rows_none counts bytes text no_rows room_there = record {
  rows = [];
  led = λ config. leads_none (Listed (listed config counts [] [])) bytes;
  held = no_rows;
  order = tt;
  all = All-nil (IsRow counts);
  roots = refl;
  room = room_there;
  shorter = omega arith;
}

pub names_now : (counts bytes rest : List ℕ) (lines : ℕ) (before now_text : Text) → (rows_taken : HasTakenRows counts bytes rest lines before now_text) → names_of now_text ≡ map name_of rows_taken.rows
names_now counts bytes rest lines before now_text rows_taken = ap (map name_of) rows_taken.held ∙ names_held rows_taken.rows

-- the words behind `object` and one more have room
pub object_room : (rest text behind_text words : List ℕ) (spare : ℕ) → parts 10 rest ≡ text ∷ parts 10 behind_text → parts 32 text ≡ codes "object" ∷ parts_behind 32 words → separators rest ≤ spare
    → length (parts_behind 32 words) + 1 + separators behind_text ≤ spare
object_room rest text behind_text words spare cut first_part room_there =
    let whole_count = ap separators (bytes_of_line rest text behind_text cut) ∙ separators_line text behind_text in
    let sizes = ap length first_part in
    omega (arith, room_there, whole_count, sizes, parts_room text)

row_length : (counts : List ℕ) (words : List (List ℕ)) (row : Row) → AreRowWords counts words row → length words ≡ 2 + length row.refs + length row.nums
row_length counts words given_row row =
    let sizes = ap length row.words_are in
    omega (
      arith,
      sizes,
      length-append row.spelled (codes "/" ∷ map decimal given_row.nums),
      length_refs row.spelled given_row.refs row.are,
      (length-map given_row.nums decimal),
    )

pub rows_more : (counts bytes rest behind_text : List ℕ) (lines : ℕ) (before now_text after : Text) (text words : List ℕ) (row : Row) → HasTakenRows counts bytes rest lines before now_text
    → parts 10 rest ≡ text ∷ parts 10 behind_text → parts 32 text ≡ codes "object" ∷ parts_behind 32 words → length behind_text < length rest
    → AreRowWords counts (parts_behind 32 words) row → IsBehindLast (names_of now_text) row.name → after ≡ with_whole_row now_text (held_row row)
    → HasTakenRows counts bytes behind_text (lines + 1) before after
rows_more counts bytes rest behind_text lines before now_text after text words given_row rows_taken cut first_part rest_shorter row behind_last text_made =
    let rows = rows_taken.rows ++ given_row ∷ [] in
    let names = names_now counts bytes rest lines before now_text rows_taken in
    let order : InOrder (map name_of rows) =
    subst InOrder (sym (names_more rows_taken.rows given_row)) (order_more (map name_of rows_taken.rows) given_row.name rows_taken.order (subst (λ (name_list : List Name). IsBehindLast name_list given_row.name) names behind_last)) in
    let spells = words_line text (codes "object" ∷ name_word given_row.name ∷ (row.spelled ++ codes "/" ∷ map decimal given_row.nums)) (first_part ∙ ap (λ (word_list : List (List ℕ)). codes "object" ∷ word_list) row.words_are) in
    record {
      rows = rows;
      led = (λ config.
          leads_both (Listed (listed config counts [] [])) (Listed (listed config counts rows_taken.rows [])) (Listed (listed config counts rows [])) bytes rest behind_text lines 1 (rows_taken.led config)
          (leads_one (Listed (listed config counts rows_taken.rows [])) (Listed (listed config counts rows [])) rest text behind_text cut (inl (given_row, row.spelled, refl, row.row, order, row.are, spells, refl))));
      held = (ap (λ (text : Text). text.rows) text_made ∙ ap (λ (row_list : List Row). row_list ++ held_row given_row ∷ []) rows_taken.held ∙ sym (map-append held_row rows_taken.rows (given_row ∷ [])));
      order = order;
      all = All-push (IsRow counts) rows_taken.rows given_row rows_taken.all row.row;
      roots = ap (λ (text : Text). text.roots) text_made ∙ rows_taken.roots;
      room = (omega (
        arith,
        object_room rest text behind_text words now_text.spare cut first_part rows_taken.room,
        row_length counts (parts_behind 32 words) given_row row,
        ap (λ (text : Text). text.spare) text_made,
        (length-map given_row.refs held),
      ));
      shorter = omega (arith, rows_taken.shorter, rest_shorter);
    }

pub rows_refused : (counts bytes rest behind_text : List ℕ) (lines : ℕ) (before now_text : Text) (text words : List ℕ) (config : Config) → (rows_taken : HasTakenRows counts bytes rest lines before now_text)
    → parts 32 text ≡ codes "object" ∷ parts_behind 32 words → length counts ≤ 8 → ((index : ℕ) → slice_index counts index < 2 ^ 32)
    → ((row : Row) → AreRowWords counts (parts_behind 32 words) row → IsBehindLast (names_of now_text) row.name → ⊥) → (next_stage : DumpStage) → DumpFollows (Listed (listed config counts rows_taken.rows [])) text next_stage → ⊥
rows_refused counts bytes rest behind_text lines before now_text text words config rows_taken first_part at_most counts_small no_row next_stage (inl follows) =
    let small_name = named_small counts follows.0.name at_most counts_small follows.3.name in
    let all_words = object_words text follows.0 follows.1 (omega (arith, small_name.0)) (omega (arith, small_name.1)) follows.5 follows.3.fields.fit follows.6 in
    let same_words = (heads (codes "object") (codes "object") (parts_behind 32 words) (name_word follows.0.name ∷ (follows.1 ++ codes "/" ∷ map decimal follows.0.nums)) (sym first_part ∙ all_words)).1 in
    no_row follows.0 (record { row = follows.3; spelled = follows.1; are = follows.5; words_are = same_words })
    (subst (λ (name_list : List Name). IsBehindLast name_list follows.0.name) (sym (names_now counts bytes rest lines before now_text rows_taken)) (order_behind (map name_of rows_taken.rows) follows.0.name (subst InOrder (names_more rows_taken.rows follows.0) follows.4)))
  where
    heads : {A : Type 0} (x y : A) (xs ys : List A) → x ∷ xs ≡ y ∷ ys → (x ≡ y) × (xs ≡ ys)
    heads x y xs ys lists_agree = (cc, cc)
rows_refused counts bytes rest behind_text lines before now_text text words config rows_taken first_part at_most counts_small no_row next_stage (inr (inl follows)) =
    object_is_no_roots (parts_behind 32 words) (decimal 1 ∷ follows.1) (sym first_part ∙ roots_words text 1 follows.0 follows.1 (lit< tt) follows.4 follows.5)
rows_refused counts bytes rest behind_text lines before now_text text words config rows_taken first_part at_most counts_small no_row next_stage (inr (inr follows)) =
    object_is_no_mark (parts_behind 32 words) [] (sym first_part ∙ mark_words text follows.1)
