use Rattle.std.proofs.lemmas.List.{length-map}
use Rattle.std.proofs.Common.{ℕ, ◌≡◌, Bool, true, false, List, [], ◌∷◌, map, length, length-append, sym, ap, subst, refl, ◌∙◌, arith}
use Rattle.std.specs.Prelude.{MatchBool}
use Rattle.std.specs.Fmt.{decimal}
use Rattle.std.proofs.lemmas.Bool.{false≢true}
use Rattle.shen_graph.specs.GraphText.{Row, Text, bare, names_of, row_of, with_numbers, with_references, with_whole_row}
use Rattle.shen_graph.proofs.RowLemmas.{rows_left, spare_left}
use Rattle.trace_reading.specs.Causes.{parts_behind}
use Rattle.heap_dump.specs.HeldReferences.{held, held_row}
use Rattle.heap_dump.specs.ObjectWords.{AreRowWords, HasHubFields, IsBehindLast}
use Rattle.heap_dump.proofs.RowWords.{no_parts, some_parts, row_name, row_rest, row_short, refs_room, nums_rows, added, added_row, held_fields, fields_held, row_taken, row_fields, row_numbers}
use Rattle.heap_dump.proofs.fields.take_object.Goals as goal
use Rattle.heap_dump.proofs.fields.take_object.Goals.{then-is_empty-via-then-is_empty, then-is_empty-via-else-is_empty+then-not-is_behind}

pub returns-then-is_empty : goal.returns-then-is_empty
returns-then-is_empty c = λ wanted_row row behind_last.
    let counts = c.args.counts.now in
    let word = c.in-Some.word.now in
    let row_words = subst (λ (any_words : List (List ℕ)). AreRowWords counts any_words wanted_row) c.in-Some.ensures.words row in
    elim c.then-is_empty.branch [
      | then-is_empty-via-then-is_empty w ↦ row_short counts word wanted_row (subst (λ (any_words : List (List ℕ)). AreRowWords counts (word ∷ any_words) wanted_row) (no_parts 32 c.in-Some.rest.now w.if-is_empty.ensures) row_words)
      | then-is_empty-via-else-is_empty+then-not-is_behind w ↦
          let name_read = c.in-Some-name_in.ensures in
          let same_name = row_name counts word (parts_behind 32 c.in-Some.rest.now) c.in-Some-name_in.name wanted_row c.requires.counts (λ index. omega (arith, c.type_inv.counts index)) name_read.0 name_read.1 row_words in
          absurd (false≢true (w.if-not-is_behind.ensures.1 (subst (IsBehindLast (names_of c.args.graph.now)) (sym same_name) behind_last)))
    ]

pub object-requires : goal.object-requires
object-requires c =
    let some_words = some_parts 32 c.in-Some.rest.now c.if-is_empty.ensures in
    let sizes = ap length c.in-Some.ensures.words in
    omega (arith, some_words, sizes, c.requires.room)

pub returns-in_default-take_references : goal.returns-in_default-take_references
returns-in_default-take_references c = λ wanted_row row behind_last.
    let counts = c.args.counts.now in
    let row_words = subst (λ (any_words : List (List ℕ)). AreRowWords counts any_words wanted_row) c.in-Some.ensures.words row in
    c.in_default-take_references.ensures wanted_row.refs (map decimal wanted_row.nums) (row_rest counts c.in-Some.word.now (parts_behind 32 c.in-Some.rest.now) wanted_row row_words)

pub take_numbers-requires-clause-row : goal.take_numbers-requires-clause-row
take_numbers-requires-clause-row c =
    let references_taken = c.in-Some-take_references.ensures in
    omega (
      arith,
      ap (λ text. length text.rows) references_taken.2,
      rows_left c.object.new.self (map held references_taken.0),
      ap (λ text. length text.rows) c.object.ensures,
      length-append c.args.graph.now.rows (bare c.in-Some-name_in.name ∷ []),
    )

pub take_numbers-requires-clause-room : goal.take_numbers-requires-clause-room
take_numbers-requires-clause-room c =
    let references_taken = c.in-Some-take_references.ensures in
    let sizes = ap length c.in-Some.ensures.words in
    omega (
      arith,
      c.requires.room,
      sizes,
      refs_room (parts_behind 32 c.in-Some.rest.now) (parts_behind 32 c.in-Some-take_references.rest.now) references_taken.0 references_taken.1,
      ap (λ text. text.spare) references_taken.2,
      spare_left c.object.new.self (map held references_taken.0),
      (length-map references_taken.0 held),
      ap (λ text. text.spare) c.object.ensures,
    )

pub has_fields-requires : goal.has_fields-requires
has_fields-requires c =
    let references_taken = c.in-Some-take_references.ensures in
    let numbers = c.if-take_numbers.ensures in
    omega (
      arith,
      c.rows-row.ensures,
      ap (λ text. length text.rows) numbers.2,
      nums_rows c.take_references.new.graph numbers.0,
      ap (λ text. length text.rows) references_taken.2,
      rows_left c.object.new.self (map held references_taken.0),
      ap (λ text. length text.rows) c.object.ensures,
      length-append c.args.graph.now.rows (bare c.in-Some-name_in.name ∷ []),
    )

pub returns-then-take_numbers : goal.returns-then-take_numbers
returns-then-take_numbers c = by_result c.has_fields.result c.has_fields.ensures.0 c.has_fields.ensures.1
  where
    counts : List ℕ
    counts = c.args.counts.now

    row : Row
    row = record { name = c.in-Some-name_in.name; refs = c.in-Some-take_references.ensures.0; nums = c.if-take_numbers.ensures.0 }

    graph : c.take_numbers.new.graph ≡ with_whole_row c.args.graph.now (held_row row)
    graph =
        c.if-take_numbers.ensures.2
        ∙ ap (λ (text : Text). with_numbers text row.nums) (c.in-Some-take_references.ensures.2 ∙ ap (λ (text : Text). with_references text (map held row.refs)) c.object.ensures)
        ∙ added c.args.graph.now row.name row.refs row.nums

    last : row_of c.take_numbers.new.graph c.rows-row.result ≡ held_row row
    last = ap (λ (text : Text). row_of text c.rows-row.result) graph ∙ ap (row_of (with_whole_row c.args.graph.now (held_row row))) c.rows-row.ensures ∙ added_row c.args.graph.now (held_row row)

    by_result : (holds : Bool) → (holds ≡ true → HasHubFields (row_of c.take_numbers.new.graph c.rows-row.result)) → (HasHubFields (row_of c.take_numbers.new.graph c.rows-row.result) → holds ≡ true)
        → MatchBool holds ((any_row : Row) × AreRowWords counts (parts_behind 32 c.args.words.now) any_row × IsBehindLast (names_of c.args.graph.now) any_row.name × (c.take_numbers.new.graph ≡ with_whole_row c.args.graph.now (held_row any_row)))
        ((wanted_row : Row) → AreRowWords counts (parts_behind 32 c.args.words.now) wanted_row → IsBehindLast (names_of c.args.graph.now) wanted_row.name → ⊥)
    by_result true forth back = (
      row,
      subst (λ (any_words : List (List ℕ)). AreRowWords counts any_words row) (sym c.in-Some.ensures.words)
          (row_taken counts c.in-Some.word.now (parts_behind 32 c.in-Some.rest.now) (parts_behind 32 c.in-Some-take_references.rest.now) row.name row.refs row.nums c.in-Some-name_in.ensures.0 c.in-Some-name_in.ensures.1
          c.in-Some-take_references.ensures.1 c.if-take_numbers.ensures.1 (held_fields row (subst HasHubFields last (forth refl)))),
      c.if-not-is_behind.ensures.0 refl,
      graph,
    )
    by_result false forth back = λ wanted_row row_spelled behind_last.
        let row_words = subst (λ (any_words : List (List ℕ)). AreRowWords counts any_words wanted_row) c.in-Some.ensures.words row_spelled in
        let name_read = c.in-Some-name_in.ensures in
        let same_name = row_name counts c.in-Some.word.now (parts_behind 32 c.in-Some.rest.now) row.name wanted_row c.requires.counts (λ index. omega (arith, c.type_inv.counts index)) name_read.0 name_read.1 row_words in
        let fields = row_fields counts c.in-Some.word.now (parts_behind 32 c.in-Some.rest.now) (parts_behind 32 c.in-Some-take_references.rest.now) row.name row.refs row.nums wanted_row same_name
        c.in-Some-take_references.ensures.1 c.if-take_numbers.ensures.1 row_words in
        false≢true (back (subst HasHubFields (sym last) (fields_held row fields)))

pub returns-else-take_numbers : goal.returns-else-take_numbers
returns-else-take_numbers c =
    rw c.if-take_numbers.false
    (λ wanted_row row_spelled behind_last.
    let counts = c.args.counts.now in
    let row_words = subst (λ (any_words : List (List ℕ)). AreRowWords counts any_words wanted_row) c.in-Some.ensures.words row_spelled in
    c.if-take_numbers.ensures wanted_row.nums (row_numbers counts c.in-Some.word.now (parts_behind 32 c.in-Some.rest.now) (parts_behind 32 c.in-Some-take_references.rest.now) c.in-Some-take_references.ensures.0 wanted_row c.in-Some-take_references.ensures.1 row_words))
