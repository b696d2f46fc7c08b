-- The rows with a mark are the dump of what the roots lead to.
use Rattle.std.proofs.Common.{ℕ, zero, suc, ◌≡◌, ◌+◌, ◌<◌, Bool, true, false, cond, List, [], ◌∷◌, ◌++◌, length, map, take, get_or, Some, inl, inr, refl, sym, ap, subst, ◌∙◌, append-nil, arith}
use Rattle.std.specs.Prelude.{Contains}
use Rattle.std.specs.List.{range_with_len}
use Rattle.std.proofs.lemmas.List.{get_or_default}
use Rattle.std.proofs.lemmas.List.Elements.{All-contains, All-weaker, All-contains_itself, Contains-append_right}
use Rattle.heap_words.specs.declared.config.Config.{Config}
use Rattle.shen_graph.specs.declared.name.Name.{Name}
use Rattle.shen_graph.specs.Graph.{Object, hub, same_name}
use Rattle.shen_graph.specs.GraphText.{Row, Text, bare, names_of, row_of, row_in}
use Rattle.shen_graph.specs.PlainGraph.{graph_of, object_in}
use Rattle.shen_graph.specs.Reach.{IsBefore, InOrder, IsReachable, IsReach}
use Rattle.shen_graph.proofs.PlainLemmas.{same_name-true}
use Rattle.shen_graph.proofs.ReachLemmas.{Contains-nil, Contains-cons_cases}
use Rattle.heap_dump.specs.Dumped.{Dumped, dumped, names_in, graph_in, IsRow, IsInForm, IsDump, HasDump, IsDumpOf, root_rows}
use Rattle.heap_dump.specs.RowsReached.{graph_from, is_marked, MarksReached, Lacks, marked_rows}
use Rattle.heap_dump.proofs.OwnGraph.{name_of, fields_of, name_at, length-names, before_at, order_rest, object_at, row_again, rows_by_names, counts_again, roots_again, same_parts}
use Rattle.heap_dump.proofs.Counted.{reachable_again, leads_in_all, leads_in_few}

-- ---- which rows have a mark

pub marked_there : (marks : List Bool) (rows : List Row) (index : ℕ) (row : Row) → index < length rows → get_or marks index false ≡ true → Contains (marked_rows marks rows) (get_or rows index row)
marked_there [] rows index row index_below row_marked = absurd cc
marked_there (mark ∷ marks) [] index row index_below row_marked = absurd (omega (arith, index_below))
marked_there (mark ∷ marks) (first_row ∷ rows) zero row index_below row_marked = subst (λ (holds : Bool). Contains (cond holds (first_row ∷ marked_rows marks rows) (marked_rows marks rows)) first_row) (sym row_marked) (0, omega arith, refl)
marked_there (mark ∷ marks) (first_row ∷ rows) (suc index) row index_below row_marked = by_mark mark (marked_there marks rows index row (omega (arith, index_below)) row_marked)
  where
    by_mark : (holds : Bool) → Contains (marked_rows marks rows) (get_or rows index row) → Contains (cond holds (first_row ∷ marked_rows marks rows) (marked_rows marks rows)) (get_or rows index row)
    by_mark true row_contained = Contains-append_right (first_row ∷ []) (marked_rows marks rows) (get_or rows index row) row_contained
    by_mark false row_contained = row_contained

abbrev HasMark : List Bool → List Row → Row → Type 0
HasMark marks rows row = (index : ℕ) × (index < length rows) × (get_or rows index row ≡ row) × (get_or marks index false ≡ true)

later : (mark : Bool) (marks : List Bool) (row asked_row : Row) (rows : List Row) → HasMark marks rows asked_row → HasMark (mark ∷ marks) (row ∷ rows) asked_row
later mark marks row asked_row rows has_mark = (suc has_mark.0, omega (arith, has_mark.1), has_mark.2, has_mark.3)

pub marked_from : (marks : List Bool) (rows : List Row) (row : Row) → Contains (marked_rows marks rows) row → HasMark marks rows row
marked_from [] rows row row_contained = absurd (Contains-nil row row_contained)
marked_from (mark ∷ marks) [] row row_contained = absurd (Contains-nil row row_contained)
marked_from (mark ∷ marks) (first_row ∷ rows) row row_contained = by_mark mark refl (marked_from marks rows row) row_contained
  where
    by_mark : (holds : Bool) → mark ≡ holds → (Contains (marked_rows marks rows) row → HasMark marks rows row) → Contains (cond holds (first_row ∷ marked_rows marks rows) (marked_rows marks rows)) row → HasMark (mark ∷ marks) (first_row ∷ rows) row
    by_mark true mark_tested others_marked row_contained = elim (Contains-cons_cases first_row (marked_rows marks rows) row row_contained) [
      | inl same_row ↦ (0, omega arith, same_row, mark_tested)
      | inr contained_later ↦ later mark marks first_row row rows (others_marked contained_later)
    ]
    by_mark false unset others_marked row_contained = later mark marks first_row row rows (others_marked row_contained)

-- one row more
pub marked_more : (marks : List Bool) (rows : List Row) (index : ℕ) (row : Row) → index < length rows → length marks ≡ length rows
    → marked_rows (take (index + 1) marks) (take (index + 1) rows) ≡ marked_rows (take index marks) (take index rows) ++ cond (get_or marks index false) (get_or rows index row ∷ []) []
marked_more marks [] index row index_below same_length = absurd (omega (arith, index_below))
marked_more [] (first_row ∷ rows) index row index_below same_length = absurd (omega (arith, same_length))
marked_more (mark ∷ marks) (first_row ∷ rows) zero row index_below same_length = by_mark mark
  where
    by_mark : (holds : Bool) → cond holds (first_row ∷ []) [] ≡ [] ++ cond holds (first_row ∷ []) []
    by_mark true = refl
    by_mark false = refl
marked_more (mark ∷ marks) (first_row ∷ rows) (suc index) row index_below same_length =
    let same_index : suc index + 1 ≡ suc (index + 1) = omega arith in
    let later_rows = marked_more marks rows index row (omega (arith, index_below)) (omega (arith, same_length)) in
    ap (λ (count : ℕ). marked_rows (take count (mark ∷ marks)) (take count (first_row ∷ rows))) same_index ∙ by_mark mark later_rows
  where
    by_mark : (holds : Bool) → marked_rows (take (index + 1) marks) (take (index + 1) rows) ≡ marked_rows (take index marks) (take index rows) ++ cond (get_or marks index false) (get_or rows index row ∷ []) []
        → cond holds (first_row ∷ marked_rows (take (index + 1) marks) (take (index + 1) rows)) (marked_rows (take (index + 1) marks) (take (index + 1) rows))
        ≡ cond holds (first_row ∷ marked_rows (take index marks) (take index rows)) (marked_rows (take index marks) (take index rows)) ++ cond (get_or marks index false) (get_or rows index row ∷ []) []
    by_mark true later_marked = ap (λ (listed : List Row). first_row ∷ listed) later_marked
    by_mark false later_marked = later_marked

pub marked_one : (marks : List Bool) (rows : List Row) (index : ℕ) (row : Row) → index < length rows → length marks ≡ length rows → get_or marks index false ≡ true
    → marked_rows (take (index + 1) marks) (take (index + 1) rows) ≡ marked_rows (take index marks) (take index rows) ++ get_or rows index row ∷ []
marked_one marks rows index row index_below same_length row_marked = marked_more marks rows index row index_below same_length ∙ ap (λ (holds : Bool). marked_rows (take index marks) (take index rows) ++ cond holds (get_or rows index row ∷ []) []) row_marked

pub unmarked_one : (marks : List Bool) (rows : List Row) (index : ℕ) (row : Row) → index < length rows → length marks ≡ length rows → get_or marks index false ≡ false
    → marked_rows (take (index + 1) marks) (take (index + 1) rows) ≡ marked_rows (take index marks) (take index rows)
unmarked_one marks rows index row index_below same_length not_marked =
    marked_more marks rows index row index_below same_length ∙ ap (λ (holds : Bool). marked_rows (take index marks) (take index rows) ++ cond holds (get_or rows index row ∷ []) []) not_marked ∙ append-nil (marked_rows (take index marks) (take index rows))

-- ---- names

named_there : (rows : List Row) (row : Row) → Contains rows row → Contains (map name_of rows) (name_of row)
named_there [] row row_contained = absurd (Contains-nil row row_contained)
named_there (first_row ∷ rows) row row_contained = elim (Contains-cons_cases first_row rows row row_contained) [
  | inl same_row ↦ (0, omega arith, ap name_of same_row)
  | inr contained_later ↦ Contains-append_right (name_of first_row ∷ []) (map name_of rows) (name_of row) (named_there rows row contained_later)
]

row_named : (rows : List Row) (name : Name) → Contains (map name_of rows) name → (row : Row) × Contains rows row × (name_of row ≡ name)
row_named [] name name_contained = absurd (Contains-nil name name_contained)
row_named (row ∷ rows) name name_contained = elim (Contains-cons_cases (name_of row) (map name_of rows) name name_contained) [
  | inl names_agree ↦ (row, (0, omega arith, refl), names_agree)
  | inr contained_later ↦ (let found_row = row_named rows name contained_later in (found_row.0, Contains-append_right (row ∷ []) rows found_row.0 found_row.1, found_row.2))
]

order_more : (name : Name) (names : List Name) → ((later_name : Name) → Contains names later_name → IsBefore name later_name) → InOrder names → InOrder (name ∷ names)
order_more name [] all_behind order = tt
order_more name (later_name ∷ later_names) all_behind order = (all_behind later_name (0, omega arith, refl), order)

pub marked_order : (marks : List Bool) (rows : List Row) → InOrder (map name_of rows) → InOrder (map name_of (marked_rows marks rows))
marked_order [] rows order = tt
marked_order (mark ∷ marks) [] order = tt
marked_order (mark ∷ marks) (row ∷ rows) order = by_mark mark (marked_order marks rows (order_rest row.name (map name_of rows) order))
  where
    behind : (name : Name) → Contains (map name_of (marked_rows marks rows)) name → IsBefore row.name name
    behind name name_contained =
        let found_row = row_named (marked_rows marks rows) name name_contained in
        let marked_at = marked_from marks rows found_row.0 found_row.1 in
        let found_before = before_at row.name (map name_of rows) marked_at.0 (name_of found_row.0) order (omega (arith, marked_at.1, length-names rows)) in
        subst (IsBefore row.name) (name_at rows marked_at.0 found_row.0 ∙ ap name_of marked_at.2 ∙ found_row.2) found_before

    by_mark : (holds : Bool) → InOrder (map name_of (marked_rows marks rows)) → InOrder (map name_of (cond holds (row ∷ marked_rows marks rows) (marked_rows marks rows)))
    by_mark true others = order_more row.name (map name_of (marked_rows marks rows)) behind others
    by_mark false others = others

-- ---- the object of a name

object_there : (rows : List Row) (row : Row) → InOrder (map name_of rows) → Contains rows row → object_in rows (name_of row) ≡ Some (fields_of row)
object_there rows row order row_contained = subst (λ (row : Row). object_in rows (name_of row) ≡ Some (fields_of row)) row_contained.2 (object_at rows row_contained.0 row order row_contained.1)

object_from : (rows : List Row) (name : Name) (object : Object) → object_in rows name ≡ Some object → (row : Row) × Contains rows row × (name_of row ≡ name) × (fields_of row ≡ object)
object_from [] name object object_there = absurd cc
object_from (first_row ∷ rows) name object object_there = by_test (same_name name first_row.name) refl (object_from rows name object) object_there
  where
    by_test : (holds : Bool) → same_name name first_row.name ≡ holds → (object_in rows name ≡ Some object → (row : Row) × Contains rows row × (name_of row ≡ name) × (fields_of row ≡ object)) → cond holds (Some (fields_of first_row)) (object_in rows name) ≡ Some object
        → (row : Row) × Contains (first_row ∷ rows) row × (name_of row ≡ name) × (fields_of row ≡ object)
    by_test true names_same others_named object_found = (first_row, (0, omega arith, refl), sym (same_name-true name first_row.name names_same), cc)
    by_test false names_differ others_named object_found = let found_row = others_named object_found in (found_row.0, Contains-append_right (first_row ∷ []) rows found_row.0 found_row.1, found_row.2, found_row.3)

row_in_rows : (marks : List Bool) (rows : List Row) (row : Row) → Contains (marked_rows marks rows) row → Contains rows row
row_in_rows marks rows row row_contained = let marked_at = marked_from marks rows row row_contained in (marked_at.0, marked_at.1, marked_at.2)

marked_object : (marks : List Bool) (rows : List Row) → InOrder (map name_of rows) → (name : Name) (object : Object) → object_in (marked_rows marks rows) name ≡ Some object → object_in rows name ≡ Some object
marked_object marks rows order name object object_found =
    let found_row = object_from (marked_rows marks rows) name object object_found in
    ap (object_in rows) (sym found_row.2) ∙ object_there rows found_row.0 order (row_in_rows marks rows found_row.0 found_row.1) ∙ ap Some found_row.3

-- ---- what the marks say

name_marked : (text : Text) (marks : List Bool) (name : Name) → Contains (map name_of (marked_rows marks text.rows)) name → (row : ℕ) × (row < length text.rows) × ((row_of text row).name ≡ name) × (is_marked marks row ≡ true)
name_marked text marks name name_contained =
    let found_row = row_named (marked_rows marks text.rows) name name_contained in
    let marked_at = marked_from marks text.rows found_row.0 found_row.1 in
    (marked_at.0, marked_at.1, ap name_of (get_or_default text.rows marked_at.0 (bare hub) found_row.0 marked_at.1 ∙ marked_at.2) ∙ found_row.2, marked_at.3)

marked_name : (text : Text) (marks : List Bool) (name : Name) (row : ℕ) → row < length text.rows → (row_of text row).name ≡ name → is_marked marks row ≡ true → Contains (map name_of (marked_rows marks text.rows)) name
marked_name text marks name row row_below name_there mark =
    subst (Contains (map name_of (marked_rows marks text.rows))) name_there (named_there (marked_rows marks text.rows) (row_of text row) (marked_there marks text.rows row (bare hub) row_below mark))

-- the dump of the rows with a mark
abbrev pub dump_left : Config → List ℕ → Text → List Bool → Dumped
dump_left config counts text marks = record { config = config; counts = counts; rows = marked_rows marks text.rows; roots = text.roots }

led_in_text : (config : Config) (counts : List ℕ) (text : Text) (name : Name) → IsReachable (graph_in (dumped config counts text)) name → IsReachable (graph_from text) name
led_in_text config counts text name led = reachable_again text.rows text.roots (0 ∷ counts) [] name led

text_leads : (config : Config) (counts : List ℕ) (text : Text) (name : Name) → IsReachable (graph_from text) name → IsReachable (graph_in (dumped config counts text)) name
text_leads config counts text name led = reachable_again text.rows text.roots [] (0 ∷ counts) name led

pub lacks_none : (config : Config) (counts : List ℕ) (text : Text) → HasDump (dumped config counts text) → Lacks text → ⊥
lacks_none config counts text has_dump lacking = lacking.2 (has_dump.all lacking.0 (text_leads config counts text lacking.0 lacking.1))

-- the object of a name to which the roots lead has a mark
reached_object : (config : Config) (counts : List ℕ) (text : Text) (marks : List Bool) → InOrder (names_of text) → MarksReached text marks → (name : Name) → IsReachable (graph_in (dumped config counts text)) name
    → object_in text.rows name ≡ object_in (marked_rows marks text.rows) name
reached_object config counts text marks order reached name led =
    let reached_row = reached.all name (led_in_text config counts text name led) name refl in
    let row_contained = marked_there marks text.rows reached_row.0 (bare hub) reached_row.1 reached_row.3 in
    let same_object = object_there text.rows (row_of text reached_row.0) order (row_in_rows marks text.rows (row_of text reached_row.0) row_contained) in
    let object_found = object_there (marked_rows marks text.rows) (row_of text reached_row.0) (marked_order marks text.rows order) row_contained in
    ap (object_in text.rows) (sym reached_row.2) ∙ same_object ∙ sym object_found ∙ ap (object_in (marked_rows marks text.rows)) reached_row.2

pub reach_all : (config : Config) (counts : List ℕ) (text : Text) (marks : List Bool) → InOrder (names_of text) → MarksReached text marks → IsReach (graph_in (dumped config counts text)) (names_in (dump_left config counts text marks))
reach_all config counts text marks order reached = record {
  in_order = marked_order marks text.rows order;
  all = λ name led. let reached_row = reached.all name (led_in_text config counts text name led) name refl in marked_name text marks name reached_row.0 reached_row.1 reached_row.2 reached_row.3;
  only = λ name name_contained. let reached_row = name_marked text marks name name_contained in subst (IsReachable (graph_in (dumped config counts text))) reached_row.2 (text_leads config counts text (row_of text reached_row.0).name (reached.led reached_row.0 reached_row.3));
}

pub reach_left : (config : Config) (counts : List ℕ) (text : Text) (marks : List Bool) → InOrder (names_of text) → MarksReached text marks → IsReach (graph_in (dump_left config counts text marks)) (names_in (dump_left config counts text marks))
reach_left config counts text marks order reached =
    let whole_reach = reach_all config counts text marks order reached in
    record {
      in_order = whole_reach.in_order;
      all = λ name led. whole_reach.all name (leads_in_all (marked_rows marks text.rows) text.rows text.roots (0 ∷ counts) (marked_object marks text.rows order) name led);
      only = λ name contained. leads_in_few (marked_rows marks text.rows) text.rows text.roots (0 ∷ counts) (reached_object config counts text marks order reached) name (whole_reach.only name contained);
    }

-- ---- the dump

form_left : (config : Config) (counts : List ℕ) (text : Text) (marks : List Bool) → IsInForm (dumped config counts text) → IsInForm (dump_left config counts text marks)
form_left config counts text marks form = record {
  narrow = form.narrow;
  threads = form.threads;
  counts = form.counts;
  rows = All-weaker (Contains (marked_rows marks text.rows)) (IsRow counts) (λ row row_contained. All-contains (IsRow counts) text.rows row form.rows (row_in_rows marks text.rows row row_contained)) (marked_rows marks text.rows) (All-contains_itself (marked_rows marks text.rows));
  order = marked_order marks text.rows form.order;
  each = form.each;
  roots = form.roots;
}

pub left_is_dump : (config : Config) (counts : List ℕ) (text : Text) (marks : List Bool) → HasDump (dumped config counts text) → MarksReached text marks → IsDump (dump_left config counts text marks)
left_is_dump config counts text marks has_dump reached = record { form = form_left config counts text marks has_dump.form; reach = reach_left config counts text marks has_dump.form.order reached }

rows_left : (config : Config) (counts : List ℕ) (text : Text) (marks : List Bool) → InOrder (names_of text) → map (row_in (graph_in (dumped config counts text))) (names_in (dump_left config counts text marks)) ≡ marked_rows marks text.rows
rows_left config counts text marks order =
    rows_by_names (row_in (graph_in (dumped config counts text))) (marked_rows marks text.rows) (λ index default low.
    let left_row = get_or (marked_rows marks text.rows) index default in
    row_again (dumped config counts text) (name_of left_row) (fields_of left_row) (object_there text.rows left_row order (row_in_rows marks text.rows left_row (index, low, get_or_default (marked_rows marks text.rows) index left_row default low))))

pub left_is_of : (config : Config) (counts : List ℕ) (text : Text) (marks : List Bool) → HasDump (dumped config counts text) → MarksReached text marks → IsDumpOf config (graph_in (dumped config counts text)) (dump_left config counts text marks)
unfolding graph_of
left_is_of config counts text marks has_dump reached =
    let graph = graph_in (dumped config counts text) in
    record {
      reach = reach_all config counts text marks has_dump.form.order reached;
      parts = (same_parts config (dump_left config counts text marks) (map graph.count (range_with_len 1 config.mutators)) (map (row_in graph) (names_in (dump_left config counts text marks))) (root_rows graph config.mutators)
          refl
          (counts_again counts config.mutators has_dump.form.threads)
          (rows_left config counts text marks has_dump.form.order)
          (roots_again text.roots config.mutators has_dump.form.each has_dump.form.roots));
    }
