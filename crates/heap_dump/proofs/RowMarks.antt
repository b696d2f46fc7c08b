-- Marking the rows that roots lead to.
use Rattle.std.proofs.Common.{ℕ, zero, suc, ◌≡◌, ◌≢◌, ◌+◌, ◌-◌, ◌<◌, ◌≤◌, ◌⊎◌, inl, inr, Bool, true, false, List, [], ◌∷◌, ◌++◌, length, replicate, get_or, set, refl, sym, ap, subst, ◌∙◌, None, Some, Option, arith, length-append}
use Rattle.std.specs.Prelude.{Contains, All, slice_get, unwrap_or}
use Rattle.std.specs.Prelude.{nat_eq}
use Rattle.std.specs.List.{list_any, IsDistinct}
use Rattle.std.proofs.lemmas.Cmp.{nat_eq_equiv}
use Rattle.std.proofs.lemmas.Map.Keys.{IsDistinct-push}
use Rattle.std.proofs.lemmas.Map.Steps.{length-le_from_distinct_below}
use Rattle.std.proofs.lemmas.Map.Views.{Contains-from_any}
use Rattle.std.proofs.lemmas.Bool.{eqb-true, false≢true, cases_lt, cases_eq}
use Rattle.std.proofs.lemmas.List.{get_or-set_same, get_or-set_other, length-set, get_or_past, get_or_default, get_or_append_left, get_or-replicate, length-replicate}
use Rattle.std.proofs.lemmas.List.Elements.{All-get_or, Contains-append_left, Contains-append_right, Contains-append_cases}
use Rattle.shen_graph.specs.declared.name.Name.{Name}
use Rattle.shen_graph.specs.Graph.{Object, Reference, hub, named}
use Rattle.shen_graph.specs.GraphText.{Text, bare, names_of, row_of, root_of}
use Rattle.shen_graph.specs.PlainGraph.{graph_of}
use Rattle.shen_graph.specs.Reach.{InOrder, IsBefore, IsReachable, IsReach}
use Rattle.shen_graph.specs.Reach.IsReachable.{from_root, from_pin, from_field}
use Rattle.shen_graph.proofs.ReachLemmas.{Contains-nil, Contains-cons_cases}
use Rattle.heap_dump.proofs.OwnGraph.{name_at, length-names, object_at}
use Rattle.heap_dump.specs.RowsReached.{graph_from, RootsLeadTo, is_marked, IsReachMarked, AreMarked, IsClosed, Grows, RowsAreReached, MarksReached, Lacks}
use Rattle.heap_dump.proofs.Ordered.{earlier, not_itself}

-- ---- a mark more

pub marked_now : (marks : List Bool) (row : ℕ) → row < length marks → is_marked (set marks row true) row ≡ true
marked_now marks row row_below = get_or-set_same marks row true false row_below

pub more_marks : (marks : List Bool) (row : ℕ) → row < length marks → (index : ℕ) → is_marked marks index ≡ true → is_marked (set marks row true) index ≡ true
more_marks marks row row_below index was_marked = by_case (cases_eq index row)
  where
    by_case : (index ≡ row) ⊎ (index ≢ row) → is_marked (set marks row true) index ≡ true
    by_case (inl same_row) = ap (is_marked (set marks row true)) same_row ∙ marked_now marks row row_below
    by_case (inr rows_differ) = get_or-set_other marks row index true false rows_differ ∙ was_marked

pub reached_more : (text : Text) (marks : List Bool) (order : List ℕ) (row : ℕ) (name : Name) → RowsAreReached text marks order → row < length text.rows → is_marked marks row ≡ false → (row_of text row).name ≡ name → IsReachable (graph_from text) name
    → RowsAreReached text (set marks row true) (order ++ row ∷ [])
reached_more text marks order row name rows_are_reached row_below unset row_named led = record { size = length-set marks row true ∙ rows_are_reached.size; once = once; listed = listed; marked = marked; led = leads }
  where
    inside : row < length marks
    inside = omega (arith, row_below, rows_are_reached.size)

    not_there : (found : Bool) → list_any (nat_eq row) order ≡ found → found ≡ false
    not_there false found_is = refl
    not_there true found_is = absurd (false≢true (sym unset ∙ (rows_are_reached.marked row (Contains-from_any eqb-true row order found_is)).1))

    once : IsDistinct nat_eq (order ++ row ∷ [])
    once = IsDistinct-push nat_eq_equiv order row rows_are_reached.once (not_there (list_any (nat_eq row) order) refl)

    here : (index : ℕ) → is_marked (set marks row true) index ≡ true → (index ≡ row) ⊎ (is_marked marks index ≡ true)
    here index is_set = by_case (cases_eq index row)
      where
        by_case : (index ≡ row) ⊎ (index ≢ row) → (index ≡ row) ⊎ (is_marked marks index ≡ true)
        by_case (inl same_row) = inl same_row
        by_case (inr rows_differ) = inr (sym (get_or-set_other marks row index true false rows_differ) ∙ is_set)

    listed : (index : ℕ) → is_marked (set marks row true) index ≡ true → Contains (order ++ row ∷ []) index
    listed index is_set = by_case (here index is_set)
      where
        by_case : (index ≡ row) ⊎ (is_marked marks index ≡ true) → Contains (order ++ row ∷ []) index
        by_case (inl same_row) = Contains-append_right order (row ∷ []) index (0, omega arith, sym same_row)
        by_case (inr was_marked) = Contains-append_left order (row ∷ []) index (rows_are_reached.listed index was_marked)

    marked : (index : ℕ) → Contains (order ++ row ∷ []) index → (index < length text.rows) × (is_marked (set marks row true) index ≡ true)
    marked index row_listed = by_case (Contains-append_cases order (row ∷ []) index row_listed)
      where
        at_end : Contains (row ∷ []) index → row ≡ index
        at_end row_in = by_cons (Contains-cons_cases row [] index row_in)
          where
            by_cons : (row ≡ index) ⊎ Contains [] index → row ≡ index
            by_cons (inl same_row) = same_row
            by_cons (inr in_nothing) = absurd (Contains-nil index in_nothing)

        by_case : Contains order index ⊎ Contains (row ∷ []) index → (index < length text.rows) × (is_marked (set marks row true) index ≡ true)
        by_case (inl in_order) = let was_marked = rows_are_reached.marked index in_order in (was_marked.0, more_marks marks row inside index was_marked.1)
        by_case (inr in_last) = let last_is = at_end in_last in (subst (λ (any_row : ℕ). any_row < length text.rows) last_is row_below, subst (λ (any_row : ℕ). is_marked (set marks row true) any_row ≡ true) last_is (marked_now marks row inside))

    leads : (index : ℕ) → is_marked (set marks row true) index ≡ true → IsReachable (graph_from text) (row_of text index).name
    leads index is_set = by_case (here index is_set)
      where
        by_case : (index ≡ row) ⊎ (is_marked marks index ≡ true) → IsReachable (graph_from text) (row_of text index).name
        by_case (inl same_row) = subst (λ (any_row : ℕ). IsReachable (graph_from text) (row_of text any_row).name) (sym same_row) (subst (IsReachable (graph_from text)) (sym row_named) led)
        by_case (inr was_marked) = rows_are_reached.led index was_marked

-- the rows in the list are at most all
pub few_reached : (text : Text) (marks : List Bool) (order : List ℕ) → RowsAreReached text marks order → length order ≤ length text.rows
few_reached text marks order rows_are_reached =
    length-le_from_distinct_below order (length text.rows) rows_are_reached.once (λ row row_listed. (rows_are_reached.marked row (Contains-from_any eqb-true row order row_listed)).0)

-- a reference that names a row with a mark
pub names_marked : (text : Text) (marks : List Bool) (name : Name) (row : ℕ) → row < length text.rows → (row_of text row).name ≡ name → is_marked marks row ≡ true → IsReachMarked text marks (Some name)
names_marked text marks name row row_below row_named mark = λ other_name names_it. let same_name : name ≡ other_name = cc in (row, row_below, row_named ∙ same_name, mark)

pub grows_more : (marks : List Bool) (order : List ℕ) (row : ℕ) → row < length marks → Grows marks order (set marks row true) (order ++ row ∷ [])
grows_more marks order row row_below = record {
  kept = more_marks marks row row_below;
  same = λ index index_below. get_or_append_left order (row ∷ []) 0 index index_below;
  long = omega (arith, length-append order (row ∷ []));
}

pub grows_both : (marks : List Bool) (order : List ℕ) (next_marks : List Bool) (next_order : List ℕ) (last_marks : List Bool) (longer : List ℕ) → Grows marks order next_marks next_order → Grows next_marks next_order last_marks longer → Grows marks order last_marks longer
grows_both marks order middle_marks next_order last_marks longer first_grows second_grows = record {
  kept = λ row known. second_grows.kept row (first_grows.kept row known);
  same = λ index known. second_grows.same index (omega (arith, known, first_grows.long)) ∙ first_grows.same index known;
  long = omega (arith, first_grows.long, second_grows.long);
}

pub still_marked : (text : Text) (marks new_marks : List Bool) (reference : Reference) → ((row : ℕ) → is_marked marks row ≡ true → is_marked new_marks row ≡ true) → IsReachMarked text marks reference → IsReachMarked text new_marks reference
still_marked text marks new_marks reference grows was_marked = λ name names_it. let found_row = was_marked name names_it in (found_row.0, found_row.1, found_row.2, grows found_row.0 found_row.3)

pub lacks : (text : Text) (name : Name) → RootsLeadTo text (Some name) → (Contains (names_of text) name → ⊥) → Lacks text
lacks text name led name_missing = (name, led name refl, name_missing)

-- ---- a row's object

pub named_row : (text : Text) (row : ℕ) → InOrder (names_of text) → row < length text.rows → named (graph_from text) (Some (row_of text row).name) ≡ record { refs = (row_of text row).refs; nums = (row_of text row).nums }
unfolding graph_of
named_row text row order row_below =
    ap (λ (found : Option Object). unwrap_or found (record { refs = []; nums = [] })) (object_at text.rows row (bare hub) order row_below)

pub field_led : (text : Text) (row : ℕ) (field : ℕ) (reference : Reference) → InOrder (names_of text) → row < length text.rows → RootsLeadTo text (Some (row_of text row).name)
    → slice_get (row_of text row).refs field ≡ Some reference → RootsLeadTo text reference
field_led text row field reference order row_below led field_is = λ name names_it.
    from_field (row_of text row).name name field (led (row_of text row).name refl)
    (ap (λ (object : Object). slice_get object.refs field) (named_row text row order row_below) ∙ field_is ∙ ap Some names_it)

pub root_led : (text : Text) (thread index : ℕ) (reference : Reference) → 1 ≤ thread → reference ≡ root_of text thread index → RootsLeadTo text reference
unfolding graph_of
root_led text zero index reference some_thread root_is led_name holds_name = absurd (omega arith)
root_led text (suc mutator) index reference some_thread root_is led_name holds_name =
    let one_back : suc mutator - 1 ≡ mutator = omega arith in
    from_root (suc mutator) index led_name (ap (λ (any_mutator : ℕ). get_or (get_or text.roots any_mutator []) index None) (sym one_back) ∙ sym root_is ∙ holds_name)

pub slice_get_at : {A : Type 0} (xs : List A) (index : ℕ) (default : A) → index < length xs → slice_get xs index ≡ Some (get_or xs index default)
slice_get_at [] index default index_below = absurd (omega arith)
slice_get_at (x ∷ xs) zero default index_below = refl
slice_get_at (x ∷ xs) (suc index) default index_below = slice_get_at xs index default (omega arith)

-- the reference of a field
pub field_at : (text : Text) (row field : ℕ) (reference : Reference) → InOrder (names_of text) → row < length text.rows → RootsLeadTo text (Some (row_of text row).name) → field < length (row_of text row).refs → reference ≡ get_or (row_of text row).refs field None → RootsLeadTo text reference
field_at text row field reference order row_below led field_inside field_is = field_led text row field reference order row_below led (slice_get_at (row_of text row).refs field None field_inside ∙ ap Some (sym field_is))

-- the fields so far, and one more
pub fields_more : (text : Text) (marks new_marks : List Bool) (row field : ℕ) (reference : Reference) → ((index : ℕ) (other_reference : Reference) → index < field → slice_get (row_of text row).refs index ≡ Some other_reference → IsReachMarked text marks other_reference)
    → ((index : ℕ) → is_marked marks index ≡ true → is_marked new_marks index ≡ true) → field < length (row_of text row).refs → reference ≡ get_or (row_of text row).refs field None → IsReachMarked text new_marks reference
    → (index : ℕ) (other_reference : Reference) → index < field + 1 → slice_get (row_of text row).refs index ≡ Some other_reference → IsReachMarked text new_marks other_reference
fields_more text marks new_marks row field reference marked_before grows field_below field_is now_marked index other_reference index_below field_found = by_case (cases_lt index field)
  where
    by_case : (index < field) ⊎ (field ≤ index) → IsReachMarked text new_marks other_reference
    by_case (inl field_before) = still_marked text marks new_marks other_reference grows (marked_before index other_reference field_before field_found)
    by_case (inr field_from) =
        let same_field : index ≡ field = omega (arith, index_below, field_from) in
        let same_entry : ◌≡◌ {A = Option Reference} (Some other_reference) (Some reference) = sym field_found ∙ ap (slice_get (row_of text row).refs) same_field ∙ slice_get_at (row_of text row).refs field None field_below ∙ ap Some (sym field_is) in
        let same_reference : other_reference ≡ reference = cc in
        subst (IsReachMarked text new_marks) (sym same_reference) now_marked

-- ---- all that is reachable is marked

module _ (text : Text) (marks : List Bool) (order : InOrder (names_of text)) (sixteen_each : All (λ (row : List Reference). length row ≡ 16) text.roots)
    (roots : (mutator index : ℕ) → mutator < length text.roots → index < 16 → IsReachMarked text marks (root_of text (mutator + 1) index)) (marks_closed : IsClosed text marks) where
  by_root : (mutator index : ℕ) (name : Name) → get_or (get_or text.roots mutator []) index None ≡ Some name → (row : ℕ) × (row < length text.rows) × ((row_of text row).name ≡ name) × (is_marked marks row ≡ true)
  by_root mutator index name root_is = by_low (cases_lt mutator (length text.roots))
    where
      back : mutator + 1 - 1 ≡ mutator
      back = omega arith

      by_index : mutator < length text.roots → (index < 16) ⊎ (16 ≤ index) → (row : ℕ) × (row < length text.rows) × ((row_of text row).name ≡ name) × (is_marked marks row ≡ true)
      by_index mutator_below (inl index_below) = roots mutator index mutator_below index_below name (ap (λ (any_mutator : ℕ). get_or (get_or text.roots any_mutator []) index None) back ∙ root_is)
      by_index mutator_below (inr index_above) =
          let sixteen_roots = All-get_or (λ (row : List Reference). length row ≡ 16) text.roots mutator [] mutator_below sixteen_each in
          let no_root = get_or_past (get_or text.roots mutator []) index None (omega (arith, sixteen_roots, index_above)) in
          absurd (let impossible : None ≡ Some name = sym no_root ∙ root_is in cc)

      by_low : (mutator < length text.roots) ⊎ (length text.roots ≤ mutator) → (row : ℕ) × (row < length text.rows) × ((row_of text row).name ≡ name) × (is_marked marks row ≡ true)
      by_low (inl mutator_below) = by_index mutator_below (cases_lt index 16)
      by_low (inr mutator_above) =
          let no_root = ap (λ (row : List Reference). get_or row index None) (get_or_past text.roots mutator [] mutator_above) in
          absurd (let impossible : None ≡ Some name = sym no_root ∙ root_is in cc)

  pub all_marked : (name : Name) → IsReachable (graph_from text) name → (row : ℕ) × (row < length text.rows) × ((row_of text row).name ≡ name) × (is_marked marks row ≡ true)
  unfolding graph_of
  all_marked _ (from_root zero index name holds_name) = absurd cc
  all_marked _ (from_root (suc mutator) index name holds_name) = by_root mutator index name holds_name
  all_marked _ (from_pin thread slot pinned_reference holds_name) = absurd cc
  all_marked _ (from_field holder_name name field holder_reached holds_name) =
      let holder_row = all_marked holder_name holder_reached in
      let same_object = ap (λ (name : Name). named (graph_from text) (Some name)) (sym holder_row.2) ∙ named_row text holder_row.0 order holder_row.1 in
      marks_closed holder_row.0 holder_row.1 holder_row.3 field (Some name) (ap (λ (object : Object). slice_get object.refs field) (sym same_object) ∙ holds_name) name refl

-- ---- what all marks tell

pub name_in_row : (text : Text) (row : ℕ) → get_or (names_of text) row hub ≡ (row_of text row).name
name_in_row text row = name_at text.rows row (bare hub)

pub same_row : (text : Text) (index other_index : ℕ) → InOrder (names_of text) → index < length text.rows → other_index < length text.rows → (row_of text index).name ≡ (row_of text other_index).name → index ≡ other_index
same_row text index other_index order index_below other_below same_name = by_case (cases_lt index other_index)
  where
    apart : (first_index second_index : ℕ) → first_index < second_index → second_index < length text.rows → (row_of text first_index).name ≡ (row_of text second_index).name → ⊥
    apart first_index second_index in_order index_low names_same =
        let name_before = earlier (names_of text) first_index second_index hub order in_order (omega (arith, index_low, length-names text.rows)) in
        let names = name_in_row text first_index ∙ names_same ∙ sym (name_in_row text second_index) in
        not_itself (get_or (names_of text) second_index hub) (subst (λ (name : Name). IsBefore name (get_or (names_of text) second_index hub)) names name_before)

    by_case : (index < other_index) ⊎ (other_index ≤ index) → index ≡ other_index
    by_case (inl index_before) = absurd (apart index other_index index_before other_below same_name)
    by_case (inr index_from) = by_more (cases_lt other_index index)
      where
        by_more : (other_index < index) ⊎ (index ≤ other_index) → index ≡ other_index
        by_more (inl other_before) = absurd (apart other_index index other_before index_below (sym same_name))
        by_more (inr other_from) = omega (arith, index_from, other_from)

pub row_there : (text : Text) (row : ℕ) → row < length text.rows → Contains (names_of text) (row_of text row).name
row_there text row row_below =
    let row_low : row < length (names_of text) = omega (arith, row_below, length-names text.rows) in
    (row, row_low, get_or_default (names_of text) row (row_of text row).name hub row_low ∙ name_in_row text row)

pub there_row : (text : Text) (name : Name) → Contains (names_of text) name → (row : ℕ) × (row < length text.rows) × ((row_of text row).name ≡ name)
there_row text name name_there = (name_there.0, omega (arith, name_there.1, length-names text.rows), sym (name_in_row text name_there.0) ∙ get_or_default (names_of text) name_there.0 hub name name_there.1 ∙ name_there.2)

pub marks_reached : (text : Text) (marks : List Bool) (order : List ℕ) → InOrder (names_of text) → All (λ (row : List Reference). length row ≡ 16) text.roots → RowsAreReached text marks order
    → ((mutator index : ℕ) → mutator < length text.roots → index < 16 → IsReachMarked text marks (root_of text (mutator + 1) index)) → IsClosed text marks → MarksReached text marks
marks_reached text marks list order sixteen_each reached roots marks_closed = record {
  size = reached.size;
  led = reached.led;
  all = λ led_name led asked_name same_reference.
      let same_name : led_name ≡ asked_name = cc in
      subst (λ (name : Name). (row : ℕ) × (row < length text.rows) × ((row_of text row).name ≡ name) × (is_marked marks row ≡ true)) same_name (all_marked text marks order sixteen_each roots marks_closed led_name led);
}

pub whole_reach : (text : Text) (marks : List Bool) → InOrder (names_of text) → MarksReached text marks → ((row : ℕ) → row < length marks → is_marked marks row ≡ true) → IsReach (graph_from text) (names_of text)
whole_reach text marks order reached each_marked = record {
  in_order = order;
  all = λ led_name led. let found_row = reached.all led_name led led_name refl in subst (Contains (names_of text)) found_row.2 (row_there text found_row.0 found_row.1);
  only = λ any_name name_there. let found_row = there_row text any_name name_there in subst (IsReachable (graph_from text)) found_row.2 (reached.led found_row.0 (each_marked found_row.0 (omega (arith, found_row.1, reached.size))));
}

pub not_all_reach : (text : Text) (marks : List Bool) → InOrder (names_of text) → MarksReached text marks → IsReach (graph_from text) (names_of text) → (row : ℕ) → row < length marks → is_marked marks row ≡ true
not_all_reach text marks order reached reach row row_below =
    let row_low : row < length text.rows = omega (arith, row_below, reached.size) in
    let led = reach.only (row_of text row).name (row_there text row row_low) in
    let found_row = reached.all (row_of text row).name led (row_of text row).name refl in
    subst (λ (any_row : ℕ). is_marked marks any_row ≡ true) (same_row text found_row.0 row order found_row.1 row_low found_row.2) found_row.3

-- ---- no marks

no_mark : (count row : ℕ) → get_or (replicate count false) row false ≡ false
no_mark count row = by_case (cases_lt row count)
  where
    by_case : (row < count) ⊎ (count ≤ row) → get_or (replicate count false) row false ≡ false
    by_case (inl row_below) = get_or-replicate count row false false row_below
    by_case (inr row_above) = get_or_past (replicate count false) row false (omega (arith, row_above, length-replicate count false))

none_once : IsDistinct nat_eq []
unfolding IsDistinct
none_once = tt

pub none_reached : (text : Text) → RowsAreReached text (replicate (length text.rows) false) []
none_reached text = record {
  size = length-replicate (length text.rows) false;
  once = none_once;
  listed = λ row row_marked. absurd (false≢true (sym (no_mark (length text.rows) row) ∙ row_marked));
  marked = λ row row_listed. absurd (Contains-nil row row_listed);
  led = λ row row_marked. absurd (false≢true (sym (no_mark (length text.rows) row) ∙ row_marked));
}

-- ---- going on from row to row

pub listed_low : (text : Text) (marks : List Bool) (order : List ℕ) (next_place row : ℕ) → RowsAreReached text marks order → next_place < length order → row ≡ get_or order next_place row → (row < length text.rows) × (is_marked marks row ≡ true)
listed_low text marks order next_place row rows_are_reached place_below row_is = rows_are_reached.marked row (next_place, place_below, sym row_is)

pub next_is : (order : List ℕ) (next_place row : ℕ) → next_place < length order → row ≡ get_or order next_place row → get_or order next_place 0 ≡ row
next_is order next_place row place_below row_is = get_or_default order next_place 0 row place_below ∙ sym row_is

pub rows_more : (text : Text) (marks new_marks : List Bool) (order longer : List ℕ) (next_place row : ℕ) → Grows marks order new_marks longer → next_place < length order → row ≡ get_or order next_place row
    → ((index : ℕ) → index < next_place → AreMarked text marks (row_of text (get_or order index 0)).refs) → AreMarked text new_marks (row_of text row).refs → (index : ℕ) → index < next_place + 1 → AreMarked text new_marks (row_of text (get_or longer index 0)).refs
rows_more text marks new_marks order longer next_place row grows place_below row_is marked_before now_marked index index_below = by_case (cases_lt index next_place)
  where
    by_case : (index < next_place) ⊎ (next_place ≤ index) → AreMarked text new_marks (row_of text (get_or longer index 0)).refs
    by_case (inl index_before) =
        subst (λ (any_row : ℕ). AreMarked text new_marks (row_of text any_row).refs) (sym (grows.same index (omega (arith, index_before, place_below))))
        (λ field reference field_is. still_marked text marks new_marks reference grows.kept (marked_before index index_before field reference field_is))
    by_case (inr index_from) =
        let same_index : index ≡ next_place = omega (arith, index_below, index_from) in
        subst (λ (any_row : ℕ). AreMarked text new_marks (row_of text any_row).refs) (sym (ap (λ (index : ℕ). get_or longer index 0) same_index ∙ grows.same next_place place_below ∙ next_is order next_place row place_below row_is)) now_marked

pub closed_by : (text : Text) (marks : List Bool) (order : List ℕ) (next_place : ℕ) → RowsAreReached text marks order → length order ≤ next_place → ((index : ℕ) → index < next_place → AreMarked text marks (row_of text (get_or order index 0)).refs) → IsClosed text marks
closed_by text marks order next_place rows_are_reached all_done done_before row low mark =
    let row_listed = rows_are_reached.listed row mark in
    let same_row = get_or_default order row_listed.0 0 row row_listed.1 ∙ row_listed.2 in
    subst (λ (any_row : ℕ). AreMarked text marks (row_of text any_row).refs) same_row (done_before row_listed.0 (omega (arith, row_listed.1, all_done)))
