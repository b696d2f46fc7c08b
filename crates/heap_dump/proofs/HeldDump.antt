-- A dump, and a text that holds it, tell the same of what the roots lead to.
use Rattle.std.proofs.lemmas.Bool.{cases_lt}
use Rattle.std.proofs.Common.{ℕ, zero, suc, ◌≡◌, ◌≢◌, false, codes, ◌+◌, ◌-◌, ◌^◌, ◌<◌, ◌≤◌, ◌⊎◌, inl, inr, List, [], ◌∷◌, length, map, get_or, refl, sym, ap, subst, ◌∙◌, None, Some, arith}
use Rattle.std.specs.Prelude.{slice_index}
use Rattle.std.proofs.lemmas.List.{get_or_past, length-map}
use Rattle.std.proofs.lemmas.List.Elements.{All-get_or}
use Rattle.shen_graph.proofs.Lists.{same_before_end}
use Rattle.shen_graph.specs.declared.name.Name.{Name}
use Rattle.shen_graph.specs.Graph.{Reference, hub}
use Rattle.shen_graph.specs.GraphText.{Row, Text, bare, names_of, row_of}
use Rattle.shen_graph.specs.Reach.{IsReachable, IsReach}
use Rattle.heap_dump.proofs.Counted.{counted, reach_again}
use Rattle.heap_dump.specs.Dumped.{Dumped, IsNamed, IsRow, IsDump, IsInForm, most_made, names_in, graph_in}
use Rattle.heap_dump.specs.HeldReferences.{held, held_name, held_row}
use Rattle.heap_dump.specs.RowsReached.{graph_from}
use Rattle.trace_reading.specs.Spelling.{newline}
use Rattle.trace_reading.specs.Causes.{is_same}
use Rattle.heap_dump.specs.DumpsToRun.{mark_line}
use Rattle.heap_dump.specs.DumpLines.{DumpStage, DumpFollows, Listed, Spells}
use Rattle.heap_dump.specs.Listing.{IsHeldDump}
use Rattle.heap_dump.proofs.References.{named_small, held_small, held_named, not_same}
use Rattle.heap_dump.proofs.Spelled.{AreSmall}
use Rattle.heap_dump.proofs.RowMarks.{field_at, root_led, there_row, row_there}

-- ---- references that are held as they are

held_at : (refs : List Reference) (index : ℕ) → get_or (map held refs) index None ≡ held (get_or refs index None)
held_at [] index = refl
held_at (reference ∷ refs) zero = refl
held_at (reference ∷ refs) (suc index) = held_at refs index

row_at : (rows : List Row) (index : ℕ) → get_or (map held_row rows) index (bare hub) ≡ held_row (get_or rows index (bare hub))
row_at [] index = refl
row_at (row ∷ rows) zero = refl
row_at (row ∷ rows) (suc index) = row_at rows index

roots_at : (roots : List (List Reference)) (index : ℕ) → get_or (map (map held) roots) index [] ≡ map held (get_or roots index [])
roots_at [] index = refl
roots_at (references ∷ roots) zero = refl
roots_at (references ∷ roots) (suc index) = roots_at roots index

module _ (counts : List ℕ) (held_of : Reference → Reference) (fixed : (some_reference : Reference) → ((some_name : Name) → held_of some_reference ≡ Some some_name → IsNamed counts some_name) → held some_reference ≡ some_reference) where
  refs_fixed : (refs : List Reference) → ((index : ℕ) (name : Name) → held_of (get_or refs index None) ≡ Some name → IsNamed counts name) → map held refs ≡ refs
  refs_fixed [] each_named = refl
  refs_fixed (first_reference ∷ refs) each_named = ap (λ (reference : Reference). reference ∷ map held refs) (fixed first_reference (each_named 0)) ∙ ap (λ (references : List Reference). first_reference ∷ references) (refs_fixed refs (λ index. each_named (suc index)))

  rows_fixed : (rows : List Row) → ((index field : ℕ) (name : Name) → held_of (get_or (get_or rows index (bare hub)).refs field None) ≡ Some name → IsNamed counts name) → map held_row rows ≡ rows
  rows_fixed [] each_named = refl
  rows_fixed (row ∷ rows) each_named =
      ap (λ (later_parts : List Reference). record { name = row.name; refs = later_parts; nums = row.nums } ∷ map held_row rows) (refs_fixed row.refs (each_named 0))
      ∙ ap (λ (later_parts : List Row). row ∷ later_parts) (rows_fixed rows (λ index. each_named (suc index)))

  roots_fixed : (roots : List (List Reference)) → ((row_index index : ℕ) (name : Name) → held_of (get_or (get_or roots row_index []) index None) ≡ Some name → IsNamed counts name) → map (map held) roots ≡ roots
  roots_fixed [] each_named = refl
  roots_fixed (first_references ∷ roots) each_named =
      ap (λ (references : List Reference). references ∷ map (map held) roots) (refs_fixed first_references (each_named 0))
      ∙ ap (λ (later_roots : List (List Reference)). first_references ∷ later_roots) (roots_fixed roots (λ row_index. each_named (suc row_index)))

-- ---- what a whole text refers to

module _ (counts : List ℕ) (text : Text) (reach : IsReach (graph_from text) (names_of text)) (named : (row_index : ℕ) → row_index < length text.rows → IsNamed counts (row_of text row_index).name) where
  led_named : (name : Name) → IsReachable (graph_from text) name → IsNamed counts name
  led_named name led = let found_row = there_row text name (reach.all name led) in subst (IsNamed counts) found_row.2 (named found_row.0 found_row.1)

  field_named : (index field : ℕ) (name : Name) → get_or (row_of text index).refs field None ≡ Some name → IsNamed counts name
  field_named index field name field_there = by_row (cases_lt index (length text.rows))
    where
      by_field : index < length text.rows → (field < length (row_of text index).refs) ⊎ (length (row_of text index).refs ≤ field) → IsNamed counts name
      by_field index_below (inr field_above) = absurd (let none_found : None ≡ Some name = sym (get_or_past (row_of text index).refs field None field_above) ∙ field_there in cc)
      by_field index_below (inl field_inside) =
          led_named name (field_at text index field (get_or (row_of text index).refs field None) reach.in_order index_below (λ read_name none_found. let same_names : (row_of text index).name ≡ read_name = cc in subst (IsReachable (graph_from text)) same_names (reach.only (row_of text index).name (row_there text index index_below))) field_inside refl name field_there)

      by_row : (index < length text.rows) ⊎ (length text.rows ≤ index) → IsNamed counts name
      by_row (inl index_below) = by_field index_below (cases_lt field (length (row_of text index).refs))
      by_row (inr index_above) = absurd (let none_found : None ≡ Some name = sym (ap (λ (row : Row). get_or row.refs field None) (get_or_past text.rows index (bare hub) index_above)) ∙ field_there in cc)

  root_named : (thread_index index : ℕ) (name : Name) → get_or (get_or text.roots thread_index []) index None ≡ Some name → IsNamed counts name
  root_named thread_index index name root_there =
      let index_back : thread_index ≡ thread_index + 1 - 1 = omega arith in
      led_named name (root_led text (thread_index + 1) index (get_or (get_or text.roots thread_index []) index None) (omega arith) (ap (λ (some_index : ℕ). get_or (get_or text.roots some_index []) index None) index_back) name root_there)

-- ---- a dump and what is held of it

abbrev text_in : Dumped → Text
text_in dump = record { rows = dump.rows; roots = dump.roots; pins = []; spare = 0; room = 0 }

abbrev text_held : Dumped → Text
text_held dump = record { rows = map held_row dump.rows; roots = map (map held) dump.roots; pins = []; spare = 0; room = 0 }

module _ (dump : Dumped) (form : IsInForm dump) (few_counts : length dump.counts ≤ 8) where
  small : (index : ℕ) → slice_index dump.counts index < 2 ^ 32
  small index = by_low (cases_lt index (length dump.counts))
    where
      by_low : (index < length dump.counts) ⊎ (length dump.counts ≤ index) → slice_index dump.counts index < 2 ^ 32
      by_low (inl index_below) = omega (arith, All-get_or (λ count. count ≤ most_made) dump.counts index 0 index_below form.counts)
      by_low (inr index_above) = omega (arith, get_or_past dump.counts index 0 index_above)

  as_is : (reference : Reference) → ((name : Name) → reference ≡ Some name → IsNamed dump.counts name) → held reference ≡ reference
  as_is None each_named = refl
  as_is (Some name) each_named = let name_small = named_small dump.counts name few_counts small (each_named name refl) in ap Some (held_small name name_small.0 name_small.1)

  as_held : (reference : Reference) → ((name : Name) → held reference ≡ Some name → IsNamed dump.counts name) → held reference ≡ reference
  as_held None each_named = refl
  as_held (Some name) each_named = ap Some (held_named dump.counts name few_counts (each_named (held_name name) refl))

  row_named : (index : ℕ) → index < length dump.rows → IsNamed dump.counts (get_or dump.rows index (bare hub)).name
  row_named index index_below = (All-get_or (IsRow dump.counts) dump.rows index (bare hub) index_below form.rows).name

  held_row_named : (index : ℕ) → index < length (map held_row dump.rows) → IsNamed dump.counts (get_or (map held_row dump.rows) index (bare hub)).name
  held_row_named index index_below = subst (λ (row : Row). IsNamed dump.counts row.name) (sym (row_at dump.rows index)) (row_named index (omega (arith, index_below, (length-map dump.rows held_row))))

  pub rows_of_dump : IsReach (graph_in dump) (names_in dump) → (map held_row dump.rows ≡ dump.rows) × (map (map held) dump.roots ≡ dump.roots)
  rows_of_dump reach =
      let reached : IsReach (graph_from (text_in dump)) (names_of (text_in dump)) = reach_again dump.rows dump.roots (0 ∷ dump.counts) [] (names_in dump) reach in
      (rows_fixed dump.counts (λ reached. reached) as_is dump.rows (field_named dump.counts (text_in dump) reached row_named), roots_fixed dump.counts (λ reached. reached) as_is dump.roots (root_named dump.counts (text_in dump) reached row_named))

  pub rows_of_held : IsReach (graph_from (text_held dump)) (names_of (text_held dump)) → (map held_row dump.rows ≡ dump.rows) × (map (map held) dump.roots ≡ dump.roots)
  rows_of_held reach = (
    rows_fixed dump.counts held as_held dump.rows (λ index field name names_it. field_named dump.counts (text_held dump) reach held_row_named index field name
        (ap (λ (row : Row). get_or row.refs field None) (row_at dump.rows index) ∙ held_at (get_or dump.rows index (bare hub)).refs field ∙ names_it)),
    roots_fixed dump.counts held as_held dump.roots (λ row_index index name names_it. root_named dump.counts (text_held dump) reach held_row_named row_index index name
        (ap (λ (some_rows : List Reference). get_or some_rows index None) (roots_at dump.roots row_index) ∙ held_at (get_or dump.roots row_index []) index ∙ names_it)),
  )

few_counts : (dump : Dumped) (text : Text) → IsHeldDump dump text → length text.roots ≤ 8 → length dump.counts ≤ 8
few_counts dump text held_dump at_most = omega (arith, at_most, ap length held_dump.roots, (length-map dump.roots (map held)), held_dump.form.each, held_dump.form.threads)

pub dump_is_held : (dump : Dumped) (text : Text) → IsHeldDump dump text → length text.roots ≤ 8 → IsDump dump → IsReach (graph_from text) (names_of text)
dump_is_held dump text held_dump at_most dump_is =
    let same_rows = rows_of_dump dump held_dump.form (few_counts dump text held_dump at_most) dump_is.reach in
    let rows : text.rows ≡ dump.rows = held_dump.rows ∙ same_rows.0 in
    let roots : text.roots ≡ dump.roots = held_dump.roots ∙ same_rows.1 in
    subst (λ (some_rows : List (List Reference)). IsReach (counted text.rows some_rows []) (names_of text)) (sym roots)
    (subst (λ (some_rows : List Row). IsReach (counted some_rows dump.roots []) (map (λ (row : Row). row.name) some_rows)) (sym rows) (reach_again dump.rows dump.roots (0 ∷ dump.counts) [] (names_in dump) dump_is.reach))

pub held_is_dump : (dump : Dumped) (text : Text) → IsHeldDump dump text → length text.roots ≤ 8 → IsReach (graph_from text) (names_of text) → IsDump dump × (text.rows ≡ dump.rows) × (text.roots ≡ dump.roots)
held_is_dump dump text held_dump at_most reach =
    let reached : IsReach (graph_from (text_held dump)) (names_of (text_held dump)) =
    subst (λ (some_rows : List (List Reference)). IsReach (counted (map held_row dump.rows) some_rows []) (map (λ (row : Row). row.name) (map held_row dump.rows))) held_dump.roots
    (subst (λ (some_rows : List Row). IsReach (counted some_rows text.roots []) (map (λ (row : Row). row.name) some_rows)) held_dump.rows reach) in
    let same_rows = rows_of_held dump held_dump.form (few_counts dump text held_dump at_most) reached in
    let rows : text.rows ≡ dump.rows = held_dump.rows ∙ same_rows.0 in
    let roots : text.roots ≡ dump.roots = held_dump.roots ∙ same_rows.1 in (
      record {
        form = held_dump.form;
        reach = reach_again dump.rows dump.roots [] (0 ∷ dump.counts) (names_in dump)
            (subst (λ (some_rows : List (List Reference)). IsReach (counted dump.rows some_rows []) (names_in dump)) roots
            (subst (λ (some_rows : List Row). IsReach (counted some_rows text.roots []) (map (λ (row : Row). row.name) some_rows)) rows reach));
      },
      rows,
      roots,
    )

-- behind the roots of all threads only the line `trace` may follow
pub mark_refused : (dump : Dumped) (text : List ℕ) → IsInForm dump → dump.roots ≢ [] → (IsDump dump → Spells text mark_line → ⊥) → (next_stage : DumpStage) → DumpFollows (Listed dump) text next_stage → ⊥
mark_refused dump text form some_roots no_mark next_stage (inl follows) = some_roots follows.2
mark_refused dump text form some_roots no_mark next_stage (inr (inl follows)) = omega (arith, follows.2, form.each)
mark_refused dump text form some_roots no_mark next_stage (inr (inr follows)) = no_mark follows.0 follows.1

pub not_mark : (text word : List ℕ) → word ≡ codes "trace" → false ≡ is_same text word → Spells text mark_line → ⊥
not_mark text word trace_word texts_differ spells =
    not_same text word texts_differ (same_before_end text (codes "trace") newline spells ∙ sym trace_word)

pub dump_small : (dump : Dumped) → IsDump dump → length dump.counts ≤ 8 → ((row_index : ℕ) → AreSmall (get_or dump.rows row_index (bare hub)).refs) × ((row_index : ℕ) → AreSmall (get_or dump.roots row_index []))
dump_small dump dump_is at_most =
    let reach : IsReach (graph_from (text_in dump)) (names_of (text_in dump)) = reach_again dump.rows dump.roots (0 ∷ dump.counts) [] (names_in dump) dump_is.reach in
    let named = row_named dump dump_is.form at_most in
    let rows_fit = small dump dump_is.form at_most in (
      λ row_index field field_name names_it. let name_small = named_small dump.counts field_name at_most rows_fit (field_named dump.counts (text_in dump) reach named row_index field field_name names_it) in (omega (arith, name_small.0), omega (arith, name_small.1)),
      λ row_index index name names_it. let name_small = named_small dump.counts name at_most rows_fit (root_named dump.counts (text_in dump) reach named row_index index name names_it) in (omega (arith, name_small.0), omega (arith, name_small.1)),
    )
