-- The text of a dump is lines that lead on, each of its form.
use Rattle.std.proofs.Common.{ℕ, zero, suc, ◌≡◌, ◌+◌, ◌^◌, ◌<◌, ◌≤◌, inl, inr, List, [], ◌∷◌, ◌++◌, length, map, get_or, codes, refl, sym, ap, subst, ◌∙◌, None, Some, append_assoc, append-nil, length-append, lit<, arith}
use Rattle.std.specs.Prelude.{All, slice_index}
use Rattle.std.specs.List.{flat_map, join_with_byte, AllByRecursion}
use Rattle.std.specs.Fmt.{decimal}
use Rattle.std.proofs.lemmas.List.Concat.{flat_map-cons}
use Rattle.std.proofs.lemmas.List.Elements.{All-head, All-tail}
use Rattle.heap_words.specs.declared.config.Config.{Config}
use Rattle.heap_words.specs.Narrow.{IsNarrow}
use Rattle.shen_graph.specs.declared.name.Name.{Name}
use Rattle.shen_graph.specs.Graph.{Reference, hub}
use Rattle.shen_graph.specs.GraphText.{Row, bare}
use Rattle.shen_graph.specs.Reach.{InOrder}
use Rattle.trace_reading.specs.Spelling.{newline, titled}
use Rattle.trace_reading.proofs.Free.{IsWord, parts_at, joined_free}
use Rattle.trace_reading.proofs.HeadWords.{titled_is}
use Rattle.trace_text.specs.Answer.{line_of, name_word, reference_word, object_line, thread_numbers}
use Rattle.heap_dump.specs.Dumped.{Dumped, IsRow, IsDump, IsInForm, most_made}
use Rattle.heap_dump.specs.DumpText.{sizes_head, roots_line_in, dump_text}
use Rattle.heap_dump.specs.DumpsToRun.{run_version, mark_line}
use Rattle.heap_dump.specs.DumpLines.{DumpStage, Version, Heap, Threads, Counts, Listed, Behind, DumpFollows, Spells, AreReferences, with_roots, heap_line, threads_line}
use Rattle.heap_dump.specs.Steps.{Leads}
use Rattle.heap_dump.specs.Listing.{listed}
use Rattle.heap_dump.proofs.References.{word_of_name, named_small}
use Rattle.heap_dump.proofs.Lined.{name_is_word, references_are_words, words_both, numbers_are_words, object_title, roots_title, trace_title, stroke_word}
use Rattle.heap_dump.proofs.Spelled.{AreSmall, roots_lines, all_roots}
use Rattle.heap_dump.proofs.HeldDump.{dump_small}
use Rattle.heap_dump.proofs.Steps.{leads_none, leads_one, leads_both}
use Rattle.heap_dump.proofs.LineOnce.{small_counts, each_small}
use Rattle.trace_reading.proofs.Numerals.{decimal_word}
use Rattle.trace_reading.specs.Refused.LineStage.{Commands}

abbrev name_of : Row → Name
name_of row = row.name

-- ---- one line

-- words with spaces between are a line
words_lead : (stage next : DumpStage) (first_word : List ℕ) (later_words : List (List ℕ)) (rest : List ℕ) → AllByRecursion IsWord (first_word ∷ later_words) → DumpFollows stage (join_with_byte 32 (first_word ∷ later_words)) next → Leads stage (line_of (first_word ∷ later_words) ++ rest) rest 1 next
words_lead stage next first_word later_words rest all_words dump_follows =
    let text = join_with_byte 32 (first_word ∷ later_words) in
    subst (λ (bytes : List ℕ). Leads stage bytes rest 1 next) (sym (append_assoc text (newline ∷ []) rest))
    (leads_one stage next (text ++ 10 ∷ rest) text rest (parts_at 10 text rest (joined_free first_word later_words all_words)) dump_follows)

titled_lead : (stage next : DumpStage) (title : List ℕ) (values : List ℕ) (rest : List ℕ) → IsWord title → All (λ value. value < 2 ^ 64) values → ((text : List ℕ) → Spells text (titled title values) → DumpFollows stage text next) → Leads stage (titled title values ++ rest) rest 1 next
titled_lead stage next title values rest word small_values lines_follow =
    subst (λ (bytes : List ℕ). Leads stage (bytes ++ rest) rest 1 next) (titled_is title values)
    (words_lead stage next title (map decimal values) rest (word, numbers_are_words values small_values) (lines_follow (join_with_byte 32 (title ∷ map decimal values)) (titled_is title values)))

all_three : (first second third : ℕ) → first < 2 ^ 64 → second < 2 ^ 64 → third < 2 ^ 64 → All (λ number. number < 2 ^ 64) (first ∷ second ∷ third ∷ [])
all_three first second third first_below second_below third_below zero default low = first_below
all_three first second third first_below second_below third_below (suc zero) default low = second_below
all_three first second third first_below second_below third_below (suc (suc zero)) default low = third_below
all_three first second third first_below second_below third_below (suc (suc (suc index))) default low = absurd (omega (arith, low))

all_two : (first second : ℕ) → first < 2 ^ 64 → second < 2 ^ 64 → All (λ number. number < 2 ^ 64) (first ∷ second ∷ [])
all_two first second first_below second_below zero default low = first_below
all_two first second first_below second_below (suc zero) default low = second_below
all_two first second first_below second_below (suc (suc index)) default low = absurd (omega (arith, low))

all_one : (number : ℕ) → number < 2 ^ 64 → All (λ value. value < 2 ^ 64) (number ∷ [])
all_one number number_below zero default low = number_below
all_one number number_below (suc index) default low = absurd (omega (arith, low))

-- ---- the head

head_leads : (config : Config) (counts rest : List ℕ) → IsNarrow config → length counts ≡ config.mutators → All (λ count. count ≤ most_made) counts → Leads Version (sizes_head config ++ (titled (codes "counts") counts ++ rest)) rest 4 (Listed (listed config counts [] []))
head_leads config counts rest narrow count_of_counts counts_small =
    let version = titled (codes "dump") (1 ∷ []) in
    let last_stage = Listed (listed config counts [] []) in
    let behind_threads = titled (codes "counts") counts ++ rest in
    let behind_heap = threads_line config ++ behind_threads in
    let behind_version = heap_line config ++ behind_heap in
    let first_line = titled_lead Version Heap (codes "dump") (1 ∷ []) behind_version (record { no_space = refl; no_end = refl }) (all_one 1 (lit< tt)) (λ text spelled. (spelled, refl)) in
    let second_line = titled_lead Heap (Threads config) (codes "heap") (config.regions ∷ config.region_words ∷ config.reserve ∷ []) behind_heap (record { no_space = refl; no_end = refl })
    (all_three config.regions config.region_words config.reserve (omega (arith, config.in_range.most_regions)) (omega (arith, config.in_range.most_words)) (omega (arith, config.in_range.some_left, config.in_range.most_regions))) (λ text spelled. (config, narrow, spelled, refl)) in
    let third_line = titled_lead (Threads config) (Counts config) (codes "threads") (config.mutators ∷ config.helpers ∷ []) behind_threads (record { no_space = refl; no_end = refl })
    (all_two config.mutators config.helpers (omega (arith, config.in_range.most_mutators)) (omega (arith, config.in_range.most_helpers))) (λ text spelled. (config, record { regions = refl; region_words = refl; reserve = refl }, spelled, refl)) in
    let four = titled_lead (Counts config) last_stage (codes "counts") counts rest (record { no_space = refl; no_end = refl }) (small_counts counts counts_small) (λ text spelled. (counts, count_of_counts, counts_small, spelled, refl)) in
    let whole_head : version ++ behind_version ≡ sizes_head config ++ behind_threads =
    ap (λ (bytes : List ℕ). version ++ bytes) (sym (append_assoc (heap_line config) (threads_line config) behind_threads)) ∙ sym (append_assoc version (heap_line config ++ threads_line config) behind_threads) in
    subst (λ (bytes : List ℕ). Leads Version bytes rest 4 last_stage) whole_head
    (leads_both Version Heap last_stage (version ++ behind_version) behind_version rest 1 3 first_line (leads_both Heap (Threads config) last_stage behind_version behind_heap rest 1 2 second_line (leads_both (Threads config) (Counts config) last_stage behind_heap behind_threads rest 1 1 third_line four)))

-- ---- objects and roots

references_spelled : (refs : List Reference) → AreSmall refs → AreReferences (map reference_word refs) refs
references_spelled [] small_refs = tt
references_spelled (None ∷ refs) small_refs = (refl, references_spelled refs (λ index. small_refs (suc index)))
references_spelled (Some name ∷ refs) small_refs =
    let name_small = small_refs 0 name refl in
    (word_of_name name name_small.0 name_small.1, references_spelled refs (λ index. small_refs (suc index)))

order_front : (names later_names : List Name) → InOrder (names ++ later_names) → InOrder names
order_front [] names order = tt
order_front (name ∷ []) names order = tt
order_front (first_name ∷ second_name ∷ rest) names order = (order.0, order_front (second_name ∷ rest) names order.1)

map_both : (xs ys : List Row) → map name_of (xs ++ ys) ≡ map name_of xs ++ map name_of ys
map_both [] ys = refl
map_both (row ∷ rest) ys = ap (λ (given_names : List Name). row.name ∷ given_names) (map_both rest ys)

object_lead : (config : Config) (counts : List ℕ) (done_rows : List Row) (row : Row) (rest : List ℕ) → length counts ≤ 8 → ((index : ℕ) → slice_index counts index < 2 ^ 32) → IsRow counts row → InOrder (map name_of (done_rows ++ row ∷ [])) → AreSmall row.refs
    → Leads (Listed (listed config counts done_rows [])) (object_line row ++ rest) rest 1 (Listed (listed config counts (done_rows ++ row ∷ []) []))
object_lead config counts done_rows given_row rest at_most counts_small row order small_refs =
    let name = named_small counts given_row.name at_most counts_small row.name in
    let row_words = map reference_word given_row.refs in
    let are_references = references_spelled given_row.refs small_refs in
    let words = name_word given_row.name ∷ (row_words ++ codes "/" ∷ map decimal given_row.nums) in
    words_lead (Listed (listed config counts done_rows [])) (Listed (listed config counts (done_rows ++ given_row ∷ []) [])) (codes "object") words rest
    (object_title, (name_is_word given_row.name (omega (arith, name.0)) (omega (arith, name.1)), words_both row_words (codes "/" ∷ map decimal given_row.nums) (references_are_words row_words given_row.refs are_references) (stroke_word, numbers_are_words given_row.nums row.fields.fit)))
    (inl (given_row, row_words, refl, row, order, are_references, refl, refl))

objects_lead : (config : Config) (counts : List ℕ) (done_rows rows : List Row) (rest : List ℕ) → length counts ≤ 8 → ((index : ℕ) → slice_index counts index < 2 ^ 32) → All (IsRow counts) rows → InOrder (map name_of (done_rows ++ rows)) → ((index : ℕ) → AreSmall (get_or rows index (bare hub)).refs)
    → Leads (Listed (listed config counts done_rows [])) (flat_map object_line rows ++ rest) rest (length rows) (Listed (listed config counts (done_rows ++ rows) []))
objects_lead config counts done_rows [] rest at_most counts_small all_rows order small_refs =
    subst (λ (rows : List Row). Leads (Listed (listed config counts done_rows [])) rest rest 0 (Listed (listed config counts rows []))) (sym (append-nil done_rows)) (leads_none (Listed (listed config counts done_rows [])) rest)
objects_lead config counts done_rows (row ∷ rows) rest at_most counts_small all_rows order small_refs =
    let other_lines = flat_map object_line rows ++ rest in
    let from = Listed (listed config counts done_rows []) in
    let middle = Listed (listed config counts (done_rows ++ row ∷ []) []) in
    let same_rows : (done_rows ++ row ∷ []) ++ rows ≡ done_rows ++ row ∷ rows = append_assoc done_rows (row ∷ []) rows in
    let whole_order : InOrder (map name_of ((done_rows ++ row ∷ []) ++ rows)) = subst (λ (given_rows : List Row). InOrder (map name_of given_rows)) (sym same_rows) order in
    let first_lead = object_lead config counts done_rows row other_lines at_most counts_small (All-head (IsRow counts) row rows all_rows) (order_front (map name_of (done_rows ++ row ∷ [])) (map name_of rows) (subst InOrder (map_both (done_rows ++ row ∷ []) rows) whole_order)) (small_refs 0) in
    let later = objects_lead config counts (done_rows ++ row ∷ []) rows rest at_most counts_small (All-tail (IsRow counts) row rows all_rows) whole_order (λ index. small_refs (suc index)) in
    let front : object_line row ++ other_lines ≡ flat_map object_line (row ∷ rows) ++ rest = sym (append_assoc (object_line row) (flat_map object_line rows) rest) ∙ ap (λ (bytes : List ℕ). bytes ++ rest) (sym (flat_map-cons object_line row rows)) in
    let last_stage = Listed (listed config counts (done_rows ++ row ∷ rows) []) in
    let count : 1 + length rows ≡ suc (length rows) = omega arith in
    let later_lead : Leads middle other_lines rest (length rows) last_stage = subst (λ (given_rows : List Row). Leads middle other_lines rest (length rows) (Listed (listed config counts given_rows []))) same_rows later in
    subst (λ (bytes : List ℕ). Leads from bytes rest (suc (length rows)) last_stage) front
    (subst (λ (lines : ℕ). Leads from (object_line row ++ other_lines) rest lines last_stage) count (leads_both from middle last_stage (object_line row ++ other_lines) other_lines rest 1 (length rows) first_lead later_lead))

roots_lead : (dump : Dumped) (roots : List Reference) (rest : List ℕ) → length dump.roots < dump.config.mutators → length roots ≡ 16 → AreSmall roots
    → Leads (Listed dump) (line_of (codes "roots" ∷ decimal (length dump.roots + 1) ∷ map reference_word roots) ++ rest) rest 1 (Listed (with_roots dump roots))
roots_lead dump roots rest roots_below sixteen_roots small_roots =
    let are_references = references_spelled roots small_roots in
    let root_words = map reference_word roots in
    words_lead (Listed dump) (Listed (with_roots dump roots)) (codes "roots") (decimal (length dump.roots + 1) ∷ root_words) rest
    (roots_title, (decimal_word (length dump.roots + 1) (omega (arith, roots_below, dump.config.in_range.most_mutators)), references_are_words root_words roots are_references))
    (inr (inl (roots, root_words, roots_below, sixteen_roots, are_references, refl, refl)))

abbrev rooted : Dumped → List (List Reference) → Dumped
rooted dump roots = record dump { roots = roots }

all_roots_lead : (dump : Dumped) (done_roots roots : List (List Reference)) (rest : List ℕ) → length done_roots + length roots ≤ dump.config.mutators → All (λ (references : List Reference). length references ≡ 16) roots → ((index : ℕ) → AreSmall (get_or roots index []))
    → Leads (Listed (rooted dump done_roots)) (roots_lines (length done_roots) roots ++ rest) rest (length roots) (Listed (rooted dump (done_roots ++ roots)))
all_roots_lead dump done_roots [] rest roots_below full_rows small_roots =
    subst (λ (given_roots : List (List Reference)). Leads (Listed (rooted dump done_roots)) rest rest 0 (Listed (rooted dump given_roots))) (sym (append-nil done_roots)) (leads_none (Listed (rooted dump done_roots)) rest)
all_roots_lead dump done_roots (first_references ∷ roots) rest roots_below full_rows small_roots =
    let line = line_of (codes "roots" ∷ decimal (length done_roots + 1) ∷ map reference_word first_references) in
    let other_lines = roots_lines (length done_roots + 1) roots ++ rest in
    let from = Listed (rooted dump done_roots) in
    let middle = Listed (rooted dump (done_roots ++ first_references ∷ [])) in
    let last_stage = Listed (rooted dump (done_roots ++ first_references ∷ roots)) in
    let longer_roots : length (done_roots ++ first_references ∷ []) ≡ length done_roots + 1 = length-append done_roots (first_references ∷ []) in
    let first_lead = roots_lead (rooted dump done_roots) first_references other_lines (omega (arith, roots_below)) (All-head (λ (references : List Reference). length references ≡ 16) first_references roots full_rows) (small_roots 0) in
    let later = all_roots_lead dump (done_roots ++ first_references ∷ []) roots rest (omega (arith, roots_below, longer_roots)) (All-tail (λ (references : List Reference). length references ≡ 16) first_references roots full_rows) (λ index. small_roots (suc index)) in
    let rows_lead : Leads middle other_lines rest (length roots) (Listed (rooted dump ((done_roots ++ first_references ∷ []) ++ roots))) =
    subst (λ (n : ℕ). Leads middle (roots_lines n roots ++ rest) rest (length roots) (Listed (rooted dump ((done_roots ++ first_references ∷ []) ++ roots)))) longer_roots later in
    let later_lead : Leads middle other_lines rest (length roots) last_stage = subst (λ (given_roots : List (List Reference)). Leads middle other_lines rest (length roots) (Listed (rooted dump given_roots))) (append_assoc done_roots (first_references ∷ []) roots) rows_lead in
    let count : 1 + length roots ≡ suc (length roots) = omega arith in
    subst (λ (bytes : List ℕ). Leads from bytes rest (suc (length roots)) last_stage) (sym (append_assoc line (roots_lines (length done_roots + 1) roots) rest))
    (subst (λ (lines : ℕ). Leads from (line ++ other_lines) rest lines last_stage) count (leads_both from middle last_stage (line ++ other_lines) other_lines rest 1 (length roots) first_lead later_lead))

-- ---- the whole dump

pub few_counts : (dump : Dumped) → IsInForm dump → length dump.counts ≤ 8
few_counts dump form = omega (arith, form.threads, dump.config.in_range.most_mutators)

-- so many lines lead to the line `trace`
abbrev pub lines_of : Dumped → ℕ
lines_of dump = 4 + (length dump.rows + length dump.roots)

pub dump_leads : (dump : Dumped) (rest : List ℕ) → IsDump dump → Leads Version (dump_text dump ++ rest) rest (lines_of dump) (Listed dump)
dump_leads dump rest is_dump =
    let form = is_dump.form in
    let small_dump = dump_small dump is_dump (few_counts dump form) in
    let head = sizes_head dump.config in
    let counts = titled (codes "counts") dump.counts in
    let rows = flat_map object_line dump.rows in
    let roots = flat_map (roots_line_in dump.roots) (thread_numbers dump.config.mutators) in
    let from_rows = rows ++ (roots ++ rest) in
    let from_roots = roots ++ rest in
    let none_listed = Listed (listed dump.config dump.counts [] []) in
    let rows_listed = Listed (listed dump.config dump.counts dump.rows []) in
    let head_lead = head_leads dump.config dump.counts from_rows form.narrow form.threads form.counts in
    let rows_lead = objects_lead dump.config dump.counts [] dump.rows from_roots (few_counts dump form) (each_small dump.counts form.counts) form.rows form.order small_dump.0 in
    let lines : roots_lines 0 dump.roots ≡ roots =
    all_roots dump.roots dump.roots 0 (λ number. let zero_plus : 0 + number ≡ number = omega arith in ap (λ row. get_or dump.roots row []) zero_plus) form.roots ∙ ap (λ number. flat_map (roots_line_in dump.roots) (thread_numbers number)) form.each in
    let roots_led : Leads rows_listed from_roots rest (length dump.roots) (Listed dump) =
    subst (λ (bytes : List ℕ). Leads rows_listed (bytes ++ rest) rest (length dump.roots) (Listed dump)) lines (all_roots_lead (listed dump.config dump.counts dump.rows []) [] dump.roots rest (omega (arith, form.each)) form.roots small_dump.1) in
    let whole_text : head ++ (counts ++ from_rows) ≡ dump_text dump ++ rest =
    ap (λ (bytes : List ℕ). head ++ bytes) (ap (λ (bytes : List ℕ). counts ++ bytes) (sym (append_assoc rows roots rest)) ∙ sym (append_assoc counts (rows ++ roots) rest)) ∙ sym (append_assoc head (counts ++ (rows ++ roots)) rest) in
    subst (λ (bytes : List ℕ). Leads Version bytes rest (lines_of dump) (Listed dump)) whole_text
    (leads_both Version none_listed (Listed dump) (head ++ (counts ++ from_rows)) from_rows rest 4 (length dump.rows + length dump.roots) head_lead (leads_both none_listed rows_listed (Listed dump) from_rows from_roots rest (length dump.rows) (length dump.roots) rows_lead roots_led))

-- the line `trace` behind it
pub mark_leads : (dump : Dumped) (rest : List ℕ) → IsDump dump → Leads (Listed dump) (mark_line ++ rest) rest 1 (Behind (Commands run_version dump.config))
mark_leads dump rest is_dump = words_lead (Listed dump) (Behind (Commands run_version dump.config)) (codes "trace") [] rest (trace_title, tt) (inr (inr (is_dump, refl, refl)))
