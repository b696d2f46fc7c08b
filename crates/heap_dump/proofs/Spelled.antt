-- The bytes that lines of a dump spell.
use Rattle.std.proofs.Common.{ℕ, suc, ◌≡◌, ◌+◌, ◌-◌, ◌^◌, ◌<◌, ◌⊎◌, inl, inr, List, [], ◌∷◌, ◌++◌, length, map, get_or, codes, refl, sym, ap, subst, ◌∙◌, None, Some, append_assoc, append-nil, length-append, arith}
use Rattle.std.specs.Prelude.{All}
use Rattle.std.specs.List.{flat_map, join_with_byte, range_with_len}
use Rattle.std.specs.Fmt.{decimal}
use Rattle.std.proofs.lemmas.List.{get_or-append_right}
use Rattle.std.proofs.lemmas.List.Concat.{flat_map-cons}
use Rattle.std.proofs.lemmas.List.Splits.{join_with_byte-slice_split}
use Rattle.std.proofs.lemmas.List.Elements.{All-head, All-tail}
use Rattle.std.proofs.lemmas.List.FromFn.{fill_by_all}
use Rattle.heap_words.specs.declared.config.Config.{Config}
use Rattle.heap_words.specs.Narrow.{IsNarrow}
use Rattle.shen_graph.specs.declared.name.Name.{Name}
use Rattle.shen_graph.specs.Graph.{Reference, hub}
use Rattle.shen_graph.specs.GraphText.{Row, bare}
use Rattle.trace_reading.specs.Spelling.{newline, titled}
use Rattle.trace_reading.specs.Causes.{parts}
use Rattle.trace_reading.specs.Refused.{LineStage}
use Rattle.trace_reading.proofs.Cuts.{cut_parts}
use Rattle.trace_text.specs.Answer.{line_of, name_word, reference_word, object_line, root_spellings, thread_numbers}
use Rattle.heap_dump.specs.Dumped.{Dumped}
use Rattle.heap_dump.specs.DumpText.{sizes_head, roots_line_in, dump_text}
use Rattle.heap_dump.specs.DumpLines.{DumpStage, Version, Heap, Threads, Counts, Listed, Behind, DumpFollows, DumpLead, IsHeapOf, heap_line, threads_line, AreReferences, Spells, with_row, with_roots}
use Rattle.heap_dump.specs.Steps.{Leads}
use Rattle.heap_dump.proofs.References.{name_of_word}

-- lines with their ends
abbrev pub ended : List ℕ → List ℕ
ended text = text ++ newline ∷ []

join_more : (text : List ℕ) (rest : List (List ℕ)) (next_text : List ℕ) (later_texts : List (List ℕ)) → rest ≡ next_text ∷ later_texts → join_with_byte 10 (text ∷ rest) ≡ text ++ 10 ∷ join_with_byte 10 rest
join_more text rest next_text later_texts rest_is = rw rest_is refl

some_more : (texts : List (List ℕ)) (rest : List ℕ) → (first_text : List ℕ) × (later_texts : List (List ℕ)) × (texts ++ parts 10 rest ≡ first_text ∷ later_texts)
some_more [] rest = (_, _, cut_parts 10 rest)
some_more (text ∷ texts) rest = (text, texts ++ parts 10 rest, refl)

join_lines : (texts : List (List ℕ)) (rest : List ℕ) → join_with_byte 10 (texts ++ parts 10 rest) ≡ flat_map ended texts ++ rest
join_lines [] rest = join_with_byte-slice_split 10 rest
join_lines (text ∷ texts) rest =
    let some_text = some_more texts rest in
    join_more text (texts ++ parts 10 rest) some_text.0 some_text.1 some_text.2
    ∙ ap (λ (bytes : List ℕ). text ++ 10 ∷ bytes) (join_lines texts rest)
    ∙ sym (append_assoc text (10 ∷ []) (flat_map ended texts ++ rest))
    ∙ sym (append_assoc (ended text) (flat_map ended texts) rest)
    ∙ ap (λ (bytes : List ℕ). bytes ++ rest) (sym (flat_map-cons ended text texts))

pub leads_bytes : (stage other_stage : DumpStage) (bytes rest : List ℕ) (lines : ℕ) → (led : Leads stage bytes rest lines other_stage) → bytes ≡ flat_map ended led.texts ++ rest
leads_bytes stage other_stage bytes rest lines led = sym (join_with_byte-slice_split 10 bytes) ∙ ap (join_with_byte 10) led.cut ∙ join_lines led.texts rest

-- ---- the head

third_spelled : (stage : DumpStage) (given_config config : Config) (version_text heap_text threads_text : List ℕ) → Spells version_text (titled (codes "dump") (1 ∷ [])) → Spells heap_text (heap_line given_config) → DumpFollows (Threads given_config) threads_text stage → stage ≡ Counts config
    → flat_map ended (version_text ∷ heap_text ∷ threads_text ∷ []) ≡ sizes_head config
third_spelled stage given_config config version_text heap_text threads_text version_is heap_is follows stage_is =
    let same_config : follows.0 ≡ config = let x = follows.3 in cc in
    let heap_of : IsHeapOf given_config config = subst (IsHeapOf given_config) same_config follows.1 in
    let threads_are : Spells threads_text (threads_line config) = follows.2 ∙ ap threads_line same_config in
    let heaps : heap_line given_config ≡ heap_line config =
    ap (λ (regions : ℕ). titled (codes "heap") (regions ∷ given_config.region_words ∷ given_config.reserve ∷ [])) (sym heap_of.regions)
    ∙ ap (λ (region_words : ℕ). titled (codes "heap") (config.regions ∷ region_words ∷ given_config.reserve ∷ [])) (sym heap_of.region_words)
    ∙ ap (λ (reserve : ℕ). titled (codes "heap") (config.regions ∷ config.region_words ∷ reserve ∷ [])) (sym heap_of.reserve) in
    flat_map-cons ended version_text (heap_text ∷ threads_text ∷ [])
    ∙ ap (λ (bytes : List ℕ). bytes ++ flat_map ended (heap_text ∷ threads_text ∷ [])) version_is
    ∙ ap (λ (bytes : List ℕ). titled (codes "dump") (1 ∷ []) ++ bytes)
    (flat_map-cons ended heap_text (threads_text ∷ []) ∙ ap (λ (bytes : List ℕ). bytes ++ flat_map ended (threads_text ∷ [])) (heap_is ∙ heaps)
    ∙ ap (λ (bytes : List ℕ). heap_line config ++ bytes) (flat_map-cons ended threads_text [] ∙ append-nil (ended threads_text) ∙ threads_are))

second_spelled : (stage other_stage : DumpStage) (config : Config) (version_text heap_text threads_text : List ℕ) → Spells version_text (titled (codes "dump") (1 ∷ [])) → DumpFollows Heap heap_text stage → DumpFollows stage threads_text other_stage → other_stage ≡ Counts config → flat_map ended (version_text ∷ heap_text ∷ threads_text ∷ []) ≡ sizes_head config
second_spelled stage other_stage config version_text heap_text threads_text version_is dump_follows threads_follow stage_is = third_spelled other_stage dump_follows.0 config version_text heap_text threads_text version_is dump_follows.2 (subst (λ (stage : DumpStage). DumpFollows stage threads_text other_stage) dump_follows.3 threads_follow) stage_is

head_lines : (texts : List (List ℕ)) (config : Config) → length texts ≡ 3 → DumpLead Version texts (Counts config) → flat_map ended texts ≡ sizes_head config
head_lines [] config three_texts lead = absurd (omega (arith, three_texts))
head_lines (version_text ∷ []) config three_texts lead = absurd (omega (arith, three_texts))
head_lines (version_text ∷ heap_text ∷ []) config three_texts lead = absurd (omega (arith, three_texts))
head_lines (version_text ∷ heap_text ∷ threads_text ∷ text ∷ later_texts) config three_texts lead = absurd (omega (arith, three_texts))
head_lines (version_text ∷ heap_text ∷ threads_text ∷ []) config three_texts lead =
    second_spelled lead.2.0 lead.2.2.0 config version_text heap_text threads_text lead.1.0 (subst (λ (stage : DumpStage). DumpFollows stage heap_text lead.2.0) lead.1.1 lead.2.1) lead.2.2.1 lead.2.2.2

pub head_spelled : (bytes rest : List ℕ) (config : Config) → Leads Version bytes rest 3 (Counts config) → bytes ≡ sizes_head config ++ rest
head_spelled bytes rest config led = leads_bytes Version (Counts config) bytes rest 3 led ∙ ap (λ (text : List ℕ). text ++ rest) (head_lines led.texts config led.count led.lead)

-- its heap is of a size that a trace can have
third_narrow : (stage : DumpStage) (config other_config : Config) (text : List ℕ) → IsNarrow config → DumpFollows (Threads config) text stage → stage ≡ Counts other_config → IsNarrow other_config
third_narrow stage config other_config text narrow dump_follows stage_is =
    let same_config : dump_follows.0 ≡ other_config = let x = dump_follows.3 in cc in
    subst IsNarrow same_config (omega (arith, narrow, dump_follows.1.region_words))

narrow_lines : (texts : List (List ℕ)) (config : Config) → length texts ≡ 3 → DumpLead Version texts (Counts config) → IsNarrow config
narrow_lines [] config three_texts lead = absurd (omega (arith, three_texts))
narrow_lines (version_text ∷ []) config three_texts lead = absurd (omega (arith, three_texts))
narrow_lines (version_text ∷ heap_text ∷ []) config three_texts lead = absurd (omega (arith, three_texts))
narrow_lines (version_text ∷ heap_text ∷ threads_text ∷ text ∷ later_texts) config three_texts lead = absurd (omega (arith, three_texts))
narrow_lines (version_text ∷ heap_text ∷ threads_text ∷ []) config three_texts lead =
    let heap = subst (λ (stage : DumpStage). DumpFollows stage heap_text lead.2.0) lead.1.1 lead.2.1 in
    third_narrow lead.2.2.0 heap.0 config threads_text heap.1 (subst (λ (stage : DumpStage). DumpFollows stage threads_text lead.2.2.0) heap.3 lead.2.2.1) lead.2.2.2

pub head_narrow : (bytes rest : List ℕ) (config : Config) → Leads Version bytes rest 3 (Counts config) → IsNarrow config
head_narrow bytes rest config led = narrow_lines led.texts config led.count led.lead

counts_lines : (texts : List (List ℕ)) (config : Config) (dump : Dumped) → length texts ≡ 1 → DumpLead (Counts config) texts (Listed dump) → flat_map ended texts ≡ titled (codes "counts") dump.counts
counts_lines [] config dump one_text lead = absurd (omega (arith, one_text))
counts_lines (text ∷ next_text ∷ later_texts) config dump one_text lead = absurd (omega (arith, one_text))
counts_lines (text ∷ []) config dump one_text lead =
    let lead_follows = lead.1 in
    let same_dump : record { config = config; counts = lead_follows.0; rows = []; roots = [] } ≡ dump = let x = lead_follows.4 in let y = lead.2 in cc in
    flat_map-cons ended text [] ∙ append-nil (ended text) ∙ lead_follows.3 ∙ ap (λ (dump : Dumped). titled (codes "counts") dump.counts) same_dump

pub counts_spelled : (bytes rest : List ℕ) (config : Config) (dump : Dumped) → Leads (Counts config) bytes rest 1 (Listed dump) → bytes ≡ titled (codes "counts") dump.counts ++ rest
counts_spelled bytes rest config dump led = leads_bytes (Counts config) (Listed dump) bytes rest 1 led ∙ ap (λ (text : List ℕ). text ++ rest) (counts_lines led.texts config dump led.count led.lead)

-- ---- objects and roots

-- the references are names that fit
abbrev pub AreSmall : List Reference → Type 0
AreSmall refs = (index : ℕ) (name : Name) → get_or refs index None ≡ Some name → (name.thread < 2 ^ 64) × (name.count < 2 ^ 64)

words_are : (words : List (List ℕ)) (references : List Reference) → AreReferences words references → AreSmall references → words ≡ map reference_word references
words_are [] [] references_are small_references = refl
words_are [] (reference ∷ references) references_are small_references = absurd references_are
words_are (word ∷ words) [] references_are small_references = absurd references_are
words_are (word ∷ words) (None ∷ later_references) references_are small_references =
    ap (λ (any_word : List ℕ). any_word ∷ words) references_are.0 ∙ ap (λ (any_words : List (List ℕ)). codes "-" ∷ any_words) (words_are words later_references references_are.1 (λ index. small_references (suc index)))
words_are (word ∷ words) (Some name ∷ later_references) references_are small_references =
    let name_small = small_references 0 name refl in
    ap (λ (any_word : List ℕ). any_word ∷ words) (name_of_word word name name_small.0 name_small.1 references_are.0) ∙ ap (λ (any_words : List (List ℕ)). name_word name ∷ any_words) (words_are words later_references references_are.1 (λ index. small_references (suc index)))

-- the lines of roots of the threads behind the first so many
abbrev pub roots_lines : ℕ → List (List Reference) → List ℕ
roots_lines threads [] = []
roots_lines threads (references ∷ rest) = line_of (codes "roots" ∷ decimal (threads + 1) ∷ map reference_word references) ++ roots_lines (threads + 1) rest

pub record Adds (dump other_dump : Dumped) (texts : List (List ℕ)) : Type 0 where
  pub rows : List Row
  pub roots : List (List Reference)
  pub rows_are : other_dump.rows ≡ dump.rows ++ rows
  pub roots_are : other_dump.roots ≡ dump.roots ++ roots
  pub which : (rows ≡ []) ⊎ (dump.roots ≡ [])
  pub text : flat_map ended texts ≡ flat_map object_line rows ++ roots_lines (length dump.roots) roots

pub never_back : (texts : List (List ℕ)) (stage : LineStage) (dump : Dumped) → DumpLead (Behind stage) texts (Listed dump) → ⊥
never_back [] stage dump lead = absurd cc
never_back (text ∷ later_texts) stage dump lead = never_back later_texts lead.1.0 dump (subst (λ (stage : DumpStage). DumpLead stage later_texts (Listed dump)) lead.1.2 lead.2)

seam : {A : Type 0} (xs ys : List A) (x default : A) → get_or ((xs ++ x ∷ []) ++ ys) (length xs) default ≡ x
seam {A = A} xs ys x default =
    let no_difference : length xs - length xs ≡ 0 = omega arith in
    ap (λ (zs : List A). get_or zs (length xs) default) (append_assoc xs (x ∷ []) ys)
    ∙ get_or-append_right xs (x ∷ ys) (length xs) (length xs) default refl (omega arith)
    ∙ ap (λ index. get_or (x ∷ ys) index default) no_difference

adds : (texts : List (List ℕ)) (dump other_dump : Dumped) → DumpLead (Listed dump) texts (Listed other_dump) → ((index : ℕ) → AreSmall (get_or other_dump.rows index (bare hub)).refs) → ((index : ℕ) → AreSmall (get_or other_dump.roots index [])) → Adds dump other_dump texts
adds [] dump other_dump lead small_refs roots_small =
    let same_dump : dump ≡ other_dump = cc in
    record {
      rows = [];
      roots = [];
      rows_are = sym (ap (λ (dump : Dumped). dump.rows) same_dump) ∙ sym (append-nil dump.rows);
      roots_are = sym (ap (λ (dump : Dumped). dump.roots) same_dump) ∙ sym (append-nil dump.roots);
      which = inl refl;
      text = refl;
    }
adds (text ∷ later_texts) dump other_dump lead small_refs roots_small = by_kind (λ from led. adds later_texts from other_dump led small_refs roots_small) lead.0 lead.1 lead.2
  where
    by_kind : ((from : Dumped) → DumpLead (Listed from) later_texts (Listed other_dump) → Adds from other_dump later_texts) → (next_stage : DumpStage) → DumpFollows (Listed dump) text next_stage → DumpLead next_stage later_texts (Listed other_dump) → Adds dump other_dump (text ∷ later_texts)
    by_kind adds_on next_stage (inl follows) more_lead =
        let added = follows.0 in
        let rest_added = adds_on (with_row dump added) (subst (λ (stage : DumpStage). DumpLead stage later_texts (Listed other_dump)) follows.7 more_lead) in
        let added_there : get_or other_dump.rows (length dump.rows) (bare hub) ≡ added = ap (λ (rows : List Row). get_or rows (length dump.rows) (bare hub)) rest_added.rows_are ∙ seam dump.rows rest_added.rows added (bare hub) in
        let words = words_are follows.1 added.refs follows.5 (subst (λ (row : Row). AreSmall row.refs) added_there (small_refs (length dump.rows))) in
        let first_line : ended text ≡ object_line added = follows.6 ∙ ap (λ (ws : List (List ℕ)). line_of (codes "object" ∷ name_word added.name ∷ (ws ++ codes "/" ∷ map decimal added.nums))) words in
        let roots_rest = roots_lines (length dump.roots) rest_added.roots in
        record {
          rows = added ∷ rest_added.rows;
          roots = rest_added.roots;
          rows_are = rest_added.rows_are ∙ append_assoc dump.rows (added ∷ []) rest_added.rows;
          roots_are = rest_added.roots_are;
          which = inr follows.2;
          text = flat_map-cons ended text later_texts ∙ ap (λ (bs : List ℕ). bs ++ flat_map ended later_texts) first_line ∙ ap (λ (bs : List ℕ). object_line added ++ bs) rest_added.text
              ∙ sym (append_assoc (object_line added) (flat_map object_line rest_added.rows) roots_rest) ∙ ap (λ (bs : List ℕ). bs ++ roots_rest) (sym (flat_map-cons object_line added rest_added.rows));
        }
    by_kind adds_on next_stage (inr (inl follows)) more_lead =
        let added = follows.0 in
        let rest_added = adds_on (with_roots dump added) (subst (λ (stage : DumpStage). DumpLead stage later_texts (Listed other_dump)) follows.6 more_lead) in
        let added_there : get_or other_dump.roots (length dump.roots) [] ≡ added = ap (λ (rows : List (List Reference)). get_or rows (length dump.roots) []) rest_added.roots_are ∙ seam dump.roots rest_added.roots added [] in
        let words = words_are follows.1 added follows.4 (subst AreSmall added_there (roots_small (length dump.roots))) in
        let first_line : ended text ≡ line_of (codes "roots" ∷ decimal (length dump.roots + 1) ∷ map reference_word added) = follows.5 ∙ ap (λ (ws : List (List ℕ)). line_of (codes "roots" ∷ decimal (length dump.roots + 1) ∷ ws)) words in
        let size = length-append dump.roots (added ∷ []) in
        let no_rows : rest_added.rows ≡ [] = by_which rest_added.rows rest_added.which size in
        let later : flat_map ended later_texts ≡ roots_lines (length dump.roots + 1) rest_added.roots = rest_added.text ∙ ap (λ (rows : List Row). flat_map object_line rows ++ roots_lines (length (dump.roots ++ added ∷ [])) rest_added.roots) no_rows ∙ ap (λ number. roots_lines number rest_added.roots) size in
        record {
          rows = [];
          roots = added ∷ rest_added.roots;
          rows_are = rest_added.rows_are ∙ ap (λ (rows : List Row). dump.rows ++ rows) no_rows;
          roots_are = rest_added.roots_are ∙ append_assoc dump.roots (added ∷ []) rest_added.roots;
          which = inl refl;
          text = flat_map-cons ended text later_texts ∙ ap (λ (bs : List ℕ). bs ++ flat_map ended later_texts) first_line ∙ ap (λ (bs : List ℕ). line_of (codes "roots" ∷ decimal (length dump.roots + 1) ∷ map reference_word added) ++ bs) later;
        }
      where
        by_which : (rows : List Row) → (rows ≡ []) ⊎ (dump.roots ++ follows.0 ∷ [] ≡ []) → length (dump.roots ++ follows.0 ∷ []) ≡ length dump.roots + 1 → rows ≡ []
        by_which rows (inl rows_empty) longer_roots = rows_empty
        by_which rows (inr empty) longer_roots = absurd (omega (arith, longer_roots, ap length empty))
    by_kind adds_on next_stage (inr (inr follows)) more_lead = absurd (never_back later_texts _ other_dump (subst (λ (stage : DumpStage). DumpLead stage later_texts (Listed other_dump)) follows.2 more_lead))

-- ---- the roots of all threads

root_words : (references : List Reference) → length references ≡ 16 → map reference_word references ≡ root_spellings (λ index. get_or references index None)
unfolding root_spellings
root_words references sixteen_references =
    ap (map reference_word) (fill_by_all (λ index. get_or references index None) references 16 None sixteen_references (λ position index_below. refl)) ∙ twice (range_with_len 0 16)
  where
    twice : (indices : List ℕ) → map reference_word (map (λ index. get_or references index None) indices) ≡ map (λ index. reference_word (get_or references index None)) indices
    twice [] = refl
    twice (i ∷ indices) = ap (λ (words : List (List ℕ)). reference_word (get_or references i None) ∷ words) (twice indices)

range_more : (from n : ℕ) → range_with_len from (suc n) ≡ from ∷ range_with_len (from + 1) n
range_more from n = grind arith

pub all_roots : (whole_roots later_roots : List (List Reference)) (threads : ℕ) → ((index : ℕ) → get_or whole_roots (threads + index) [] ≡ get_or later_roots index []) → All (λ (references : List Reference). length references ≡ 16) later_roots → roots_lines threads later_roots ≡ flat_map (roots_line_in whole_roots) (range_with_len (threads + 1) (length later_roots))
all_roots whole_roots [] threads same_roots sixteen_each = refl
all_roots whole_roots (first_references ∷ rest) threads same_roots sixteen_each =
    let zero_more : threads + 1 - 1 ≡ threads + 0 = omega arith in
    let first_is : get_or whole_roots (threads + 1 - 1) [] ≡ first_references = ap (λ index. get_or whole_roots index []) zero_more ∙ same_roots 0 in
    let words = root_words first_references (All-head (λ (references : List Reference). length references ≡ 16) first_references rest sixteen_each) ∙ ap (λ (references : List Reference). root_spellings (λ index. get_or references index None)) (sym first_is) in
    let first_line = ap (λ (ws : List (List ℕ)). line_of (codes "roots" ∷ decimal (threads + 1) ∷ ws)) words in
    ap (λ (bs : List ℕ). bs ++ roots_lines (threads + 1) rest) first_line
    ∙ ap (λ (bs : List ℕ). roots_line_in whole_roots (threads + 1) ++ bs) (all_roots whole_roots rest (threads + 1) (λ index. let next_index : threads + 1 + index ≡ threads + suc index = omega arith in ap (λ index. get_or whole_roots index []) next_index ∙ same_roots (suc index)) (All-tail (λ (references : List Reference). length references ≡ 16) first_references rest sixteen_each))
    ∙ sym (flat_map-cons (roots_line_in whole_roots) (threads + 1) (range_with_len (threads + 1 + 1) (length rest)))
    ∙ ap (flat_map (roots_line_in whole_roots)) (sym (range_more (threads + 1) (length rest)))

pub listed_spelled : (bytes rest : List ℕ) (lines : ℕ) (dump other_dump : Dumped) → Leads (Listed dump) bytes rest lines (Listed other_dump) → dump.rows ≡ [] → dump.roots ≡ [] → length other_dump.roots ≡ other_dump.config.mutators → All (λ (references : List Reference). length references ≡ 16) other_dump.roots
    → ((number : ℕ) → AreSmall (get_or other_dump.rows number (bare hub)).refs) → ((number : ℕ) → AreSmall (get_or other_dump.roots number []))
    → bytes ≡ (flat_map object_line other_dump.rows ++ flat_map (roots_line_in other_dump.roots) (thread_numbers other_dump.config.mutators)) ++ rest
listed_spelled bytes rest lines dump other_dump led rows_none roots_none root_count sixteen_each small_refs roots_small =
    let added = adds led.texts dump other_dump led.lead small_refs roots_small in
    let rows : added.rows ≡ other_dump.rows = sym (added.rows_are ∙ ap (λ (rs : List Row). rs ++ added.rows) rows_none) in
    let roots : added.roots ≡ other_dump.roots = sym (added.roots_are ∙ ap (λ (rs : List (List Reference)). rs ++ added.roots) roots_none) in
    let from : length dump.roots ≡ 0 = ap length roots_none in
    leads_bytes (Listed dump) (Listed other_dump) bytes rest lines led
    ∙ ap (λ (text : List ℕ). text ++ rest)
    (added.text ∙ ap (λ (rs : List Row). flat_map object_line rs ++ roots_lines (length dump.roots) added.roots) rows
    ∙ ap (λ (text : List ℕ). flat_map object_line other_dump.rows ++ text)
    (ap (λ number. roots_lines number added.roots) from ∙ ap (roots_lines 0) roots ∙ all_roots other_dump.roots other_dump.roots 0 (λ number. let no_offset : 0 + number ≡ number = omega arith in ap (λ row. get_or other_dump.roots row []) no_offset) sixteen_each ∙ ap (λ number. flat_map (roots_line_in other_dump.roots) (range_with_len 1 number)) root_count))

pub all_spelled : (bytes behind_head behind_counts behind_roots behind_mark mark after_mark : List ℕ) (dump : Dumped) → bytes ≡ sizes_head dump.config ++ behind_head → behind_head ≡ titled (codes "counts") dump.counts ++ behind_counts
    → behind_counts ≡ (flat_map object_line dump.rows ++ flat_map (roots_line_in dump.roots) (thread_numbers dump.config.mutators)) ++ behind_roots → behind_roots ≡ mark ++ behind_mark → behind_mark ≡ after_mark → bytes ≡ dump_text dump ++ (mark ++ after_mark)
all_spelled bytes behind_head behind_counts behind_roots behind_mark mark after_mark dump head_is counts_are list_is mark_is after_mark_is =
    let head = sizes_head dump.config in
    let counts = titled (codes "counts") dump.counts in
    let list = flat_map object_line dump.rows ++ flat_map (roots_line_in dump.roots) (thread_numbers dump.config.mutators) in
    let tail = mark ++ after_mark in
    head_is ∙ ap (λ (text : List ℕ). head ++ text)
    (counts_are ∙ ap (λ (text : List ℕ). counts ++ text) (list_is ∙ ap (λ (text : List ℕ). list ++ text) (mark_is ∙ ap (λ (text : List ℕ). mark ++ text) after_mark_is)) ∙ sym (append_assoc counts list tail))
    ∙ sym (append_assoc head (counts ++ list) tail)
