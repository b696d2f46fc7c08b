-- A line of a dump is one line, and leads on in one way.
use Rattle.std.proofs.lemmas.Bool.{cases_lt}
use Rattle.std.proofs.Common.{ℕ, ◌≡◌, ◌+◌, ◌^◌, ◌<◌, ◌≤◌, ◌⊎◌, inl, inr, List, [], ◌∷◌, ◌++◌, length, map, get_or, codes, refl, sym, ap, subst, ◌∙◌, arith}
use Rattle.std.specs.Prelude.{All, slice_index}
use Rattle.std.specs.Fmt.{decimal}
use Rattle.std.proofs.lemmas.List.{get_or_past}
use Rattle.std.proofs.lemmas.List.Elements.{All-head, All-tail, All-get_or}
use Rattle.shen_graph.proofs.Lists.{cons_injective}
use Rattle.heap_words.specs.declared.config.Config.{Config}
use Rattle.heap_words.specs.Narrow.{IsNarrow}
use Rattle.shen_graph.specs.declared.name.Name.{Name}
use Rattle.shen_graph.specs.Graph.{Reference}
use Rattle.shen_graph.specs.GraphText.{Row}
use Rattle.trace_reading.specs.Spelling.{titled}
use Rattle.trace_reading.proofs.Once.{same_config}
use Rattle.trace_reading.specs.Causes.{parts}
use Rattle.trace_reading.proofs.Free.{IsWord}
use Rattle.trace_reading.proofs.HeadWords.{titled_is, heap_again, threads_again}
use Rattle.trace_text.specs.Answer.{name_word}
use Rattle.heap_dump.specs.Dumped.{Dumped, most_made}
use Rattle.heap_dump.specs.DumpLines.{DumpStage, Version, Heap, Threads, Counts, Listed, Behind, DumpFollows, IsHeapOf, Spells, AreReferences, with_row, with_roots, ObjectFollows, RootsFollow, heap_line}
use Rattle.heap_dump.proofs.References.{reference_once, named_small}
use Rattle.heap_dump.proofs.Strokes.{same_behind}
use Rattle.heap_dump.proofs.RowWords.{one_name}
use Rattle.heap_dump.proofs.TakenRoots.{decimal_once}
use Rattle.heap_dump.proofs.Lined.{line_words, numbers_are_words, object_words, roots_words, mark_words, object_is_no_roots, object_is_no_mark, roots_is_no_mark}
use Rattle.heap_dump.proofs.Steps.{IsDumping}

-- ---- words

decimals_once : (first_numbers second_numbers : List ℕ) → All (λ first_number. first_number < 2 ^ 64) first_numbers → All (λ first_number. first_number < 2 ^ 64) second_numbers → map decimal first_numbers ≡ map decimal second_numbers → first_numbers ≡ second_numbers
decimals_once [] [] first_small second_small same_words = refl
decimals_once [] (second_number ∷ second_numbers) first_small second_small same_words = absurd (omega (arith, ap length same_words))
decimals_once (first_number ∷ first_numbers) [] first_small second_small same_words = absurd (omega (arith, ap length same_words))
decimals_once (first_number ∷ first_numbers) (second_number ∷ second_numbers) first_small second_small same_words =
    let same_parts = cons_injective (decimal first_number) (decimal second_number) (map decimal first_numbers) (map decimal second_numbers) same_words in
    let same_number = decimal_once first_number second_number (All-head (λ number. number < 2 ^ 64) first_number first_numbers first_small) (All-head (λ number. number < 2 ^ 64) second_number second_numbers second_small) same_parts.0 in
    let same_others = decimals_once first_numbers second_numbers (All-tail (λ number. number < 2 ^ 64) first_number first_numbers first_small) (All-tail (λ number. number < 2 ^ 64) second_number second_numbers second_small) same_parts.1 in
    ap (λ (number : ℕ). number ∷ first_numbers) same_number ∙ ap (λ (ks : List ℕ). second_number ∷ ks) same_others

references_once : (words : List (List ℕ)) (references other_references : List Reference) → AreReferences words references → AreReferences words other_references → references ≡ other_references
references_once [] [] [] references second_spelled = refl
references_once [] [] (reference ∷ other_references) references second_spelled = absurd second_spelled
references_once [] (reference ∷ other_references) references first_spelled second_spelled = absurd first_spelled
references_once (word ∷ words) [] references first_spelled second_spelled = absurd first_spelled
references_once (word ∷ words) (reference ∷ other_references) [] references second_spelled = absurd second_spelled
references_once (word ∷ words) (other_reference ∷ other_references) (second_reference ∷ rest) references second_spelled =
    ap (λ (reference : Reference). reference ∷ other_references) (reference_once word other_reference second_reference references.0 second_spelled.0) ∙ ap (λ (xs : List Reference). second_reference ∷ xs) (references_once words other_references rest references.1 second_spelled.1)

same_references : (words other_words : List (List ℕ)) (references other_references : List Reference) → AreReferences words references → AreReferences other_words other_references → words ≡ other_words → references ≡ other_references
same_references words other_words references other_references first_spelled second_spelled same_words = references_once words references other_references first_spelled (subst (λ (listed : List (List ℕ)). AreReferences listed other_references) (sym same_words) second_spelled)

same_row : (row other_row : Row) → row.name ≡ other_row.name → row.refs ≡ other_row.refs → row.nums ≡ other_row.nums → row ≡ other_row
same_row row other_row name same_refs same_nums =
    ap (λ (name : Name). record { name = name; refs = row.refs; nums = row.nums }) name
    ∙ ap (λ (xs : List Reference). record { name = other_row.name; refs = xs; nums = row.nums }) same_refs
    ∙ ap (λ (xs : List ℕ). record { name = other_row.name; refs = other_row.refs; nums = xs }) same_nums

-- ---- counts

counts_title : IsWord (codes "counts")
counts_title = record { no_space = refl; no_end = refl }

pub small_counts : (counts : List ℕ) → All (λ count. count ≤ most_made) counts → All (λ count. count < 2 ^ 64) counts
small_counts counts all_within index fallback low = let count_within = all_within index fallback low in omega (arith, count_within)

pub counts_words : (text : List ℕ) (counts : List ℕ) → All (λ count. count ≤ most_made) counts → Spells text (titled (codes "counts") counts) → parts 32 text ≡ codes "counts" ∷ map decimal counts
counts_words text counts all_within spells =
    line_words text (codes "counts") (map decimal counts) (counts_title, numbers_are_words counts (small_counts counts all_within)) (spells ∙ sym (titled_is (codes "counts") counts))

pub each_small : (counts : List ℕ) → All (λ made. made ≤ most_made) counts → (index : ℕ) → slice_index counts index < 2 ^ 32
each_small counts all_within index = by_low (cases_lt index (length counts))
  where
    by_low : (index < length counts) ⊎ (length counts ≤ index) → slice_index counts index < 2 ^ 32
    by_low (inl index_below) = let count_within = All-get_or (λ count. count ≤ most_made) counts index 0 index_below all_within in omega (arith, count_within)
    by_low (inr index_above) = let no_count : slice_index counts index ≡ 0 = get_or_past counts index 0 index_above in omega (arith, no_count)

-- ---- the heap

abbrev heap_numbers : Config → List (List ℕ)
heap_numbers config = map decimal (config.regions ∷ config.region_words ∷ config.reserve ∷ [])

word_at : (words other_words : List (List ℕ)) (index : ℕ) → words ≡ other_words → get_or words index [] ≡ get_or other_words index []
word_at words other_words index same_list = ap (λ (listed : List (List ℕ)). get_or listed index []) same_list

same_heap : (config other_config : Config) (text : List ℕ) → IsNarrow config → IsNarrow other_config → Spells text (heap_line config) → Spells text (heap_line other_config) → IsHeapOf config other_config
same_heap config other_config text narrow other_narrow spells other_spells =
    let same_words = sym (heap_again 2 other_config text other_narrow other_spells).2 ∙ (heap_again 2 config text narrow spells).2 in
    let words = codes "heap" ∷ heap_numbers other_config in
    let other_words = codes "heap" ∷ heap_numbers config in
    record {
      regions = decimal_once other_config.regions config.regions (omega (arith, other_config.in_range.most_regions)) (omega (arith, config.in_range.most_regions)) (word_at words other_words 1 same_words);
      region_words = decimal_once other_config.region_words config.region_words (omega (arith, other_config.in_range.most_words)) (omega (arith, config.in_range.most_words)) (word_at words other_words 2 same_words);
      reserve = decimal_once other_config.reserve config.reserve (omega (arith, other_config.in_range.some_left, other_config.in_range.most_regions)) (omega (arith, config.in_range.some_left, config.in_range.most_regions)) (word_at words other_words 3 same_words);
    }

same_threads : (heap_config given_config second_config : Config) (text : List ℕ) → IsHeapOf heap_config given_config → IsHeapOf heap_config second_config → Spells text (titled (codes "threads") (given_config.mutators ∷ given_config.helpers ∷ [])) → Spells text (titled (codes "threads") (second_config.mutators ∷ second_config.helpers ∷ [])) → given_config ≡ second_config
same_threads config first_config second_config text heap_of second_heap spells second_spells =
    let same_words = sym (threads_again 2 0 0 0 first_config text spells).2 ∙ (threads_again 2 0 0 0 second_config text second_spells).2 in
    let words = codes "threads" ∷ map decimal (first_config.mutators ∷ first_config.helpers ∷ []) in
    let other_words = codes "threads" ∷ map decimal (second_config.mutators ∷ second_config.helpers ∷ []) in
    let same_mutators = decimal_once first_config.mutators second_config.mutators (omega (arith, first_config.in_range.most_mutators)) (omega (arith, second_config.in_range.most_mutators)) (word_at words other_words 1 same_words) in
    let same_helpers = decimal_once first_config.helpers second_config.helpers (omega (arith, first_config.in_range.most_helpers)) (omega (arith, second_config.in_range.most_helpers)) (word_at words other_words 2 same_words) in
    same_config first_config second_config (heap_of.regions ∙ sym second_heap.regions) (heap_of.region_words ∙ sym second_heap.region_words) same_mutators same_helpers (heap_of.reserve ∙ sym second_heap.reserve)

-- ---- objects and roots

-- what was read of the counts is in its ranges
abbrev pub IsWithin : DumpStage → Type 0
IsWithin Version = Unit {0}
IsWithin Heap = Unit {0}
IsWithin (Threads config) = Unit {0}
IsWithin (Counts config) = Unit {0}
IsWithin (Listed dump) = (length dump.counts ≤ 8) × (length dump.roots ≤ 8) × ((index : ℕ) → slice_index dump.counts index < 2 ^ 32)
IsWithin (Behind stage) = Unit {0}

object_once : (dump : Dumped) (text : List ℕ) (stage other_stage : DumpStage) → IsWithin (Listed dump) → ObjectFollows dump text stage → ObjectFollows dump text other_stage → stage ≡ other_stage
object_once dump text stage other_stage stage_within object_follows follows_other =
    let first_row = object_follows.0 in
    let other_row = follows_other.0 in
    let first_small = named_small dump.counts first_row.name stage_within.0 stage_within.2 object_follows.3.name in
    let second_small = named_small dump.counts other_row.name stage_within.0 stage_within.2 follows_other.3.name in
    let words = object_words text first_row object_follows.1 (omega (arith, first_small.0)) (omega (arith, first_small.1)) object_follows.5 object_follows.3.fields.fit object_follows.6 in
    let other_words = object_words text other_row follows_other.1 (omega (arith, second_small.0)) (omega (arith, second_small.1)) follows_other.5 follows_other.3.fields.fit follows_other.6 in
    let same_tail = cons_injective (codes "object") (codes "object") (name_word first_row.name ∷ (object_follows.1 ++ codes "/" ∷ map decimal first_row.nums)) (name_word other_row.name ∷ (follows_other.1 ++ codes "/" ∷ map decimal other_row.nums)) (sym words ∙ other_words) in
    let same_parts = cons_injective (name_word first_row.name) (name_word other_row.name) (object_follows.1 ++ codes "/" ∷ map decimal first_row.nums) (follows_other.1 ++ codes "/" ∷ map decimal other_row.nums) same_tail.1 in
    let fields = same_behind object_follows.1 follows_other.1 first_row.refs other_row.refs (map decimal first_row.nums) (map decimal other_row.nums) object_follows.5 follows_other.5 same_parts.1 in
    let name = one_name dump.counts (name_word first_row.name) first_row.name other_row.name stage_within.0 stage_within.2 object_follows.3.name follows_other.3.name refl same_parts.0 in
    let row = same_row first_row other_row name (same_references object_follows.1 follows_other.1 first_row.refs other_row.refs object_follows.5 follows_other.5 fields.0) (decimals_once first_row.nums other_row.nums object_follows.3.fields.fit follows_other.3.fields.fit fields.1) in
    object_follows.7 ∙ ap (λ (row : Row). Listed (with_row dump row)) row ∙ sym follows_other.7

roots_once : (dump : Dumped) (text : List ℕ) (stage other_stage : DumpStage) → IsWithin (Listed dump) → RootsFollow dump text stage → RootsFollow dump text other_stage → stage ≡ other_stage
roots_once dump text stage other_stage stage_within roots_follow follows_other =
    let thread = length dump.roots + 1 in
    let thread_small : thread < 2 ^ 64 = omega (arith, stage_within.1) in
    let same_words = sym (roots_words text thread roots_follow.0 roots_follow.1 thread_small roots_follow.4 roots_follow.5) ∙ roots_words text thread follows_other.0 follows_other.1 thread_small follows_other.4 follows_other.5 in
    let same_tail = cons_injective (codes "roots") (codes "roots") (decimal thread ∷ roots_follow.1) (decimal thread ∷ follows_other.1) same_words in
    let same_parts = cons_injective (decimal thread) (decimal thread) roots_follow.1 follows_other.1 same_tail.1 in
    roots_follow.6 ∙ ap (λ (references : List Reference). Listed (with_roots dump references)) (same_references roots_follow.1 follows_other.1 roots_follow.0 follows_other.0 roots_follow.4 follows_other.4 same_parts.1) ∙ sym follows_other.6

object_text : (dump : Dumped) (text : List ℕ) (stage : DumpStage) → IsWithin (Listed dump) → ObjectFollows dump text stage → (words : List (List ℕ)) × (parts 32 text ≡ codes "object" ∷ words)
object_text dump text stage stage_within object_follows =
    let name_small = named_small dump.counts object_follows.0.name stage_within.0 stage_within.2 object_follows.3.name in
    (_, object_words text object_follows.0 object_follows.1 (omega (arith, name_small.0)) (omega (arith, name_small.1)) object_follows.5 object_follows.3.fields.fit object_follows.6)

roots_text : (dump : Dumped) (text : List ℕ) (stage : DumpStage) → IsWithin (Listed dump) → RootsFollow dump text stage → (words : List (List ℕ)) × (parts 32 text ≡ codes "roots" ∷ words)
roots_text dump text stage stage_within roots_follow = (_, roots_words text (length dump.roots + 1) roots_follow.0 roots_follow.1 (omega (arith, stage_within.1)) roots_follow.4 roots_follow.5)

pub listed_once : (dump : Dumped) (text : List ℕ) (stage other_stage : DumpStage) → IsWithin (Listed dump) → DumpFollows (Listed dump) text stage → DumpFollows (Listed dump) text other_stage → stage ≡ other_stage
listed_once dump text stage other_stage stage_within (inl first_follows) (inl second_follows) = object_once dump text stage other_stage stage_within first_follows second_follows
listed_once dump text stage other_stage stage_within (inl first_follows) (inr (inl second_follows)) =
    let first_text = object_text dump text stage stage_within first_follows in let second_text = roots_text dump text other_stage stage_within second_follows in absurd (object_is_no_roots first_text.0 second_text.0 (sym first_text.1 ∙ second_text.1))
listed_once dump text stage other_stage stage_within (inl first_follows) (inr (inr second_follows)) =
    let first_text = object_text dump text stage stage_within first_follows in absurd (object_is_no_mark first_text.0 [] (sym first_text.1 ∙ mark_words text second_follows.1))
listed_once dump text stage other_stage stage_within (inr (inl first_follows)) (inl second_follows) =
    let first_text = object_text dump text other_stage stage_within second_follows in let second_text = roots_text dump text stage stage_within first_follows in absurd (object_is_no_roots first_text.0 second_text.0 (sym first_text.1 ∙ second_text.1))
listed_once dump text stage other_stage stage_within (inr (inl first_follows)) (inr (inl second_follows)) = roots_once dump text stage other_stage stage_within first_follows second_follows
listed_once dump text stage other_stage stage_within (inr (inl first_follows)) (inr (inr second_follows)) =
    let second_text = roots_text dump text stage stage_within first_follows in absurd (roots_is_no_mark second_text.0 [] (sym second_text.1 ∙ mark_words text second_follows.1))
listed_once dump text stage other_stage stage_within (inr (inr first_follows)) (inl second_follows) =
    let first_text = object_text dump text other_stage stage_within second_follows in absurd (object_is_no_mark first_text.0 [] (sym first_text.1 ∙ mark_words text first_follows.1))
listed_once dump text stage other_stage stage_within (inr (inr first_follows)) (inr (inl second_follows)) =
    let second_text = roots_text dump text other_stage stage_within second_follows in absurd (roots_is_no_mark second_text.0 [] (sym second_text.1 ∙ mark_words text first_follows.1))
listed_once dump text stage other_stage stage_within (inr (inr first_follows)) (inr (inr second_follows)) = first_follows.2 ∙ sym second_follows.2

-- ---- stages that lead on alike

-- they are one, or heaps of the same sizes
abbrev pub Same : DumpStage → DumpStage → Type 0
Same stage other_stage = (stage ≡ other_stage) ⊎ ((config : Config) × (other_config : Config) × (stage ≡ Threads config) × (other_stage ≡ Threads other_config) × IsHeapOf config other_config)

pub same_back : (stage other_stage : DumpStage) → Same stage other_stage → Same other_stage stage
same_back stage other_stage (inl same_stage) = inl (sym same_stage)
same_back stage other_stage (inr same_sizes) = inr (same_sizes.1, same_sizes.0, same_sizes.3, same_sizes.2, record { regions = sym same_sizes.4.regions; region_words = sym same_sizes.4.region_words; reserve = sym same_sizes.4.reserve })

pub carry : (stage other_stage : DumpStage) (text : List ℕ) (next_stage : DumpStage) → Same stage other_stage → DumpFollows other_stage text next_stage → DumpFollows stage text next_stage
carry stage other_stage text next_stage (inl same_stage) dump_follows = subst (λ (stage : DumpStage). DumpFollows stage text next_stage) (sym same_stage) dump_follows
carry stage other_stage text next_stage (inr same_sizes) dump_follows = subst (λ (stage : DumpStage). DumpFollows stage text next_stage) (sym same_sizes.2) (by_heap same_sizes.0 same_sizes.1 same_sizes.4 (subst (λ (stage : DumpStage). DumpFollows stage text next_stage) same_sizes.3 dump_follows))
  where
    by_heap : (config other_config : Config) → IsHeapOf config other_config → DumpFollows (Threads other_config) text next_stage → DumpFollows (Threads config) text next_stage
    by_heap config other_config heap_of follows = (follows.0, record { regions = follows.1.regions ∙ heap_of.regions; region_words = follows.1.region_words ∙ heap_of.region_words; reserve = follows.1.reserve ∙ heap_of.reserve }, follows.2, follows.3)

-- a line leads on in one way
pub follows_once : (from_stage : DumpStage) (text : List ℕ) (first_stage second_stage : DumpStage) → IsDumping from_stage → IsWithin from_stage → DumpFollows from_stage text first_stage → DumpFollows from_stage text second_stage → Same first_stage second_stage
follows_once Version text stage other_stage dumping stage_within dump_follows second_follows = inl (dump_follows.1 ∙ sym second_follows.1)
follows_once Heap text stage other_stage dumping stage_within dump_follows second_follows = inr (dump_follows.0, second_follows.0, dump_follows.3, second_follows.3, same_heap dump_follows.0 second_follows.0 text dump_follows.1 second_follows.1 dump_follows.2 second_follows.2)
follows_once (Threads config) text stage other_stage dumping stage_within dump_follows second_follows = inl (dump_follows.3 ∙ ap Counts (same_threads config dump_follows.0 second_follows.0 text dump_follows.1 second_follows.1 dump_follows.2 second_follows.2) ∙ sym second_follows.3)
follows_once (Counts config) text stage other_stage dumping stage_within dump_follows second_follows =
    let same_words = sym (counts_words text dump_follows.0 dump_follows.2 dump_follows.3) ∙ counts_words text second_follows.0 second_follows.2 second_follows.3 in
    let same_parts = cons_injective (codes "counts") (codes "counts") (map decimal dump_follows.0) (map decimal second_follows.0) same_words in
    let counts = decimals_once dump_follows.0 second_follows.0 (small_counts dump_follows.0 dump_follows.2) (small_counts second_follows.0 second_follows.2) same_parts.1 in
    inl (dump_follows.4 ∙ ap (λ (listed : List ℕ). Listed (record { config = config; counts = listed; rows = []; roots = [] })) counts ∙ sym second_follows.4)
follows_once (Listed dump) text stage other_stage dumping stage_within dump_follows second_follows = inl (listed_once dump text stage other_stage stage_within dump_follows second_follows)
follows_once (Behind stage) text first_stage second_stage dumping stage_within dump_follows second_follows = absurd dumping
