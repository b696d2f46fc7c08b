-- The lines of the head of a dump.
use Rattle.std.proofs.lemmas.Option.{same_Some}
use Rattle.std.proofs.Common.{ℕ, ◌≡◌, lit<, true, false, List, [], ◌∷◌, ◌++◌, length, take, get_or, eqb, codes, append_assoc, append-nil, refl, sym, ap, ◌∙◌, None, Some, Option, arith}
use Rattle.std.proofs.lemmas.Bool.Decides.{nat_tests}
use Rattle.std.proofs.lemmas.Bool.{false≢true, eqb-true}
use Rattle.std.proofs.lemmas.Fmt.{decimal_digit}
use Rattle.std.proofs.lemmas.List.{get_or-take}
use Rattle.shen_graph.proofs.Lists.{same_before_end}
use Rattle.heap_words.specs.declared.config.Config.{Config}
use Rattle.heap_words.specs.Narrow.{IsNarrow}
use Rattle.heap_words.specs.declared.config.BadConfig.{BadConfig}
use Rattle.heap_words.specs.Faults.{fault_of}
use Rattle.trace_reading.specs.Kinds.{AreWithinLimits}
use Rattle.trace_reading.specs.Spelling.{newline, numbers, titled}
use Rattle.trace_reading.specs.Scanning.{behind, numbers_at}
use Rattle.trace_reading.proofs.GrammarNumbers.{behind_takes, behind_again, AreSmall, numbers_take, numbers_again}
use Rattle.trace_reading.proofs.GrammarLines.{three_listed, two_listed, within_length}
use Rattle.trace_reading.proofs.HeadLaws.{no_fault}
use Rattle.heap_dump.specs.DumpLines.{Spells, IsHeapOf, heap_line, threads_line}

pub text_of_title : (title values text : List ℕ) → Spells text (titled title values) → text ≡ title ++ numbers values
text_of_title title values text spells = same_before_end text (title ++ numbers values) newline (spells ∙ sym (append_assoc title (numbers values) (newline ∷ [])))

pub title_of_text : (title values text : List ℕ) → text ≡ title ++ numbers values → Spells text (titled title values)
title_of_text title values text same_text = ap (λ (some_text : List ℕ). some_text ++ newline ∷ []) same_text ∙ append_assoc title (numbers values) (newline ∷ [])

-- ---- what is read of a line that is spelled so

pub rest_is : (title values text rest : List ℕ) → ◌≡◌ {A = Option (List ℕ)} (Some rest) (behind title text) → Spells text (titled title values) → rest ≡ numbers values
rest_is title values text rest title_behind spells = same_Some rest (numbers values) (title_behind ∙ ap (behind title) (text_of_title title values text spells) ∙ behind_again title (numbers values))

pub title_there : (title values text : List ℕ) → None ≡ behind title text → Spells text (titled title values) → ⊥
title_there title values text no_title spells = let title_again = ap (behind title) (text_of_title title values text spells) ∙ behind_again title (numbers values) in absurd cc

read_again : (limits values rest : List ℕ) → rest ≡ numbers values → AreWithinLimits limits values → AreSmall limits → numbers_at limits rest ≡ Some (values, [])
read_again limits values rest rest_spelled values_within limits_small = ap (numbers_at limits) (rest_spelled ∙ sym (append-nil (numbers values))) ∙ numbers_again limits values [] values_within limits_small tt

pub numbers_are : (limits values rest : List ℕ) (numbers_read : List ℕ × List ℕ) → ◌≡◌ {A = Option (List ℕ × List ℕ)} (Some numbers_read) (numbers_at limits rest) → rest ≡ numbers values → AreWithinLimits limits values → AreSmall limits → numbers_read ≡ (values, [])
numbers_are limits values rest numbers_read rest_read rest_spelled values_within limits_small =
    let made : List ℕ × List ℕ = (values, []) in
    same_Some numbers_read made (rest_read ∙ read_again limits values rest rest_spelled values_within limits_small)

pub numbers_there : (limits values rest : List ℕ) → None ≡ numbers_at limits rest → rest ≡ numbers values → AreWithinLimits limits values → AreSmall limits → ⊥
numbers_there limits values rest no_numbers rest_spelled values_within limits_small = let read_back = read_again limits values rest rest_spelled values_within limits_small in absurd cc

pub spelled_so : (title text rest limits : List ℕ) (numbers_read : List ℕ × List ℕ) → ◌≡◌ {A = Option (List ℕ)} (Some rest) (behind title text) → ◌≡◌ {A = Option (List ℕ × List ℕ)} (Some numbers_read) (numbers_at limits rest) → AreSmall limits → numbers_read.1 ≡ []
    → Spells text (titled title numbers_read.0) × (length numbers_read.0 ≡ length limits)
spelled_so title text rest limits numbers_read title_behind numbers_second limits_small nothing_behind =
    let text_split = behind_takes title text rest (sym title_behind) in
    let numbers_split = numbers_take limits rest numbers_read limits_small (sym numbers_second) in
    (title_of_text title numbers_read.0 text (text_split ∙ ap (λ (some_text : List ℕ). title ++ some_text) (numbers_split.0 ∙ ap (λ (some_text : List ℕ). numbers numbers_read.0 ++ some_text) nothing_behind ∙ append-nil (numbers numbers_read.0))), within_length limits numbers_read.0 numbers_split.1)

pub empty_is : (bytes : List ℕ) → true ≡ eqb (length bytes) 0 → bytes ≡ []
empty_is [] empty_test = refl
empty_is (byte ∷ bytes) empty_test = absurd (let no_bytes = eqb-true (length (byte ∷ bytes)) 0 (sym empty_test) in omega (arith, no_bytes))

pub empty_not : (bytes : List ℕ) → false ≡ eqb (length bytes) 0 → bytes ≡ [] → ⊥
empty_not bytes not_empty no_bytes = false≢true (not_empty ∙ ap (λ (some_bytes : List ℕ). eqb (length some_bytes) 0) no_bytes)

-- ---- the sizes of the heap

abbrev pub heap_limits : List ℕ
heap_limits = 64 ∷ 1024 ∷ 63 ∷ []

abbrev pub heap_numbers : Config → List ℕ
heap_numbers config = config.regions ∷ config.region_words ∷ config.reserve ∷ []

abbrev pub heap_small : AreSmall heap_limits
heap_small = (lit< tt, (lit< tt, (lit< tt, tt)))

pub heap_within : (config : Config) → IsNarrow config → AreWithinLimits heap_limits (heap_numbers config)
heap_within config narrow = (omega arith, (omega arith, (omega arith, tt)))

no_heap_fault : (config : Config) → IsNarrow config → fault_of config.regions config.region_words 1 0 config.reserve ≡ None
no_heap_fault config narrow = grind (arith, nat_tests)

pub heap_refused : (text rest bytes_behind size_list : List ℕ) (found : Option BadConfig) → ◌≡◌ {A = Option (List ℕ)} (Some rest) (behind (codes "heap") text) → ◌≡◌ {A = Option (List ℕ × List ℕ)} (Some (take 3 size_list, bytes_behind)) (numbers_at heap_limits rest)
    → found ≡ fault_of (get_or size_list 0 0) (get_or size_list 1 0) 1 0 (get_or size_list 2 0) → (found ≡ None → ⊥) → (config : Config) → IsNarrow config → Spells text (heap_line config) → ⊥
heap_refused text rest bytes_behind size_list found title_behind sizes_second fault some_refusal config narrow spells =
    let read : List ℕ × List ℕ = (take 3 size_list, bytes_behind) in
    let numbers_same = numbers_are heap_limits (heap_numbers config) rest read sizes_second (rest_is (codes "heap") (heap_numbers config) text rest title_behind spells) (heap_within config narrow) heap_small in
    let sizes : take 3 size_list ≡ heap_numbers config = ap (λ (numbers_read : List ℕ × List ℕ). numbers_read.0) numbers_same in
    let regions = sym (get_or-take 3 size_list 0 0 (lit< tt)) ∙ ap (λ (list : List ℕ). get_or list 0 0) sizes in
    let words = sym (get_or-take 3 size_list 1 0 (lit< tt)) ∙ ap (λ (list : List ℕ). get_or list 1 0) sizes in
    let reserve = sym (get_or-take 3 size_list 2 0 (lit< tt)) ∙ ap (λ (list : List ℕ). get_or list 2 0) sizes in
    let fine : fault_of (get_or size_list 0 0) (get_or size_list 1 0) 1 0 (get_or size_list 2 0) ≡ None = rw (regions, words, reserve) (no_heap_fault config narrow) in
    some_refusal (fault ∙ fine)

pub heap_read : (text rest bytes_behind size_list : List ℕ) (config : Config) → ◌≡◌ {A = Option (List ℕ)} (Some rest) (behind (codes "heap") text) → ◌≡◌ {A = Option (List ℕ × List ℕ)} (Some (take 3 size_list, bytes_behind)) (numbers_at heap_limits rest) → bytes_behind ≡ []
    → config.regions ≡ get_or size_list 0 0 → config.region_words ≡ get_or size_list 1 0 → config.reserve ≡ get_or size_list 2 0 → Spells text (heap_line config)
heap_read text rest bytes_behind size_list config title_behind sizes_second nothing_behind regions words_are reserve =
    let read : List ℕ × List ℕ = (take 3 size_list, bytes_behind) in
    let spelled_line = spelled_so (codes "heap") text rest heap_limits read title_behind sizes_second heap_small nothing_behind in
    let sizes : heap_numbers config ≡ take 3 size_list = rw (regions, words_are, reserve, ← get_or-take 3 size_list 0 0 (lit< tt), ← get_or-take 3 size_list 1 0 (lit< tt), ← get_or-take 3 size_list 2 0 (lit< tt)) (three_listed (take 3 size_list) spelled_line.1) in
    spelled_line.0 ∙ ap (titled (codes "heap")) (sym sizes)

-- ---- the machines

abbrev pub threads_limits : List ℕ
threads_limits = 8 ∷ 3 ∷ []

abbrev pub threads_numbers : Config → List ℕ
threads_numbers config = config.mutators ∷ config.helpers ∷ []

abbrev pub threads_small : AreSmall threads_limits
threads_small = (lit< tt, (lit< tt, tt))

pub threads_within : (config : Config) → AreWithinLimits threads_limits (threads_numbers config)
threads_within config = (omega arith, (omega arith, tt))

pub threads_refused : (config : Config) (text rest bytes_behind size_list : List ℕ) (found : Option BadConfig) → ◌≡◌ {A = Option (List ℕ)} (Some rest) (behind (codes "threads") text) → ◌≡◌ {A = Option (List ℕ × List ℕ)} (Some (take 2 size_list, bytes_behind)) (numbers_at threads_limits rest)
    → found ≡ fault_of config.regions config.region_words (get_or size_list 0 0) (get_or size_list 1 0) config.reserve → (found ≡ None → ⊥) → IsNarrow config → (whole_config : Config) → IsHeapOf config whole_config → Spells text (threads_line whole_config) → ⊥
threads_refused config text rest bytes_behind size_list found title_behind sizes_second fault some_refusal narrow whole_config same_heap spells =
    let read : List ℕ × List ℕ = (take 2 size_list, bytes_behind) in
    let numbers_same = numbers_are threads_limits (threads_numbers whole_config) rest read sizes_second (rest_is (codes "threads") (threads_numbers whole_config) text rest title_behind spells) (threads_within whole_config) threads_small in
    let sizes : take 2 size_list ≡ threads_numbers whole_config = ap (λ (numbers_read : List ℕ × List ℕ). numbers_read.0) numbers_same in
    let mutators = sym (get_or-take 2 size_list 0 0 (lit< tt)) ∙ ap (λ (list : List ℕ). get_or list 0 0) sizes in
    let helpers = sym (get_or-take 2 size_list 1 0 (lit< tt)) ∙ ap (λ (list : List ℕ). get_or list 1 0) sizes in
    let fault_free : fault_of config.regions config.region_words (get_or size_list 0 0) (get_or size_list 1 0) config.reserve ≡ None = rw (← same_heap.regions, ← same_heap.region_words, ← same_heap.reserve, mutators, helpers) (no_fault whole_config (omega (arith, narrow, same_heap.region_words))) in
    some_refusal (fault ∙ fault_free)

pub threads_read : (text rest bytes_behind size_list : List ℕ) (config : Config) → ◌≡◌ {A = Option (List ℕ)} (Some rest) (behind (codes "threads") text) → ◌≡◌ {A = Option (List ℕ × List ℕ)} (Some (take 2 size_list, bytes_behind)) (numbers_at threads_limits rest) → bytes_behind ≡ []
    → config.mutators ≡ get_or size_list 0 0 → config.helpers ≡ get_or size_list 1 0 → Spells text (threads_line config)
threads_read text rest bytes_behind size_list config title_behind sizes_second nothing_behind mutators helpers =
    let read : List ℕ × List ℕ = (take 2 size_list, bytes_behind) in
    let spelled_line = spelled_so (codes "threads") text rest threads_limits read title_behind sizes_second threads_small nothing_behind in
    let sizes : threads_numbers config ≡ take 2 size_list = rw (mutators, helpers, ← get_or-take 2 size_list 0 0 (lit< tt), ← get_or-take 2 size_list 1 0 (lit< tt)) (two_listed (take 2 size_list) spelled_line.1) in
    spelled_line.0 ∙ ap (titled (codes "threads")) (sym sizes)

-- ---- the version

pub version_line : titled (codes "dump") (1 ∷ []) ≡ codes "dump 1" ++ newline ∷ []
version_line = ap (λ (digits : List ℕ). codes "dump" ++ ((32 ∷ (digits ++ [])) ++ newline ∷ [])) (decimal_digit 1 (lit< tt))
