-- The two laws of the reader of a trace's head.
use Rattle.std.proofs.lemmas.Option.{same_Some}
use Rattle.std.proofs.Common.{◌≡◌, ℕ, ◌<◌, List, [], ◌∷◌, ◌++◌, length, get_or, take, Option, Some, None, Result, Ok, Err, refl, sym, ap, subst, ◌∙◌, append_assoc, lit<, arith}
use Rattle.std.specs.Prelude.{codes}
use Rattle.std.specs.Result.{result_err, result_ok}
use Rattle.std.proofs.lemmas.Bool.Decides.{nat_tests}
use Rattle.std.specs.Fmt.{decimal}
use Rattle.std.proofs.lemmas.List.{get_or-take}
use Rattle.heap_words.specs.declared.config.Config.{Config}
use Rattle.heap_words.specs.declared.config.BadConfig.{BadConfig}
use Rattle.heap_words.specs.Faults.{fault_of}
use Rattle.heap_words.specs.Narrow.{IsNarrow}
use Rattle.trace_reading.specs.Spelling.{IsVersion, numbers, titled, header}
use Rattle.trace_reading.specs.Scanning.{HeadNumbers, ◌>>=◌, behind, positive_at, numbers_at, sizes_at}
use Rattle.trace_reading.specs.Grammar.{HasNoHead}
use Rattle.trace_reading.proofs.GrammarNumbers.{then_some, behind_takes, positive_takes, positive_again, numbers-cons, numbers_take, numbers_again}
use Rattle.trace_reading.proofs.GrammarLines.{three_listed, two_listed, within_length}

-- the head that has these numbers
abbrev pub head : ℕ → List ℕ → List ℕ → List ℕ
head version heap threads = titled (codes "shen") (version ∷ []) ++ (titled (codes "heap") heap ++ titled (codes "threads") threads)

abbrev pub these_numbers : ℕ → List ℕ → List ℕ → HeadNumbers
these_numbers version heap threads = record { version = version; heap = heap; threads = threads }

-- the numbers in the head of this configuration
abbrev pub numbers_in_head : ℕ → Config → HeadNumbers
numbers_in_head version config = these_numbers version (config.regions ∷ config.region_words ∷ config.reserve ∷ []) (config.mutators ∷ config.helpers ∷ [])

first-line : (version : ℕ) (rest : List ℕ) → titled (codes "shen") (version ∷ []) ++ rest ≡ codes "shen " ++ (decimal version ++ 10 ∷ rest)
first-line version rest = ap (λ (bytes : List ℕ). codes "shen" ++ bytes) (append_assoc (numbers (version ∷ [])) (10 ∷ []) rest ∙ numbers-cons version [] (10 ∷ rest))

head-append : (version : ℕ) (heap threads rest : List ℕ) → head version heap threads ++ rest ≡ codes "shen " ++ (decimal version ++ ((10 ∷ codes "heap") ++ (numbers heap ++ ((10 ∷ codes "threads") ++ (numbers threads ++ 10 ∷ rest)))))
head-append version heap threads rest =
    append_assoc (titled (codes "shen") (version ∷ [])) (titled (codes "heap") heap ++ titled (codes "threads") threads) rest
    ∙ first-line version ((titled (codes "heap") heap ++ titled (codes "threads") threads) ++ rest)
    ∙ ap (λ (bytes : List ℕ). codes "shen " ++ (decimal version ++ 10 ∷ bytes)) (append_assoc (titled (codes "heap") heap) (titled (codes "threads") threads) rest
    ∙ ap (λ (bytes : List ℕ). codes "heap" ++ bytes) (append_assoc (numbers heap) (10 ∷ []) (titled (codes "threads") threads ++ rest)
    ∙ ap (λ (bytes : List ℕ). numbers heap ++ 10 ∷ (codes "threads" ++ bytes)) (append_assoc (numbers threads) (10 ∷ []) rest)))

-- ---- what the reader reads behind the version, and behind the numbers of the heap

abbrev behind_heap : ℕ → List ℕ × List ℕ → Option (HeadNumbers × List ℕ)
behind_heap version heap =
    behind (10 ∷ codes "threads") heap.1 >>= λ third. numbers_at (8 ∷ 3 ∷ []) third >>= λ threads. behind (10 ∷ []) threads.1 >>= λ end. Some (these_numbers version heap.0 threads.0, end)

abbrev behind_version : ℕ × List ℕ → Option (HeadNumbers × List ℕ)
behind_version version = behind (10 ∷ codes "heap") version.1 >>= λ second. numbers_at (64 ∷ 1024 ∷ 63 ∷ []) second >>= λ heap. behind_heap version.0 heap

heap_takes : (version : ℕ) (heap : List ℕ × List ℕ) (read_head : HeadNumbers × List ℕ) → behind_heap version heap ≡ Some read_head
    → (heap.1 ≡ (10 ∷ codes "threads") ++ (numbers read_head.0.threads ++ 10 ∷ read_head.1)) × (length read_head.0.threads ≡ 2) × (read_head.0.version ≡ version) × (read_head.0.heap ≡ heap.0)
heap_takes version heap read_head found =
    then_some (behind (10 ∷ codes "threads") heap.1) (λ third. numbers_at (8 ∷ 3 ∷ []) third >>= λ threads. behind (10 ∷ []) threads.1 >>= λ end. Some (these_numbers version heap.0 threads.0, end)) read_head found (λ third at_third then_is.
    then_some (numbers_at (8 ∷ 3 ∷ []) third) (λ threads. behind (10 ∷ []) threads.1 >>= λ end. Some (these_numbers version heap.0 threads.0, end)) read_head then_is (λ threads at_threads behind_is.
    then_some (behind (10 ∷ []) threads.1) (λ end. Some (these_numbers version heap.0 threads.0, end)) read_head behind_is (λ end at_end end_is.
    let title_taken = behind_takes (10 ∷ codes "threads") heap.1 third at_third in
    let numbers_taken = numbers_take (8 ∷ 3 ∷ []) third threads (lit< tt, (lit< tt, tt)) at_threads in
    let newline_taken = behind_takes (10 ∷ []) threads.1 end at_end in
    let made : HeadNumbers × List ℕ = (these_numbers version heap.0 threads.0, end) in
    let spelled : heap.1 ≡ (10 ∷ codes "threads") ++ (numbers threads.0 ++ 10 ∷ end) = title_taken ∙ ap (λ (bytes : List ℕ). (10 ∷ codes "threads") ++ bytes) (numbers_taken.0 ∙ ap (λ (bytes : List ℕ). numbers threads.0 ++ bytes) newline_taken) in
    subst (λ (given_head : HeadNumbers × List ℕ). (heap.1 ≡ (10 ∷ codes "threads") ++ (numbers given_head.0.threads ++ 10 ∷ given_head.1)) × (length given_head.0.threads ≡ 2) × (given_head.0.version ≡ version) × (given_head.0.heap ≡ heap.0)) (same_Some made read_head end_is)
    (spelled, within_length (8 ∷ 3 ∷ []) threads.0 numbers_taken.1, refl, refl))))

version_takes : (version : ℕ × List ℕ) (read_head : HeadNumbers × List ℕ) → behind_version version ≡ Some read_head
    → (version.1 ≡ (10 ∷ codes "heap") ++ (numbers read_head.0.heap ++ ((10 ∷ codes "threads") ++ (numbers read_head.0.threads ++ 10 ∷ read_head.1)))) × (length read_head.0.heap ≡ 3) × (length read_head.0.threads ≡ 2) × (read_head.0.version ≡ version.0)
version_takes version read_head found =
    then_some (behind (10 ∷ codes "heap") version.1) (λ second. numbers_at (64 ∷ 1024 ∷ 63 ∷ []) second >>= λ heap. behind_heap version.0 heap) read_head found (λ second at_second then_is.
    then_some (numbers_at (64 ∷ 1024 ∷ 63 ∷ []) second) (λ heap. behind_heap version.0 heap) read_head then_is (λ heap at_heap behind_is.
    let title_taken = behind_takes (10 ∷ codes "heap") version.1 second at_second in
    let numbers_taken = numbers_take (64 ∷ 1024 ∷ 63 ∷ []) second heap (lit< tt, (lit< tt, (lit< tt, tt))) at_heap in
    let heap_taken = heap_takes version.0 heap read_head behind_is in (
      title_taken ∙ ap (λ (bytes : List ℕ). (10 ∷ codes "heap") ++ bytes) (numbers_taken.0 ∙ ap (λ (bytes : List ℕ). numbers heap.0 ++ bytes) heap_taken.0 ∙ ap (λ (given_numbers : List ℕ). numbers given_numbers ++ ((10 ∷ codes "threads") ++ (numbers read_head.0.threads ++ 10 ∷ read_head.1))) (sym heap_taken.3)),
      ap length heap_taken.3 ∙ within_length (64 ∷ 1024 ∷ 63 ∷ []) heap.0 numbers_taken.1,
      heap_taken.1,
      heap_taken.2,
    )))

pub sizes_take : (bytes : List ℕ) (read_head : HeadNumbers × List ℕ) → sizes_at bytes ≡ Some read_head → (bytes ≡ head read_head.0.version read_head.0.heap read_head.0.threads ++ read_head.1) × IsVersion read_head.0.version × (length read_head.0.heap ≡ 3) × (length read_head.0.threads ≡ 2)
unfolding sizes_at
sizes_take bytes read_head found =
    then_some (behind (codes "shen ") bytes) (λ first. positive_at 2 first >>= λ version. behind_version version) read_head found (λ first at_first then_is.
    then_some (positive_at 2 first) (λ version. behind_version version) read_head then_is (λ version at_version behind_is.
    let title_taken = behind_takes (codes "shen ") bytes first at_first in
    let version_taken = positive_takes 2 first version (lit< tt) at_version in
    let rest_taken = version_takes version read_head behind_is in
    let after = (10 ∷ codes "heap") ++ (numbers read_head.0.heap ++ ((10 ∷ codes "threads") ++ (numbers read_head.0.threads ++ 10 ∷ read_head.1))) in
    let spelled : bytes ≡ codes "shen " ++ (decimal read_head.0.version ++ after) =
    title_taken ∙ ap (λ (given_bytes : List ℕ). codes "shen " ++ given_bytes) (version_taken.0 ∙ ap (λ (given_bytes : List ℕ). decimal version.0 ++ given_bytes) rest_taken.0 ∙ ap (λ (given_version : ℕ). decimal given_version ++ after) (sym rest_taken.3)) in
    (spelled ∙ sym (head-append read_head.0.version read_head.0.heap read_head.0.threads read_head.1), subst IsVersion (sym rest_taken.3) (version_taken.1, version_taken.2), rest_taken.1, rest_taken.2)))

pub sizes_again : (version : ℕ) (config : Config) (rest : List ℕ) → IsVersion version → IsNarrow config → sizes_at (header version config ++ rest) ≡ Some (numbers_in_head version config, rest)
unfolding sizes_at
sizes_again version config rest known_version narrow =
    let heap = config.regions ∷ config.region_words ∷ config.reserve ∷ [] in
    let threads = config.mutators ∷ config.helpers ∷ [] in
    let fourth = numbers threads ++ 10 ∷ rest in
    let third = (10 ∷ codes "threads") ++ fourth in
    let second = (10 ∷ codes "heap") ++ (numbers heap ++ third) in
    let version_is : positive_at 2 (decimal version ++ second) ≡ Some (version, second) = positive_again 2 version second known_version.0 known_version.1 (lit< tt) refl in
    let heap_is : numbers_at (64 ∷ 1024 ∷ 63 ∷ []) (numbers heap ++ third) ≡ Some (heap, third) = numbers_again (64 ∷ 1024 ∷ 63 ∷ []) heap third (omega arith, (omega arith, (omega arith, tt))) (lit< tt, (lit< tt, (lit< tt, tt))) refl in
    let threads_are : numbers_at (8 ∷ 3 ∷ []) fourth ≡ Some (threads, 10 ∷ rest) = numbers_again (8 ∷ 3 ∷ []) threads (10 ∷ rest) (omega arith, (omega arith, tt)) (lit< tt, (lit< tt, tt)) refl in
    ap sizes_at (head-append version heap threads rest) ∙ rw (version_is, heap_is, threads_are) refl

-- a configuration that a trace can have has no fault
pub no_fault : (config : Config) → IsNarrow config → fault_of config.regions config.region_words config.mutators config.helpers config.reserve ≡ None
no_fault config narrow = grind (arith, nat_tests)

-- where the head was not read there is none
pub no_head : (bytes : List ℕ) → None ≡ sizes_at bytes → HasNoHead bytes
no_head bytes not_read version config rest known_version narrow has_head = let read_again = sizes_again version config rest known_version narrow in let same_read = ap sizes_at has_head in cc

-- the numbers of the head, as an array holds them
record HasNumbers (heap threads : List ℕ) (config : Config) : Type 0 where
  regions : get_or heap 0 0 ≡ config.regions
  region_words : get_or heap 1 0 ≡ config.region_words
  reserve : get_or heap 2 0 ≡ config.reserve
  mutators : get_or threads 0 0 ≡ config.mutators
  helpers : get_or threads 1 0 ≡ config.helpers

at_front : (count index : ℕ) (xs ys : List ℕ) → index < count → take count xs ≡ ys → get_or xs index 0 ≡ get_or ys index 0
at_front count index xs ys index_below same_front = sym (get_or-take count xs index 0 index_below) ∙ ap (λ (list : List ℕ). get_or list index 0) same_front

-- the numbers that were read, as arrays hold them, and the bytes behind them
abbrev HasReadHead : List ℕ → ℕ → List ℕ → List ℕ → List ℕ → Type 0
HasReadHead bytes version heap threads rest = ◌≡◌ {A = Option (HeadNumbers × List ℕ)} (Some (these_numbers version (take 3 heap) (take 2 threads), rest)) (sizes_at bytes)

numbers_of_head : (bytes : List ℕ) (read_version : ℕ) (heap threads rest : List ℕ) → HasReadHead bytes read_version heap threads rest
    → (version : ℕ) (config : Config) (after : List ℕ) → IsVersion version → IsNarrow config → bytes ≡ header version config ++ after → HasNumbers heap threads config
numbers_of_head bytes read_version heap threads rest has_read_head version config after known_version narrow has_head =
    let read : HeadNumbers × List ℕ = (these_numbers read_version (take 3 heap) (take 2 threads), rest) in
    let wanted_head : HeadNumbers × List ℕ = (numbers_in_head version config, after) in
    let same_head : read ≡ wanted_head = same_Some read wanted_head (has_read_head ∙ ap sizes_at has_head ∙ sizes_again version config after known_version narrow) in
    let heap_is : take 3 heap ≡ wanted_head.0.heap = ap (λ (given_head : HeadNumbers × List ℕ). given_head.0.heap) same_head in
    let threads_are : take 2 threads ≡ wanted_head.0.threads = ap (λ (given_head : HeadNumbers × List ℕ). given_head.0.threads) same_head in
    record {
      regions = at_front 3 0 heap wanted_head.0.heap (lit< tt) heap_is;
      region_words = at_front 3 1 heap wanted_head.0.heap (lit< tt) heap_is;
      reserve = at_front 3 2 heap wanted_head.0.heap (lit< tt) heap_is;
      mutators = at_front 2 0 threads wanted_head.0.threads (lit< tt) threads_are;
      helpers = at_front 2 1 threads wanted_head.0.threads (lit< tt) threads_are;
    }

-- where the configuration was refused there is no head
pub no_configuration : (bytes : List ℕ) (read_version : ℕ) (heap threads rest : List ℕ) (checked : Result Config BadConfig) → HasReadHead bytes read_version heap threads rest
    → result_err checked ≡ fault_of (get_or heap 0 0) (get_or heap 1 0) (get_or threads 0 0) (get_or threads 1 0) (get_or heap 2 0) → None ≡ result_ok checked → HasNoHead bytes
no_configuration bytes read_version heap threads rest (Ok read_config) has_read_head fault refused version config after known_version narrow has_head = cc
no_configuration bytes read_version heap threads rest (Err f) has_read_head fault refused version config after known_version narrow has_head =
    let has_numbers = numbers_of_head bytes read_version heap threads rest has_read_head version config after known_version narrow has_head in
    let fine : fault_of (get_or heap 0 0) (get_or heap 1 0) (get_or threads 0 0) (get_or threads 1 0) (get_or heap 2 0) ≡ None = rw (has_numbers.regions, has_numbers.region_words, has_numbers.reserve, has_numbers.mutators, has_numbers.helpers) (no_fault config narrow) in
    cc

-- where a configuration was read, the bytes begin with its head
pub head_read : (bytes : List ℕ) (version : ℕ) (heap threads rest : List ℕ) (config : Config) → HasReadHead bytes version heap threads rest
    → config.regions ≡ get_or heap 0 0 → config.region_words ≡ get_or heap 1 0 → config.reserve ≡ get_or heap 2 0 → config.mutators ≡ get_or threads 0 0 → config.helpers ≡ get_or threads 1 0
    → (bytes ≡ header version config ++ rest) × IsVersion version
head_read bytes version heap threads rest config has_read_head same_regions same_words same_reserve same_mutators same_helpers =
    let taken = sizes_take bytes (these_numbers version (take 3 heap) (take 2 threads), rest) (sym has_read_head) in
    let heap_is : config.regions ∷ config.region_words ∷ config.reserve ∷ [] ≡ take 3 heap = rw (same_regions, same_words, same_reserve, ← get_or-take 3 heap 0 0 (lit< tt), ← get_or-take 3 heap 1 0 (lit< tt), ← get_or-take 3 heap 2 0 (lit< tt)) (three_listed (take 3 heap) taken.2) in
    let threads_are : config.mutators ∷ config.helpers ∷ [] ≡ take 2 threads = rw (same_mutators, same_helpers, ← get_or-take 2 threads 0 0 (lit< tt), ← get_or-take 2 threads 1 0 (lit< tt)) (two_listed (take 2 threads) taken.3) in
    (taken.0 ∙ ap (λ (given_numbers : List ℕ). head version given_numbers (take 2 threads) ++ rest) (sym heap_is) ∙ ap (λ (given_numbers : List ℕ). head version (config.regions ∷ config.region_words ∷ config.reserve ∷ []) given_numbers ++ rest) (sym threads_are), taken.1)
