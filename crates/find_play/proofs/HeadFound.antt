-- Bytes begin with the head of a trace, or they do not.
use Rattle.std.proofs.Common.{◌≡◌, ◌⊎◌, inl, inr, ℕ, suc, ◌≤◌, Bool, true, false, cond, ltb, List, ◌++◌, get_or, take, Option, Some, None, Err, refl, sym, ap, ◌∙◌, arith}
use Rattle.std.proofs.lemmas.Bool.Decides.{nat_tests}
use Rattle.std.proofs.lemmas.List.{take_all}
use Rattle.heap_words.specs.declared.config.Config.{Config}
use Rattle.heap_words.specs.declared.config.BadConfig.{BadConfig}
use Rattle.heap_words.specs.declared.config.BadConfig.TheVariants.{Regions, RegionWords, Mutators, Helpers, Reserve}
use Rattle.heap_words.specs.Faults.{is_within, fault_of}
use Rattle.heap_words.specs.Ranges.{IsInRange}
use Rattle.heap_words.specs.Narrow.{IsNarrow}
use Rattle.trace_reading.specs.Spelling.{IsVersion, header}
use Rattle.trace_reading.specs.Scanning.{HeadNumbers, sizes_at}
use Rattle.trace_reading.specs.Grammar.{HasNoHead}
use Rattle.trace_reading.proofs.HeadLaws.{these_numbers, sizes_take, no_head, no_configuration, head_read}

within : (least most number : ℕ) → is_within least most number ≡ true → (least ≤ number) × (number ≤ most)
within least most number test_holds = (grind (arith, nat_tests), grind (arith, nat_tests))

below : (n m : ℕ) → ltb n m ≡ true → suc n ≤ m
below n m test_holds = grind (arith, nat_tests)

-- numbers of which none is at fault are those of a configuration
in_range : (regions region_words mutators helpers reserve : ℕ) → fault_of regions region_words mutators helpers reserve ≡ None → IsInRange regions region_words mutators helpers reserve × (region_words ≤ 1024)
in_range region_count region_words mutator_count helper_count reserve no_fault = by_tests (is_within 4 64 region_count) (is_within 64 1024 region_words) (is_within 1 8 mutator_count) (is_within 0 3 helper_count) (ltb reserve region_count) refl refl refl refl refl no_fault
  where
    by_tests : (regions_fit words_fit mutators_fit helpers_fit reserve_fits : Bool) → is_within 4 64 region_count ≡ regions_fit → is_within 64 1024 region_words ≡ words_fit → is_within 1 8 mutator_count ≡ mutators_fit → is_within 0 3 helper_count ≡ helpers_fit → ltb reserve region_count ≡ reserve_fits
        → cond regions_fit (cond words_fit (cond mutators_fit (cond helpers_fit (cond reserve_fits None (Some Reserve)) (Some Helpers)) (Some Mutators)) (Some RegionWords)) (Some Regions) ≡ None → IsInRange region_count region_words mutator_count helper_count reserve × (region_words ≤ 1024)
    by_tests true true true true true regions_test words_test mutators_test helpers_test reserve_test no_fault =
        let regions = within 4 64 region_count regions_test in
        let words = within 64 1024 region_words words_test in
        let mutators = within 1 8 mutator_count mutators_test in
        let helpers = within 0 3 helper_count helpers_test in
        let regions_left = below reserve region_count reserve_test in (
          record {
            least_regions = regions.0;
            most_regions = regions.1;
            least_words = words.0;
            most_words = omega (arith, words.1);
            least_mutators = mutators.0;
            most_mutators = mutators.1;
            most_helpers = helpers.1;
            some_left = omega (arith, regions_left);
          },
          words.1,
        )
    by_tests true true true true false regions_test words_test mutators_test helpers_test reserve_test no_fault = absurd cc
    by_tests true true true false reserve_fits regions_test words_test mutators_test helpers_test reserve_test no_fault = absurd cc
    by_tests true true false helpers_fit reserve_fits regions_test words_test mutators_test helpers_test reserve_test no_fault = absurd cc
    by_tests true false mutators_fit helpers_fit reserve_fits regions_test words_test mutators_test helpers_test reserve_test no_fault = absurd cc
    by_tests false words_fit mutators_fit helpers_fit reserve_fits regions_test words_test mutators_test helpers_test reserve_test no_fault = absurd cc

abbrev pub HasHead : List ℕ → Type 0
HasHead bytes = (version : ℕ) × (config : Config) × (rest : List ℕ) × IsVersion version × IsNarrow config × (bytes ≡ header version config ++ rest)

by_numbers : (bytes : List ℕ) (version : ℕ) (heap threads rest : List ℕ) → ◌≡◌ {A = Option (HeadNumbers × List ℕ)} (Some (these_numbers version (take 3 heap) (take 2 threads), rest)) (sizes_at bytes) → HasHead bytes ⊎ HasNoHead bytes
by_numbers bytes version heap threads rest numbers_read = by_fault (fault_of (get_or heap 0 0) (get_or heap 1 0) (get_or threads 0 0) (get_or threads 1 0) (get_or heap 2 0)) refl
  where
    by_fault : (fault : Option BadConfig) → fault_of (get_or heap 0 0) (get_or heap 1 0) (get_or threads 0 0) (get_or threads 1 0) (get_or heap 2 0) ≡ fault → HasHead bytes ⊎ HasNoHead bytes
    by_fault (Some bad) fault_is = inr (no_configuration bytes version heap threads rest (Err bad) numbers_read (sym fault_is) refl)
    by_fault None fault_is =
        let fit = in_range (get_or heap 0 0) (get_or heap 1 0) (get_or threads 0 0) (get_or threads 1 0) (get_or heap 2 0) fault_is in
        let config : Config = record { regions = get_or heap 0 0; region_words = get_or heap 1 0; mutators = get_or threads 0 0; helpers = get_or threads 1 0; reserve = get_or heap 2 0; in_range = fit.0 } in
        let read = head_read bytes version heap threads rest config numbers_read refl refl refl refl refl in
        inl (version, config, rest, read.1, fit.1, read.0)

pub head_or_none : (bytes : List ℕ) → HasHead bytes ⊎ HasNoHead bytes
head_or_none bytes = by_sizes (sizes_at bytes) refl
  where
    by_sizes : (sizes : Option (HeadNumbers × List ℕ)) → sizes_at bytes ≡ sizes → HasHead bytes ⊎ HasNoHead bytes
    by_sizes None sizes_are = inr (no_head bytes (sym sizes_are))
    by_sizes (Some found) sizes_are =
        let taken = sizes_take bytes found sizes_are in
        let heap : take 3 found.0.heap ≡ found.0.heap = take_all 3 found.0.heap (omega (arith, taken.2)) in
        let threads : take 2 found.0.threads ≡ found.0.threads = take_all 2 found.0.threads (omega (arith, taken.3)) in
        let first_pair : HeadNumbers × List ℕ = (these_numbers found.0.version (take 3 found.0.heap) (take 2 found.0.threads), found.1) in
        let second_pair : HeadNumbers × List ℕ = (these_numbers found.0.version found.0.heap (take 2 found.0.threads), found.1) in
        let heap_same : first_pair ≡ second_pair = ap (λ (heap_part : List ℕ). (these_numbers found.0.version heap_part (take 2 found.0.threads), found.1)) heap in
        let threads_same : second_pair ≡ found = ap (λ (thread_part : List ℕ). (these_numbers found.0.version found.0.heap thread_part, found.1)) threads in
        by_numbers bytes found.0.version found.0.heap found.0.threads found.1 (ap (λ (pair : HeadNumbers × List ℕ). Some pair) (heap_same ∙ threads_same) ∙ sym sizes_are)
