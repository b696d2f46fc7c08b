-- The lines of the head, by their words.
use Rattle.std.proofs.Common.{◌≡◌, ℕ, ◌-◌, ◌≤◌, Bool, ◌&&◌, true, false, cond, eqb, ltb, List, [], ◌∷◌, ◌++◌, length, get_or, map, Some, None, refl, sym, ap, ◌∙◌, append_assoc, append-nil, lit<, arith}
use Rattle.std.specs.Prelude.{codes}
use Rattle.std.specs.List.{flat_map, join_with_byte, AllByRecursion}
use Rattle.std.specs.Fmt.{decimal}
use Rattle.std.specs.Str.Parse.{digits_value}
use Rattle.std.specs.Cmp.Lexicographic.{same_text, other_text}
use Rattle.std.proofs.lemmas.Bool.{eqb-true, ltb-false, and_parts}
use Rattle.std.proofs.lemmas.Bool.Decides.{nat_tests}
use Rattle.std.proofs.lemmas.List.Folds.{flat_map-map}
use Rattle.std.proofs.lemmas.List.Splits.{join_with_byte-slice_split}
use Rattle.std.proofs.lemmas.Fmt.{digits_value-decimal}
use Rattle.shen_graph.proofs.Lists.{same_before_end}
use Rattle.heap_words.specs.declared.config.Config.{Config}
use Rattle.heap_words.specs.Narrow.{IsNarrow}
use Rattle.trace_reading.specs.Spelling.{IsVersion, newline, numbers, titled}
use Rattle.trace_reading.specs.declared.why.Why.TheVariants.{Header}
use Rattle.trace_reading.proofs.GrammarNumbers.{own}
use Rattle.trace_reading.specs.Causes.{parts, is_same, numbers_cause, title_cause, heap_ranges}
use Rattle.trace_reading.specs.Refused.{Version, Heap, Threads, words_cause}
use Rattle.trace_reading.proofs.Words.{titled_words, number_fine}
use Rattle.trace_reading.proofs.Lines.{version_words, heap_words, threads_words, same_heap}
use Rattle.trace_reading.proofs.Free.{IsWord, is_free, parts_again, joined_free}
use Rattle.trace_reading.proofs.Numerals.{AreSmallRanges, AreBetween, numbers_spelled, numbers_again, numbers_length, numbers_words}

-- the text of these words
pub joined : (text : List ℕ) (text_words : List (List ℕ)) → parts 32 text ≡ text_words → text ≡ join_with_byte 32 text_words
joined text text_words same_parts = sym (join_with_byte-slice_split 32 text) ∙ ap (join_with_byte 32) same_parts

-- a word, and others each after a space
pub join_words : (first_word : List ℕ) (later_words : List (List ℕ)) → join_with_byte 32 (first_word ∷ later_words) ≡ first_word ++ flat_map (λ next_word. 32 ∷ next_word) later_words
join_words first_word [] = sym (append-nil first_word)
join_words first_word (next_word ∷ further_words) = ap (λ (text : List ℕ). first_word ++ 32 ∷ text) (join_words next_word further_words)

-- a word and numbers
pub join_numbers : (first_word : List ℕ) (values : List ℕ) → join_with_byte 32 (first_word ∷ map decimal values) ≡ first_word ++ numbers values
join_numbers first_word values = join_words first_word (map decimal values) ∙ ap (λ (text : List ℕ). first_word ++ text) (flat_map-map (λ (next_word : List ℕ). 32 ∷ next_word) decimal values)

pub titled_is : (title : List ℕ) (values : List ℕ) → join_with_byte 32 (title ∷ map decimal values) ++ newline ∷ [] ≡ titled title values
titled_is title values = ap (λ (text : List ℕ). text ++ newline ∷ []) (join_numbers title values) ∙ append_assoc title (numbers values) (newline ∷ [])

-- a line that is refused for nothing
pub title_spelled : (title : List ℕ) (ranges : List (ℕ × ℕ)) (words : List (List ℕ)) → AreSmallRanges ranges → title_cause title ranges words ≡ None → (ns : List ℕ) × (words ≡ title ∷ map decimal ns) × AreBetween ranges ns
unfolding title_cause
title_spelled title ranges [] small no_title_cause = absurd cc
title_spelled title ranges (first_word ∷ later_words) small no_title_cause = by_test (is_same first_word title && eqb (length later_words) (length ranges)) refl no_title_cause
  where
    by_test : (test : Bool) → (is_same first_word title && eqb (length later_words) (length ranges)) ≡ test → cond test (numbers_cause ranges later_words) (Some Header) ≡ None → (values : List ℕ) × (first_word ∷ later_words ≡ title ∷ map decimal values) × AreBetween ranges values
    by_test false fits no_cause = absurd cc
    by_test true fits no_cause =
        let pass = and_parts (is_same first_word title) (eqb (length later_words) (length ranges)) fits in
        let title_word : first_word ≡ title = same_text first_word title (sym pass.0) in
        let spelled = numbers_spelled ranges later_words small (eqb-true _ _ pass.1) no_cause in
        (spelled.0, ap (λ (given_word : List ℕ). given_word ∷ later_words) title_word ∙ ap (λ (word_list : List (List ℕ)). title ∷ word_list) spelled.1, spelled.2)

pub is_same_again : (word : List ℕ) → is_same word word ≡ true
is_same_again word = by_test (is_same word word) refl
  where
    by_test : (test : Bool) → is_same word word ≡ test → test ≡ true
    by_test true test_outcome = refl
    by_test false test_outcome = absurd (other_text word word (sym test_outcome) refl)

pub title_again : (title : List ℕ) (ranges : List (ℕ × ℕ)) (values : List ℕ) → AreSmallRanges ranges → AreBetween ranges values → title_cause title ranges (title ∷ map decimal values) ≡ None
title_again title ranges values small between =
    titled_words title ranges (title ∷ map decimal values) title (map decimal values) refl (is_same_again title) (numbers_length ranges values between) ∙ numbers_again ranges values small between

-- ---- a line of a title and numbers

pub titled_parts : (title : List ℕ) (ranges : List (ℕ × ℕ)) (values text : List ℕ) → IsWord title → AreSmallRanges ranges → AreBetween ranges values → text ++ newline ∷ [] ≡ titled title values
    → (parts 32 text ≡ title ∷ map decimal values) × (is_free 10 text ≡ true)
titled_parts title ranges values text clean small between titled_line =
    let joined_text : text ≡ join_with_byte 32 (title ∷ map decimal values) = same_before_end text (join_with_byte 32 (title ∷ map decimal values)) newline (titled_line ∙ sym (titled_is title values)) in
    let words : AllByRecursion IsWord (title ∷ map decimal values) = (clean, numbers_words ranges values small between) in
    (ap (parts 32) joined_text ∙ parts_again title (map decimal values) words, ap (is_free 10) joined_text ∙ joined_free title (map decimal values) words)

pub titled_text : (title : List ℕ) (values text : List ℕ) → parts 32 text ≡ title ∷ map decimal values → text ++ newline ∷ [] ≡ titled title values
titled_text title values text same_parts = ap (λ (given_text : List ℕ). given_text ++ newline ∷ []) (joined text (title ∷ map decimal values) same_parts) ∙ titled_is title values

-- ---- the version

shen_word : IsWord (codes "shen")
shen_word = record { no_space = refl; no_end = refl }

pub version_spelled : (text : List ℕ) → words_cause Version (parts 32 text) ≡ None → (spelled_version : ℕ) × IsVersion spelled_version × (text ++ newline ∷ [] ≡ titled (codes "shen") (spelled_version ∷ []))
version_spelled text no_cause =
    let ranges : List (ℕ × ℕ) = (1, 2) ∷ [] in
    let made = title_spelled (codes "shen") ranges (parts 32 text) (lit< tt, tt) (sym (version_words (parts 32 text)) ∙ no_cause) in
    let only_value = only_one made.0 made.2 in
    (only_value.0, only_value.1, titled_text (codes "shen") (only_value.0 ∷ []) text (made.1 ∙ ap (λ (ns : List ℕ). codes "shen" ∷ map decimal ns) only_value.2))
  where
    only_one : (values : List ℕ) → AreBetween ((1, 2) ∷ []) values → (version : ℕ) × IsVersion version × (values ≡ version ∷ [])
    only_one [] between = absurd between
    only_one (first_value ∷ []) between = (first_value, (between.0, between.1), refl)
    only_one (first_value ∷ second_value ∷ values) between = absurd between.2

pub version_again : (version : ℕ) (text : List ℕ) → IsVersion version → text ++ newline ∷ [] ≡ titled (codes "shen") (version ∷ [])
    → (words_cause Version (parts 32 text) ≡ None) × (is_free 10 text ≡ true) × (parts 32 text ≡ codes "shen" ∷ map decimal (version ∷ []))
version_again version text known_version titled_line =
    let ranges : List (ℕ × ℕ) = (1, 2) ∷ [] in
    let between : AreBetween ranges (version ∷ []) = (known_version.0, known_version.1, tt) in
    let read = titled_parts (codes "shen") ranges (version ∷ []) text shen_word (lit< tt, tt) between titled_line in
    (version_words (parts 32 text) ∙ ap (title_cause (codes "shen") ranges) read.0 ∙ title_again (codes "shen") ranges (version ∷ []) (lit< tt, tt) between, read.1, read.0)

-- ---- the heap

heap_word : IsWord (codes "heap")
heap_word = record { no_space = refl; no_end = refl }

-- three numbers
three : (first_least first_most second_least second_most third_least third_most : ℕ) (values : List ℕ) → AreBetween ((first_least, first_most) ∷ (second_least, second_most) ∷ (third_least, third_most) ∷ []) values → (first_value : ℕ) × (second_value : ℕ) × (third_value : ℕ) × (values ≡ first_value ∷ second_value ∷ third_value ∷ []) × (first_least ≤ first_value) × (first_value ≤ first_most) × (second_least ≤ second_value) × (second_value ≤ second_most) × (third_least ≤ third_value) × (third_value ≤ third_most)
three first_least first_most second_least second_most third_least third_most [] between = absurd between
three first_least first_most second_least second_most third_least third_most (first_value ∷ []) between = absurd between.2
three first_least first_most second_least second_most third_least third_most (first_value ∷ second_value ∷ []) between = absurd between.2.2
three first_least first_most second_least second_most third_least third_most (first_value ∷ second_value ∷ third_value ∷ []) between = (first_value, second_value, third_value, refl, between.0, between.1, between.2.0, between.2.1, between.2.2.0, between.2.2.1)
three first_least first_most second_least second_most third_least third_most (first_value ∷ second_value ∷ third_value ∷ fourth_value ∷ values) between = absurd between.2.2.2

-- at most 64, and the same where it is at most 64
above : (n : ℕ) → ltb 64 n ≡ true → n ≤ 64 → ⊥
above n above_most within = grind (arith, nat_tests)

at_most_64 : (n : ℕ) → (small_number : ℕ) × (small_number ≤ 64) × (n ≤ 64 → small_number ≡ n)
at_most_64 n = by_test (ltb 64 n) refl
  where
    by_test : (test : Bool) → ltb 64 n ≡ test → (bounded : ℕ) × (bounded ≤ 64) × (n ≤ 64 → bounded ≡ n)
    by_test true test_outcome = (64, omega arith, λ within. absurd (above n test_outcome within))
    by_test false test_outcome = (n, ltb-false _ _ test_outcome, λ within. refl)

pub heap_spelled : (version : ℕ) (text : List ℕ) → words_cause (Heap version) (parts 32 text) ≡ None → (config : Config) × IsNarrow config × (text ++ newline ∷ [] ≡ titled (codes "heap") (config.regions ∷ config.region_words ∷ config.reserve ∷ []))
heap_spelled version text no_cause =
    let words = parts 32 text in
    let regions_written = digits_value 10 (get_or words 1 []) in
    let regions_bounded = at_most_64 regions_written in
    let ranges : List (ℕ × ℕ) = (4, 64) ∷ (64, 1024) ∷ (0, regions_bounded.0 - 1) ∷ [] in
    let small : AreSmallRanges ranges = (lit< tt, (lit< tt, (omega (arith, regions_bounded.1), tt))) in
    let bounded = same_heap words (regions_bounded.0 - 1) (λ no_fault. ap (λ (number : ℕ). number - 1) (regions_bounded.2 (number_fine 4 64 (get_or words 1 []) no_fault).2)) in
    let made = title_spelled (codes "heap") ranges words small (bounded ∙ sym (heap_words version words) ∙ no_cause) in
    let numbers = three 4 64 64 1024 0 (regions_bounded.0 - 1) made.0 made.2 in
    let regions = numbers.0 in let region_words = numbers.1 in let reserve = numbers.2 in
    let spelled : words ≡ codes "heap" ∷ map decimal (regions ∷ region_words ∷ reserve ∷ []) = made.1 ∙ ap (λ (values : List ℕ). codes "heap" ∷ map decimal values) numbers.3 in
    let value : regions_written ≡ regions = ap (λ (word_list : List (List ℕ)). digits_value 10 (get_or word_list 1 [])) spelled ∙ digits_value-decimal own regions (omega (arith, numbers.5)) in
    let same_regions : regions_bounded.0 ≡ regions = regions_bounded.2 (omega (arith, value, numbers.5)) ∙ value in
    let read_config : Config = record {
      regions = regions;
      region_words = region_words;
      mutators = 1;
      helpers = 0;
      reserve = reserve;
      in_range = record { least_regions = numbers.4; most_regions = numbers.5; least_words = numbers.6; most_words = omega (arith, numbers.7); least_mutators = omega arith; most_mutators = omega arith; most_helpers = omega arith; some_left = omega (arith, numbers.9, same_regions, numbers.4) };
    } in
    (read_config, numbers.7, titled_text (codes "heap") (regions ∷ region_words ∷ reserve ∷ []) text spelled)

pub heap_again : (version : ℕ) (config : Config) (text : List ℕ) → IsNarrow config → text ++ newline ∷ [] ≡ titled (codes "heap") (config.regions ∷ config.region_words ∷ config.reserve ∷ [])
    → (words_cause (Heap version) (parts 32 text) ≡ None) × (is_free 10 text ≡ true) × (parts 32 text ≡ codes "heap" ∷ map decimal (config.regions ∷ config.region_words ∷ config.reserve ∷ []))
heap_again version config text narrow titled_line =
    let values = config.regions ∷ config.region_words ∷ config.reserve ∷ [] in
    let ranges : List (ℕ × ℕ) = (4, 64) ∷ (64, 1024) ∷ (0, config.regions - 1) ∷ [] in
    let small : AreSmallRanges ranges = (lit< tt, (lit< tt, (omega (arith, config.in_range.most_regions), tt))) in
    let between : AreBetween ranges values = (config.in_range.least_regions, config.in_range.most_regions, (config.in_range.least_words, narrow, (omega arith, omega (arith, config.in_range.some_left), tt))) in
    let read = titled_parts (codes "heap") ranges values text heap_word small between titled_line in
    let value : digits_value 10 (decimal config.regions) ≡ config.regions = digits_value-decimal own config.regions (omega (arith, config.in_range.most_regions)) in
    let bounds : heap_ranges (codes "heap" ∷ map decimal values) ≡ ranges = ap (λ (number : ℕ). up number) value in (
      heap_words version (parts 32 text) ∙ ap (λ (word_list : List (List ℕ)). title_cause (codes "heap") (heap_ranges word_list) word_list) read.0
          ∙ ap (λ (given_ranges : List (ℕ × ℕ)). title_cause (codes "heap") given_ranges (codes "heap" ∷ map decimal values)) bounds ∙ title_again (codes "heap") ranges values small between,
      read.1,
      read.0,
    )
  where
    up : ℕ → List (ℕ × ℕ)
    up highest = (4, 64) ∷ (64, 1024) ∷ (0, highest - 1) ∷ []

-- ---- the threads

threads_word : IsWord (codes "threads")
threads_word = record { no_space = refl; no_end = refl }

two : (first_least first_most second_least second_most : ℕ) (values : List ℕ) → AreBetween ((first_least, first_most) ∷ (second_least, second_most) ∷ []) values → (first_value : ℕ) × (second_value : ℕ) × (values ≡ first_value ∷ second_value ∷ []) × (first_least ≤ first_value) × (first_value ≤ first_most) × (second_least ≤ second_value) × (second_value ≤ second_most)
two first_least first_most second_least second_most [] between = absurd between
two first_least first_most second_least second_most (first_value ∷ []) between = absurd between.2
two first_least first_most second_least second_most (first_value ∷ second_value ∷ []) between = (first_value, second_value, refl, between.0, between.1, between.2.0, between.2.1)
two first_least first_most second_least second_most (first_value ∷ second_value ∷ third_value ∷ values) between = absurd between.2.2

pub threads_spelled : (version regions region_words reserve : ℕ) (config : Config) (text : List ℕ) → config.regions ≡ regions → config.region_words ≡ region_words → config.reserve ≡ reserve → words_cause (Threads version regions region_words reserve) (parts 32 text) ≡ None
    → (read_config : Config) × (read_config.regions ≡ regions) × (read_config.region_words ≡ region_words) × (read_config.reserve ≡ reserve) × (text ++ newline ∷ [] ≡ titled (codes "threads") (read_config.mutators ∷ read_config.helpers ∷ []))
threads_spelled version regions region_words reserve config text same_r same_w same_k no_cause =
    let ranges : List (ℕ × ℕ) = (1, 8) ∷ (0, 3) ∷ [] in
    let made = title_spelled (codes "threads") ranges (parts 32 text) (lit< tt, (lit< tt, tt)) (sym (threads_words version regions region_words reserve (parts 32 text)) ∙ no_cause) in
    let numbers = two 1 8 0 3 made.0 made.2 in
    let built_config : Config = record {
      regions = config.regions;
      region_words = config.region_words;
      mutators = numbers.0;
      helpers = numbers.1;
      reserve = config.reserve;
      in_range = record { least_regions = config.in_range.least_regions; most_regions = config.in_range.most_regions; least_words = config.in_range.least_words; most_words = config.in_range.most_words; least_mutators = numbers.3; most_mutators = numbers.4; most_helpers = numbers.6; some_left = config.in_range.some_left };
    } in
    (built_config, same_r, same_w, same_k, titled_text (codes "threads") (numbers.0 ∷ numbers.1 ∷ []) text (made.1 ∙ ap (λ (values : List ℕ). codes "threads" ∷ map decimal values) numbers.2))

pub threads_again : (version regions region_words reserve : ℕ) (config : Config) (text : List ℕ) → text ++ newline ∷ [] ≡ titled (codes "threads") (config.mutators ∷ config.helpers ∷ [])
    → (words_cause (Threads version regions region_words reserve) (parts 32 text) ≡ None) × (is_free 10 text ≡ true) × (parts 32 text ≡ codes "threads" ∷ map decimal (config.mutators ∷ config.helpers ∷ []))
threads_again version regions region_words reserve config text spelled =
    let values = config.mutators ∷ config.helpers ∷ [] in
    let ranges : List (ℕ × ℕ) = (1, 8) ∷ (0, 3) ∷ [] in
    let between : AreBetween ranges values = (config.in_range.least_mutators, config.in_range.most_mutators, (omega arith, config.in_range.most_helpers, tt)) in
    let read = titled_parts (codes "threads") ranges values text threads_word (lit< tt, (lit< tt, tt)) between spelled in
    (threads_words version regions region_words reserve (parts 32 text) ∙ ap (title_cause (codes "threads") ranges) read.0 ∙ title_again (codes "threads") ranges values (lit< tt, (lit< tt, tt)) between, read.1, read.0)
