-- Words where numbers are to stand.
use Rattle.std.proofs.Common.{◌≡◌, ℕ, zero, suc, ◌+◌, ◌^◌, ◌<◌, ◌≤◌, Bool, ◌&&◌, true, false, cond, eqb, ltb, List, [], ◌∷◌, length, get_or, take, drop, map, Option, Some, None, refl, sym, ap, subst, ◌∙◌, arith, add-one, drop-cons}
use Rattle.std.specs.Str.Parse.{AllDigits, digits_value}
use Rattle.std.proofs.lemmas.Bool.{eqb-true, ltb-false, eq-eqb, and_parts}
use Rattle.std.proofs.lemmas.Bool.Decides.{nat_tests}
use Rattle.std.proofs.lemmas.List.{take_all, drop_all}
use Rattle.trace_reading.specs.Scanning.{digit_count, is_numeral}
use Rattle.heap_words.specs.declared.config.Config.{Config}
use Rattle.trace_reading.specs.declared.kind.CommandKind.{CommandKind}
use Rattle.trace_reading.specs.declared.kind.CommandKind.TheVariants.{New}
use Rattle.trace_reading.specs.Kinds.{kinds, word, limits}
use Rattle.trace_reading.specs.declared.why.Why.{Why}
use Rattle.trace_reading.specs.declared.why.Why.TheVariants.{Header, Command, Number, Range}
use Rattle.trace_reading.proofs.Digits.{digits_are_digits}
use Rattle.trace_reading.specs.Causes.{first_cause, is_same, parts_behind, is_plain_number, range_cause, number_cause, numbers_cause, title_cause, kind_named, ranges_of, command_cause, item_cause, items_cause, schedule_cause}
use Rattle.trace_reading.proofs.Cuts.{cut_parts}

-- a number is digits
pub number_digits : (bytes : List ℕ) → is_plain_number bytes ≡ true → AllDigits 10 bytes
number_digits bytes plain_number =
    let count : digit_count bytes ≡ length bytes = eqb-true _ _ (and_parts (eqb (digit_count bytes) (length bytes)) (is_numeral bytes) plain_number).0 in
    subst (AllDigits 10) (ap (λ (size : ℕ). take size bytes) count ∙ take_all (length bytes) bytes (omega arith)) (digits_are_digits bytes)

pub range_fine : (least most : ℕ) (text : List ℕ) → range_cause least most text ≡ None → (least ≤ digits_value 10 text) × (digits_value 10 text ≤ most)
unfolding range_cause
range_fine least most text no_cause = by_tests (ltb (digits_value 10 text) least) (ltb most (digits_value 10 text)) refl refl no_cause
  where
    by_tests : (low high : Bool) → ltb (digits_value 10 text) least ≡ low → ltb most (digits_value 10 text) ≡ high → cond low (Some Range) (cond high (Some Range) None) ≡ None → (least ≤ digits_value 10 text) × (digits_value 10 text ≤ most)
    by_tests false false low_test high_test no_cause = (ltb-false _ _ low_test, ltb-false _ _ high_test)
    by_tests false true low_test high_test no_cause = absurd cc
    by_tests true high low_test high_test no_cause = absurd cc

pub number_fine : (least most : ℕ) (text : List ℕ) → number_cause least most text ≡ None → (is_plain_number text ≡ true) × (least ≤ digits_value 10 text) × (digits_value 10 text ≤ most)
unfolding number_cause
number_fine least most text no_cause = by_test (is_plain_number text) refl no_cause
  where
    by_test : (test : Bool) → is_plain_number text ≡ test → cond test (range_cause least most text) (Some Number) ≡ None → (is_plain_number text ≡ true) × (least ≤ digits_value 10 text) × (digits_value 10 text ≤ most)
    by_test true is_plain no_cause = let range_holds = range_fine least most text no_cause in (is_plain, range_holds.0, range_holds.1)
    by_test false is_plain no_cause = absurd cc

-- the second word of a line
pub second_word : (words : List (List ℕ)) (text : List ℕ) (rest : List (List ℕ)) (second_text : List ℕ) (rest_behind : List (List ℕ)) → words ≡ text ∷ rest → rest ≡ second_text ∷ rest_behind → get_or words 1 [] ≡ second_text
second_word words text rest second_text rest_behind words_are rest_is = rw (words_are, rest_is) refl

pub no_second_word : (words : List (List ℕ)) (text : List ℕ) (rest : List (List ℕ)) → words ≡ text ∷ rest → rest ≡ [] → number_cause 4 64 (get_or words 1 []) ≡ None → ⊥
no_second_word words text rest words_are none_behind no_cause =
    let empty_second : get_or words 1 [] ≡ [] = rw (words_are, none_behind) refl in
    let bad = (number_fine 4 64 (get_or words 1 []) no_cause).0 in
    let not_plain : is_plain_number (get_or words 1 []) ≡ false = rw empty_second refl in
    absurd cc

pub not_regions : (words : List (List ℕ)) (second_text : List ℕ) → get_or words 1 [] ≡ second_text → number_cause 4 64 (get_or words 1 []) ≡ None → false ≡ is_plain_number second_text → ⊥
not_regions words second_text second_word no_cause not_number = let plain_second = (number_fine 4 64 (get_or words 1 []) no_cause).0 in let not_plain : is_plain_number (get_or words 1 []) ≡ false = ap is_plain_number second_word ∙ sym not_number in cc

pub regions_small : (words : List (List ℕ)) (second_text : List ℕ) → get_or words 1 [] ≡ second_text → number_cause 4 64 (get_or words 1 []) ≡ None → 2 ^ 64 ≤ digits_value 10 second_text → ⊥
regions_small words second_text second_word no_cause number_large =
    let number_small = (number_fine 4 64 (get_or words 1 []) no_cause).2 in
    let same_value : digits_value 10 (get_or words 1 []) ≡ digits_value 10 second_text = ap (digits_value 10) second_word in
    omega (arith, number_small, same_value, number_large)

-- ---- the loop over the words

pub numbers_go_on : (ranges : List (ℕ × ℕ)) (index : ℕ) (default : ℕ × ℕ) (words : List (List ℕ)) (text : List ℕ) (rest : List (List ℕ)) (whole_cause : Option Why) → index < length ranges → words ≡ text ∷ rest
    → number_cause (get_or ranges index default).0 (get_or ranges index default).1 text ≡ None → numbers_cause (drop index ranges) words ≡ whole_cause → numbers_cause (drop (index + 1) ranges) rest ≡ whole_cause
unfolding numbers_cause
numbers_go_on ranges index default words text rest whole_cause index_below words_are no_cause so_far =
    let one_step : numbers_cause (drop index ranges) words ≡ numbers_cause (drop (index + 1) ranges) rest = rw (add-one, drop-cons ranges index default, words_are, no_cause) refl in
    sym one_step ∙ so_far

pub number_stops : (ranges : List (ℕ × ℕ)) (index : ℕ) (default : ℕ × ℕ) (words : List (List ℕ)) (text : List ℕ) (rest : List (List ℕ)) (why : Why) (whole_cause : Option Why) → index < length ranges → words ≡ text ∷ rest
    → number_cause (get_or ranges index default).0 (get_or ranges index default).1 text ≡ Some why → numbers_cause (drop index ranges) words ≡ whole_cause → whole_cause ≡ Some why
unfolding numbers_cause
number_stops ranges index default words text rest why whole_cause index_below words_are bad so_far =
    let one_step : numbers_cause (drop index ranges) words ≡ Some why = rw (drop-cons ranges index default, words_are, bad) refl in
    sym so_far ∙ one_step

pub words_end : (ranges : List (ℕ × ℕ)) (index : ℕ) (default : ℕ × ℕ) (words : List (List ℕ)) (whole_cause : Option Why) → index < length ranges → words ≡ [] → numbers_cause (drop index ranges) words ≡ whole_cause → whole_cause ≡ None
unfolding numbers_cause
words_end ranges index default words whole_cause index_below no_words so_far =
    let one_step : numbers_cause (drop index ranges) words ≡ None = rw (drop-cons ranges index default, no_words) refl in
    sym so_far ∙ one_step

pub ranges_end : (ranges : List (ℕ × ℕ)) (index : ℕ) (words : List (List ℕ)) (whole_cause : Option Why) → length ranges ≤ index → numbers_cause (drop index ranges) words ≡ whole_cause → whole_cause ≡ None
unfolding numbers_cause
ranges_end ranges index words whole_cause index_past so_far =
    let nothing_left : numbers_cause (drop index ranges) words ≡ None = rw (drop_all index ranges index_past) refl in
    sym so_far ∙ nothing_left

-- ---- the loop over the kinds

pub kind_found : (kinds : List CommandKind) (index : ℕ) (text : List ℕ) (whole_kind : Option CommandKind) → index < length kinds → true ≡ is_same text (word (get_or kinds index New)) → kind_named (drop index kinds) text ≡ whole_kind → whole_kind ≡ Some (get_or kinds index New)
unfolding kind_named
kind_found kinds index text whole_kind index_below same_word so_far =
    let one_step : kind_named (drop index kinds) text ≡ Some (get_or kinds index New) = rw (drop-cons kinds index New, ← same_word) refl in
    sym so_far ∙ one_step

pub kind_goes_on : (kinds : List CommandKind) (index : ℕ) (text : List ℕ) (whole_kind : Option CommandKind) → index < length kinds → false ≡ is_same text (word (get_or kinds index New)) → kind_named (drop index kinds) text ≡ whole_kind → kind_named (drop (index + 1) kinds) text ≡ whole_kind
unfolding kind_named
kind_goes_on kinds index text whole_kind index_below other_word so_far =
    let one_step : kind_named (drop index kinds) text ≡ kind_named (drop (index + 1) kinds) text = rw (add-one, drop-cons kinds index New, ← other_word) refl in
    sym one_step ∙ so_far

pub kinds_end : (kinds : List CommandKind) (index : ℕ) (text : List ℕ) (whole_kind : Option CommandKind) → length kinds ≤ index → kind_named (drop index kinds) text ≡ whole_kind → whole_kind ≡ None
unfolding kind_named
kinds_end kinds index text whole_kind index_past so_far =
    let none_left : kind_named (drop index kinds) text ≡ None = rw (drop_all index kinds index_past) refl in
    sym so_far ∙ none_left

-- ---- the loop over the items

pub item_goes_on : (config : Config) (words : List (List ℕ)) (text : List ℕ) (rest : List (List ℕ)) (whole_cause : Option Why) → words ≡ text ∷ rest → item_cause config text ≡ None → items_cause config words ≡ whole_cause → items_cause config rest ≡ whole_cause
unfolding items_cause
item_goes_on config words text rest whole_cause words_are no_cause so_far =
    let one_step : items_cause config words ≡ items_cause config rest = rw (words_are, no_cause) refl in
    sym one_step ∙ so_far

pub item_stops : (config : Config) (words : List (List ℕ)) (text : List ℕ) (rest : List (List ℕ)) (why : Why) (whole_cause : Option Why) → words ≡ text ∷ rest → item_cause config text ≡ Some why → items_cause config words ≡ whole_cause → whole_cause ≡ Some why
unfolding items_cause
item_stops config words text rest why whole_cause words_are bad so_far =
    let one_step : items_cause config words ≡ Some why = rw (words_are, bad) refl in
    sym so_far ∙ one_step

pub items_end : (config : Config) (words : List (List ℕ)) (whole_cause : Option Why) → words ≡ [] → items_cause config words ≡ whole_cause → whole_cause ≡ None
unfolding items_cause
items_end config words whole_cause no_words so_far =
    let one_step : items_cause config words ≡ None = rw no_words refl in
    sym so_far ∙ one_step

-- words behind a mark are some
pub some_items : (config : Config) (bytes : List ℕ) → 1 ≤ length bytes → schedule_cause config (parts_behind 32 bytes) ≡ items_cause config (parts_behind 32 bytes)
some_items config [] some_bytes = absurd (omega arith)
some_items config (byte ∷ bytes) some_bytes = rw (cut_parts 32 bytes) refl

-- ---- lines

-- a title and numbers
pub titled_words : (title : List ℕ) (ranges : List (ℕ × ℕ)) (words : List (List ℕ)) (text : List ℕ) (rest : List (List ℕ)) → words ≡ text ∷ rest → is_same text title ≡ true → length rest ≡ length ranges → title_cause title ranges words ≡ numbers_cause ranges rest
unfolding title_cause
titled_words title ranges words text rest words_are same_title count = rw (words_are, same_title, count, eqb_same (length ranges)) refl
  where
    eqb_same : (n : ℕ) → eqb n n ≡ true
    eqb_same n = grind (arith, nat_tests)

pub other_title : (title : List ℕ) (ranges : List (ℕ × ℕ)) (words : List (List ℕ)) (text : List ℕ) (rest : List (List ℕ)) → words ≡ text ∷ rest → is_same text title ≡ false → title_cause title ranges words ≡ Some Header
unfolding title_cause
other_title title ranges words text rest words_are not_title = rw (words_are, not_title) refl

pub other_count : (title : List ℕ) (ranges : List (ℕ × ℕ)) (words : List (List ℕ)) (text : List ℕ) (rest : List (List ℕ)) → words ≡ text ∷ rest → (length rest ≡ length ranges → ⊥) → title_cause title ranges words ≡ Some Header
unfolding title_cause
other_count title ranges words text rest words_are counts_differ = rw words_are (by_title (is_same text title) (differs (length rest) (length ranges) counts_differ))
  where
    differs : (m n : ℕ) → (m ≡ n → ⊥) → eqb m n ≡ false
    differs m n numbers_apart = grind (arith, nat_tests)

    by_title : (title_holds : Bool) → eqb (length rest) (length ranges) ≡ false → cond (title_holds && eqb (length rest) (length ranges)) (numbers_cause ranges rest) (Some Header) ≡ Some Header
    by_title true count_differs = rw count_differs refl
    by_title false count_differs = refl

not_none : (bytes : List ℕ) → false ≡ eqb (length bytes) 0 → 1 ≤ length bytes
not_none [] some_bytes = absurd cc
not_none (byte ∷ bytes) some_bytes = omega arith

pub some_items_left : (config : Config) (bytes : List ℕ) → false ≡ eqb (length bytes) 0 → schedule_cause config (parts_behind 32 bytes) ≡ items_cause config (parts_behind 32 bytes)
some_items_left config bytes some_bytes = some_items config bytes (not_none bytes some_bytes)

-- ---- the line of a command

pub no_command_word : (version threads : ℕ) (thread : List ℕ) (words : List (List ℕ)) → words ≡ [] → command_cause version threads thread words ≡ Some Command
unfolding command_cause
no_command_word version threads thread words no_words = rw no_words refl

pub no_kind : (version threads : ℕ) (thread : List ℕ) (words : List (List ℕ)) (text : List ℕ) (rest : List (List ℕ)) → words ≡ text ∷ rest → kind_named (kinds version) text ≡ None → command_cause version threads thread words ≡ Some Command
unfolding command_cause
no_kind version threads thread words text rest words_are kind_unknown = rw (words_are, kind_unknown) refl

pub kind_known : (version threads : ℕ) (thread : List ℕ) (words : List (List ℕ)) (text : List ℕ) (rest : List (List ℕ)) (kind : CommandKind) → words ≡ text ∷ rest → kind_named (kinds version) text ≡ Some kind
    → command_cause version threads thread words ≡ cond (eqb (length rest) (length (limits kind))) (numbers_cause (ranges_of threads (limits kind)) (thread ∷ rest)) (Some Command)
unfolding command_cause
kind_known version threads thread words text rest kind words_are kind_there = rw (words_are, kind_there) refl

pub thread_first : (threads : ℕ) (thread : List ℕ) (bounds : List ℕ) (rest : List (List ℕ)) → numbers_cause (ranges_of threads bounds) (thread ∷ rest) ≡ first_cause (number_cause 1 threads thread) (numbers_cause (map (λ limit. (0, limit)) bounds) rest)
unfolding numbers_cause
thread_first threads thread bounds rest = refl

differs : (m n : ℕ) → (m ≡ n → ⊥) → eqb m n ≡ false
differs m n numbers_apart = grind (arith, nat_tests)

pub other_numbers : (version threads : ℕ) (thread : List ℕ) (words : List (List ℕ)) (text : List ℕ) (rest : List (List ℕ)) (kind : CommandKind) → words ≡ text ∷ rest → kind_named (kinds version) text ≡ Some kind → (length rest ≡ length (limits kind) → ⊥)
    → command_cause version threads thread words ≡ Some Command
other_numbers version threads thread words text rest kind words_are known_kind counts_differ = kind_known version threads thread words text rest kind words_are known_kind ∙ rw (differs (length rest) (length (limits kind)) counts_differ) refl

pub command_numbers : (version threads : ℕ) (thread : List ℕ) (words : List (List ℕ)) (text : List ℕ) (rest : List (List ℕ)) (kind : CommandKind) → words ≡ text ∷ rest → kind_named (kinds version) text ≡ Some kind → length rest ≡ length (limits kind)
    → command_cause version threads thread words ≡ first_cause (number_cause 1 threads thread) (numbers_cause (map (λ limit. (0, limit)) (limits kind)) rest)
command_numbers version threads thread words text rest kind words_are known_kind same_count =
    kind_known version threads thread words text rest kind words_are known_kind ∙ rw (eq-eqb (length rest) (length (limits kind)) same_count) (thread_first threads thread (limits kind) rest)

-- ---- the loop over the words of a command

-- numbers up to these limits
abbrev pub up_to : List ℕ → List (ℕ × ℕ)
up_to bounds = map (λ limit. (0, limit)) bounds

pub up_to_length : (bounds : List ℕ) → length (up_to bounds) ≡ length bounds
up_to_length [] = refl
up_to_length (bound ∷ bounds) = ap suc (up_to_length bounds)

at_up_to : (bounds : List ℕ) (index : ℕ) → index < length bounds → (length (up_to bounds) ≡ length bounds) × ((get_or (up_to bounds) index (0, 0)).0 ≡ 0) × ((get_or (up_to bounds) index (0, 0)).1 ≡ get_or bounds index 0)
at_up_to [] index index_below = absurd (omega arith)
at_up_to (bound ∷ bounds) zero index_below = (ap suc (up_to_length bounds), refl, refl)
at_up_to (bound ∷ bounds) (suc index) index_below = let later_bounds = at_up_to bounds index (omega arith) in (ap suc later_bounds.0, later_bounds.1, later_bounds.2)

pub limits_go_on : (bounds : List ℕ) (index : ℕ) (words : List (List ℕ)) (text : List ℕ) (rest : List (List ℕ)) (whole_cause : Option Why) → index < length bounds → words ≡ text ∷ rest
    → number_cause 0 (get_or bounds index 0) text ≡ None → numbers_cause (drop index (up_to bounds)) words ≡ whole_cause → numbers_cause (drop (index + 1) (up_to bounds)) rest ≡ whole_cause
limits_go_on bounds index words text rest whole_cause index_below words_are no_cause so_far =
    let limit_at = at_up_to bounds index index_below in
    numbers_go_on (up_to bounds) index (0, 0) words text rest whole_cause (omega (arith, limit_at.0)) words_are (rw (limit_at.1, limit_at.2) no_cause) so_far

pub limit_stops : (bounds : List ℕ) (index : ℕ) (words : List (List ℕ)) (text : List ℕ) (rest : List (List ℕ)) (why : Why) (whole_cause : Option Why) → index < length bounds → words ≡ text ∷ rest
    → number_cause 0 (get_or bounds index 0) text ≡ Some why → numbers_cause (drop index (up_to bounds)) words ≡ whole_cause → whole_cause ≡ Some why
limit_stops bounds index words text rest why whole_cause index_below words_are bad so_far =
    let limit_at = at_up_to bounds index index_below in
    number_stops (up_to bounds) index (0, 0) words text rest why whole_cause (omega (arith, limit_at.0)) words_are (rw (limit_at.1, limit_at.2) bad) so_far

pub limit_words_end : (bounds : List ℕ) (index : ℕ) (words : List (List ℕ)) (whole_cause : Option Why) → index < length bounds → words ≡ [] → numbers_cause (drop index (up_to bounds)) words ≡ whole_cause → whole_cause ≡ None
limit_words_end bounds index words whole_cause index_below no_words so_far = let limit_at = at_up_to bounds index index_below in words_end (up_to bounds) index (0, 0) words whole_cause (omega (arith, limit_at.0)) no_words so_far

pub limits_end : (bounds : List ℕ) (index : ℕ) (words : List (List ℕ)) (whole_cause : Option Why) → length bounds ≤ index → numbers_cause (drop index (up_to bounds)) words ≡ whole_cause → whole_cause ≡ None
limits_end bounds index words whole_cause index_past so_far = let size = up_to_length bounds in ranges_end (up_to bounds) index words whole_cause (omega (arith, size)) so_far
