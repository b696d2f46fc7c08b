-- The lines of the schedule, by their words.
use Rattle.std.proofs.Common.{◌≡◌, ℕ, ◌+◌, ◌-◌, ◌^◌, ◌<◌, ◌≤◌, Bool, ◌&&◌, true, false, cond, eqb, List, [], ◌∷◌, ◌++◌, length, map, take, drop, Some, None, refl, sym, ap, subst, ◌∙◌, append-nil, arith}
use Rattle.std.specs.List.{join_with_byte, AllByRecursion}
use Rattle.std.specs.Fmt.{decimal}
use Rattle.std.specs.Str.Parse.{digits_value}
use Rattle.std.proofs.lemmas.Bool.{eqb-true, and_parts}
use Rattle.std.proofs.lemmas.List.{take-append-drop, take_at, drop_at}
use Rattle.std.proofs.lemmas.List.Folds.{flat_map-map}
use Rattle.std.proofs.lemmas.Fmt.{digits_decimal}
use Rattle.heap_words.specs.declared.config.Config.{Config}
use Rattle.heap_words.specs.declared.place.Place.{Place}
use Rattle.heap_words.specs.declared.place.Place.TheVariants.{E1}
use Rattle.heap_words.specs.declared.schedule.Item.{Item}
use Rattle.heap_words.specs.declared.schedule.Item.TheVariants.{Steps, Until, Replies}
use Rattle.heap_words.specs.Place.{code_of}
use Rattle.heap_words.specs.Ranges.{seat_count}
use Rattle.trace_reading.specs.Scanning.{digit_count}
use Rattle.trace_reading.specs.Spelling.{newline, number_of, aim, item, schedule_line, IsItem, IsScheduleLine}
use Rattle.trace_reading.specs.declared.why.Why.TheVariants.{Item as NoItem}
use Rattle.trace_reading.specs.Front.{NoDigit}
use Rattle.trace_reading.proofs.GrammarNumbers.{own, digit_count-append}
use Rattle.trace_reading.proofs.ReadItems.{aim_no_digit, seat_of}
use Rattle.trace_reading.specs.Codes.{is_code}
use Rattle.trace_reading.specs.Causes.{first_cause, is_plain_number, range_cause, counted_cause, until_cause, aim_cause, item_cause, items_cause, schedule_cause}
use Rattle.trace_reading.proofs.RefusedPlaces.{code_takes, code_again}
use Rattle.trace_reading.proofs.Words.{range_fine}
use Rattle.trace_reading.proofs.Free.{IsWord, free_both}
use Rattle.trace_reading.proofs.Numerals.{number_spelled, decimal_is_number, decimal_word, range_again, none_first}
use Rattle.trace_reading.proofs.HeadWords.{join_words}

-- ---- what a word is where it has no cause

counted : (most : ℕ) (machine count : List ℕ) → most < 2 ^ 64 → counted_cause most machine count ≡ None
    → (found_machine : ℕ) × (found_count : ℕ) × (machine ≡ decimal found_machine) × (count ≡ decimal found_count) × (1 ≤ found_machine) × (found_machine ≤ most) × (1 ≤ found_count) × (found_count ≤ 4000000000)
unfolding counted_cause
counted most machine count most_small no_counted_cause = by_test (is_plain_number machine && is_plain_number count) refl no_counted_cause
  where
    by_test : (test : Bool) → (is_plain_number machine && is_plain_number count) ≡ test → cond test (first_cause (range_cause 1 most machine) (range_cause 1 4000000000 count)) (Some NoItem) ≡ None
        → (machine_number : ℕ) × (count_number : ℕ) × (machine ≡ decimal machine_number) × (count ≡ decimal count_number) × (1 ≤ machine_number) × (machine_number ≤ most) × (1 ≤ count_number) × (count_number ≤ 4000000000)
    by_test false both_plain no_cause = absurd cc
    by_test true both_plain no_cause =
        let numbers = and_parts (is_plain_number machine) (is_plain_number count) both_plain in
        let both_fine = none_first (range_cause 1 most machine) (range_cause 1 4000000000 count) no_cause in
        let machine_fine = range_fine 1 most machine both_fine.0 in
        let count_fine = range_fine 1 4000000000 count both_fine.1 in
        (digits_value 10 machine, digits_value 10 count, number_spelled machine numbers.0 (omega (arith, machine_fine.1)), number_spelled count numbers.1 (omega (arith, count_fine.1)), machine_fine.0, machine_fine.1, count_fine.0, count_fine.1)

until : (most : ℕ) (machine code : List ℕ) → most < 2 ^ 64 → until_cause most machine code ≡ None → (found_machine : ℕ) × (place : Place) × (machine ≡ decimal found_machine) × (code ≡ code_of place) × (1 ≤ found_machine) × (found_machine ≤ most)
unfolding until_cause
until most machine code most_small no_until_cause = by_test (is_plain_number machine && is_code code) refl no_until_cause
  where
    by_test : (test : Bool) → (is_plain_number machine && is_code code) ≡ test → cond test (range_cause 1 most machine) (Some NoItem) ≡ None → (machine_number : ℕ) × (place : Place) × (machine ≡ decimal machine_number) × (code ≡ code_of place) × (1 ≤ machine_number) × (machine_number ≤ most)
    by_test false plain_code no_cause = absurd cc
    by_test true plain_code no_cause =
        let pass = and_parts (is_plain_number machine) (is_code code) plain_code in
        let machine_fine = range_fine 1 most machine no_cause in
        let found_place = code_takes code pass.1 in
        (digits_value 10 machine, found_place.0, number_spelled machine pass.0 (omega (arith, machine_fine.1)), sym found_place.1, machine_fine.0, machine_fine.1)

one_more : (n : ℕ) → 1 ≤ n → n ≡ (n - 1) + 1
one_more n some_number = omega arith

-- the machine and its aim, put together
item_of : (machine rest : List ℕ) (machine_number : ℕ) (aimed_item : Item) → machine ≡ decimal machine_number → machine_number ≡ number_of aimed_item + 1 → rest ≡ aim aimed_item → machine ++ rest ≡ item aimed_item
item_of machine rest machine_number aimed_item same_machine number_is aim_is = ap (λ (number_text : List ℕ). number_text ++ rest) (same_machine ∙ ap decimal number_is) ∙ ap (λ (aim_text : List ℕ). decimal (number_of aimed_item + 1) ++ aim_text) aim_is

aim_spelled : (config : Config) (machine rest : List ℕ) → aim_cause config machine rest ≡ None → (i : Item) × IsItem config i × (machine ++ rest ≡ item i)
aim_spelled config machine [] no_aim_cause = absurd cc
aim_spelled config machine (mark ∷ rest) no_aim_cause = by_colon (eqb mark 58) refl no_aim_cause
  where
    seats : ℕ
    seats = seat_count config.mutators config.helpers

    small : seat_count config.mutators config.helpers < 2 ^ 64
    small = omega (arith, config.in_range.most_mutators, config.in_range.most_helpers)

    fewer : config.mutators < 2 ^ 64
    fewer = omega (arith, config.in_range.most_mutators)

    by_at : (test : Bool) → eqb mark 64 ≡ test → cond test (until_cause (seat_count config.mutators config.helpers) machine rest) (Some NoItem) ≡ None → (spelled_item : Item) × IsItem config spelled_item × (machine ++ mark ∷ rest ≡ item spelled_item)
    by_at false mark_tested no_cause = absurd cc
    by_at true mark_tested no_cause =
        let found_machine = until (seat_count config.mutators config.helpers) machine rest small no_cause in
        let spelled_item : Item = Until (found_machine.0 - 1) found_machine.1 in
        let seat_fits : found_machine.0 - 1 < seat_count config.mutators config.helpers = omega (arith, found_machine.4, found_machine.5) in
        let same_mark : mark ≡ 64 = eqb-true _ _ mark_tested in
        (spelled_item, seat_fits, item_of machine (mark ∷ rest) found_machine.0 spelled_item found_machine.2 (one_more found_machine.0 found_machine.4) (ap (λ (any_mark : ℕ). any_mark ∷ rest) same_mark ∙ ap (λ (any_rest : List ℕ). 64 ∷ any_rest) found_machine.3))

    by_equals : (test : Bool) → eqb mark 61 ≡ test → cond test (counted_cause config.mutators machine rest) (cond (eqb mark 64) (until_cause (seat_count config.mutators config.helpers) machine rest) (Some NoItem)) ≡ None → (spelled_item : Item) × IsItem config spelled_item × (machine ++ mark ∷ rest ≡ item spelled_item)
    by_equals false mark_tested no_cause = by_at (eqb mark 64) refl no_cause
    by_equals true mark_tested no_cause =
        let found_machine = counted config.mutators machine rest fewer no_cause in
        let spelled_item : Item = Replies (found_machine.0 - 1) found_machine.1 in
        let mutator_fits : found_machine.0 - 1 < config.mutators = omega (arith, found_machine.4, found_machine.5) in
        let same_mark : mark ≡ 61 = eqb-true _ _ mark_tested in
        (spelled_item, (mutator_fits, (found_machine.6, found_machine.7)), item_of machine (mark ∷ rest) found_machine.0 spelled_item found_machine.2 (one_more found_machine.0 found_machine.4) (ap (λ (any_mark : ℕ). any_mark ∷ rest) same_mark ∙ ap (λ (any_rest : List ℕ). 61 ∷ any_rest) found_machine.3))

    by_colon : (test : Bool) → eqb mark 58 ≡ test → cond test (counted_cause (seat_count config.mutators config.helpers) machine rest) (cond (eqb mark 61) (counted_cause config.mutators machine rest) (cond (eqb mark 64) (until_cause (seat_count config.mutators config.helpers) machine rest) (Some NoItem))) ≡ None
        → (spelled_item : Item) × IsItem config spelled_item × (machine ++ mark ∷ rest ≡ item spelled_item)
    by_colon false mark_tested no_cause = by_equals (eqb mark 61) refl no_cause
    by_colon true mark_tested no_cause =
        let found_machine = counted (seat_count config.mutators config.helpers) machine rest small no_cause in
        let spelled_item : Item = Steps (found_machine.0 - 1) found_machine.1 in
        let seat_fits : found_machine.0 - 1 < seat_count config.mutators config.helpers = omega (arith, found_machine.4, found_machine.5) in
        let same_mark : mark ≡ 58 = eqb-true _ _ mark_tested in
        (spelled_item, (seat_fits, (found_machine.6, found_machine.7)), item_of machine (mark ∷ rest) found_machine.0 spelled_item found_machine.2 (one_more found_machine.0 found_machine.4) (ap (λ (any_mark : ℕ). any_mark ∷ rest) same_mark ∙ ap (λ (any_rest : List ℕ). 58 ∷ any_rest) found_machine.3))

pub item_spelled : (config : Config) (word : List ℕ) → item_cause config word ≡ None → (spelled_item : Item) × IsItem config spelled_item × (word ≡ item spelled_item)
unfolding item_cause
item_spelled config word no_cause =
    let aim_made = aim_spelled config (take (digit_count word) word) (drop (digit_count word) word) no_cause in
    (aim_made.0, aim_made.1, sym (take-append-drop (digit_count word) word) ∙ aim_made.2)

pub items_spelled : (config : Config) (words : List (List ℕ)) → items_cause config words ≡ None → (items : List Item) × AllByRecursion (IsItem config) items × (words ≡ map item items)
unfolding items_cause
items_spelled config [] no_cause = ([], tt, refl)
items_spelled config (word ∷ words) no_cause =
    let both_fine = none_first (item_cause config word) (items_cause config words) no_cause in
    let first_spelled = item_spelled config word both_fine.0 in
    let later_items = items_spelled config words both_fine.1 in
    (first_spelled.0 ∷ later_items.0, (first_spelled.1, later_items.1), ap (λ (any_word : List ℕ). any_word ∷ words) first_spelled.2 ∙ ap (λ (any_words : List (List ℕ)). item first_spelled.0 ∷ any_words) later_items.2)

-- ---- an item has no cause

counted_again : (most machine_number count_number : ℕ) → most < 2 ^ 64 → 1 ≤ machine_number → machine_number ≤ most → 1 ≤ count_number → count_number ≤ 4000000000 → counted_cause most (decimal machine_number) (decimal count_number) ≡ None
unfolding counted_cause
counted_again most machine_number count_number most_small some_machine at_most count_positive count_low =
    rw (decimal_is_number machine_number (omega arith), decimal_is_number count_number (omega arith), range_again 1 most machine_number (omega arith) some_machine at_most, range_again 1 4000000000 count_number (omega arith) count_positive count_low) refl

until_again : (most machine_number : ℕ) (place : Place) → most < 2 ^ 64 → 1 ≤ machine_number → machine_number ≤ most → until_cause most (decimal machine_number) (code_of place) ≡ None
unfolding until_cause
until_again most machine_number place most_small some_machine at_most = rw (decimal_is_number machine_number (omega arith), code_again place, range_again 1 most machine_number (omega arith) some_machine at_most) refl

aim_again : (config : Config) (given_item : Item) → IsItem config given_item → aim_cause config (decimal (number_of given_item + 1)) (aim given_item) ≡ None
aim_again config (Steps number count) item_fits = counted_again (seat_count config.mutators config.helpers) (number + 1) count (omega (arith, config.in_range.most_mutators, config.in_range.most_helpers)) (omega arith) (omega (arith, item_fits.0)) item_fits.1.0 item_fits.1.1
aim_again config (Until number place) item_fits = until_again (seat_count config.mutators config.helpers) (number + 1) place (omega (arith, config.in_range.most_mutators, config.in_range.most_helpers)) (omega arith) (omega (arith, item_fits))
aim_again config (Replies number count) item_fits = counted_again config.mutators (number + 1) count (omega (arith, config.in_range.most_mutators)) (omega arith) (omega (arith, item_fits.0)) item_fits.1.0 item_fits.1.1

small_machine : (config : Config) (given_item : Item) → IsItem config given_item → number_of given_item + 1 < 2 ^ 64
small_machine config given_item item_fits = let seat = seat_of config given_item item_fits in omega (arith, seat.1, config.in_range.most_mutators, config.in_range.most_helpers)

pub item_again : (config : Config) (given_item : Item) → IsItem config given_item → item_cause config (item given_item) ≡ None
unfolding item_cause
item_again config given_item item_fits =
    let machine = decimal (number_of given_item + 1) in
    let count : digit_count (machine ++ aim given_item) ≡ length machine = digit_count-append machine (aim given_item) (digits_decimal own (number_of given_item + 1) (small_machine config given_item item_fits)) (subst NoDigit (append-nil (aim given_item)) (aim_no_digit given_item [])) in
    rw (count, take_at machine (aim given_item), drop_at machine (aim given_item)) (aim_again config given_item item_fits)

pub items_again : (config : Config) (items : List Item) → AllByRecursion (IsItem config) items → items_cause config (map item items) ≡ None
unfolding items_cause
items_again config [] all_valid = refl
items_again config (first_item ∷ items) all_valid = rw (item_again config first_item all_valid.0) (items_again config items all_valid.1)

-- ---- items are words

code_word : (place : Place) → IsWord (code_of place)
code_word E1 = record { no_space = refl; no_end = refl }
code_word _ = record { no_space = refl; no_end = refl }

aim_free : (config : Config) (given_item : Item) → IsItem config given_item → IsWord (aim given_item)
aim_free config (Steps number count) item_fits = let plain_word = decimal_word count (omega (arith, item_fits.1.1)) in record { no_space = plain_word.no_space; no_end = plain_word.no_end }
aim_free config (Until number place) item_fits = let plain_word = code_word place in record { no_space = plain_word.no_space; no_end = plain_word.no_end }
aim_free config (Replies number count) item_fits = let plain_word = decimal_word count (omega (arith, item_fits.1.1)) in record { no_space = plain_word.no_space; no_end = plain_word.no_end }

pub item_word : (config : Config) (given_item : Item) → IsItem config given_item → IsWord (item given_item)
item_word config given_item item_fits =
    let machine = decimal_word (number_of given_item + 1) (small_machine config given_item item_fits) in
    let aim_word = aim_free config given_item item_fits in
    record { no_space = free_both 32 (decimal (number_of given_item + 1)) (aim given_item) machine.no_space aim_word.no_space; no_end = free_both 10 (decimal (number_of given_item + 1)) (aim given_item) machine.no_end aim_word.no_end }

pub items_words : (config : Config) (items : List Item) → AllByRecursion (IsItem config) items → AllByRecursion IsWord (map item items)
items_words config [] all_valid = tt
items_words config (first_item ∷ items) all_valid = (item_word config first_item all_valid.0, items_words config items all_valid.1)

-- ---- lines

-- the words of a line of the schedule
abbrev pub words_of_turn : List Item → List (List ℕ)
words_of_turn items = (33 ∷ []) ∷ map item items

pub turn_is : (items : List Item) → join_with_byte 32 (words_of_turn items) ++ newline ∷ [] ≡ schedule_line items
turn_is items = ap (λ (text : List ℕ). text ++ newline ∷ []) (join_words (33 ∷ []) (map item items) ∙ ap (λ (text : List ℕ). 33 ∷ text) (flat_map-map (λ (item_text : List ℕ). 32 ∷ item_text) item items))

pub turn_clean : (config : Config) (items : List Item) → IsScheduleLine config items → AllByRecursion IsWord (words_of_turn items)
turn_clean config items valid_line = (record { no_space = refl; no_end = refl }, items_words config items valid_line.in_range)

pub schedule_spelled : (config : Config) (words : List (List ℕ)) → schedule_cause config words ≡ None → (items : List Item) × IsScheduleLine config items × (words ≡ map item items)
schedule_spelled config [] no_cause = absurd cc
schedule_spelled config (first_word ∷ words) no_cause = let items_made = items_spelled config (first_word ∷ words) no_cause in by_items items_made.0 items_made.1 items_made.2
  where
    by_items : (items : List Item) → AllByRecursion (IsItem config) items → first_word ∷ words ≡ map item items → (found_items : List Item) × IsScheduleLine config found_items × (first_word ∷ words ≡ map item found_items)
    by_items [] all_valid same_words = absurd cc
    by_items (first_item ∷ items) all_valid same_words = (first_item ∷ items, record { some = omega arith; in_range = all_valid }, same_words)

pub schedule_again : (config : Config) (items : List Item) → IsScheduleLine config items → schedule_cause config (map item items) ≡ None
schedule_again config [] valid_line = absurd (omega (arith, valid_line.some))
schedule_again config (first_item ∷ items) valid_line = items_again config (first_item ∷ items) valid_line.in_range
