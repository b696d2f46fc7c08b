-- The line of a command, by its words.
use Rattle.std.proofs.lemmas.Option.{same_Some}
use Rattle.std.proofs.Common.{◌≡◌, ℕ, suc, ◌^◌, ◌<◌, ◌≤◌, Bool, true, false, cond, eqb, ltb, List, [], ◌∷◌, ◌++◌, length, map, Option, Some, None, refl, sym, ap, subst, ◌∙◌, append_assoc, arith}
use Rattle.std.specs.List.{join_with_byte, AllByRecursion}
use Rattle.std.specs.Fmt.{decimal}
use Rattle.std.specs.Cmp.Lexicographic.{same_text}
use Rattle.std.proofs.lemmas.Bool.{eqb-true, ltb-true, ltb-false, eq-eqb}
use Rattle.trace_reading.specs.declared.kind.CommandKind.{CommandKind}
use Rattle.trace_reading.specs.declared.kind.CommandKind.TheVariants.{New, Get, Set, Cas, Xchg, Rd, Wr, Copy, Drop, Same, Gc, Pin, Unpin}
use Rattle.trace_reading.specs.Kinds.{first_kinds, later_kinds, kinds, word, limits, command_from, AreWithinLimits}
use Rattle.trace_reading.specs.Spelling.{TraceLine, IsLine, line, newline, numbers, command_word, numbers_of}
use Rattle.trace_reading.specs.declared.why.Why.TheVariants.{Command}
use Rattle.trace_reading.proofs.GrammarNumbers.{AreSmall}
use Rattle.trace_reading.proofs.GrammarLines.{HasKind, kinds_known, limits_small, kind_of, made_numbers, made_word, made_valid, made_known, known_kind, valid_within, word_again}
use Rattle.trace_reading.specs.Causes.{is_same, numbers_cause, kind_named, ranges_of, numbers_of_kind, command_cause}
use Rattle.trace_reading.proofs.Words.{up_to, up_to_length, kind_known}
use Rattle.trace_reading.proofs.Free.{IsWord}
use Rattle.trace_reading.proofs.Numerals.{AreSmallRanges, AreBetween, numbers_spelled, numbers_again, numbers_length, numbers_words}
use Rattle.trace_reading.proofs.HeadWords.{join_numbers}

-- ---- kinds

pub kind_spelled : (tried_kinds : List CommandKind) (spelled_word : List ℕ) (kind : CommandKind) → kind_named tried_kinds spelled_word ≡ Some kind → spelled_word ≡ word kind
unfolding kind_named
kind_spelled [] spelled_word kind found = absurd cc
kind_spelled (first_kind ∷ rest) spelled_word kind found = by_test (is_same spelled_word (word first_kind)) refl (kind_spelled rest spelled_word kind) found
  where
    by_test : (test : Bool) → is_same spelled_word (word first_kind) ≡ test → (kind_named rest spelled_word ≡ Some kind → spelled_word ≡ word kind) → cond test (Some first_kind) (kind_named rest spelled_word) ≡ Some kind → spelled_word ≡ word kind
    by_test true word_test others found = same_text spelled_word (word first_kind) (sym word_test) ∙ ap word (same_Some first_kind kind found)
    by_test false word_tested others found = others found

-- what all of the kinds are, the one that was found is
kind_is : (P : CommandKind → Type 0) (tried_kinds : List CommandKind) (spelled_word : List ℕ) (kind : CommandKind) → AllByRecursion P tried_kinds → kind_named tried_kinds spelled_word ≡ Some kind → P kind
unfolding kind_named
kind_is P [] spelled_word kind all_hold found = absurd cc
kind_is P (first_kind ∷ rest) spelled_word kind all_hold found = by_test (is_same spelled_word (word first_kind)) (kind_is P rest spelled_word kind all_hold.1) found
  where
    by_test : (test : Bool) → (kind_named rest spelled_word ≡ Some kind → P kind) → cond test (Some first_kind) (kind_named rest spelled_word) ≡ Some kind → P kind
    by_test true others found = subst P (same_Some first_kind kind found) all_hold.0
    by_test false others found = others found

-- a kind of version 1, whatever kinds follow
first_again : (later : List CommandKind) (kind : CommandKind) → HasKind 1 kind → kind_named (first_kinds ++ later) (word kind) ≡ Some kind
unfolding kind_named
first_again later Pin old = absurd (omega (arith, old))
first_again later Unpin old = absurd (omega (arith, old))
first_again later New old = refl
first_again later _ old = refl

-- the kinds of a version are those of version 1, or all
kinds_by : (version : ℕ) (P : List CommandKind → Type 0) → (version < 2 → P first_kinds) → (2 ≤ version → P (first_kinds ++ later_kinds)) → P (kinds version)
kinds_by version P old_holds later_holds = by_test (ltb version 2) refl
  where
    by_test : (holds : Bool) → ltb version 2 ≡ holds → P (cond holds first_kinds (first_kinds ++ later_kinds))
    by_test true version_test = old_holds (ltb-true version 2 version_test)
    by_test false version_test = later_holds (ltb-false version 2 version_test)

old_again : (version : ℕ) (kind : CommandKind) → HasKind 1 kind → kind_named (kinds version) (word kind) ≡ Some kind
old_again version kind old =
    kinds_by version (λ (some_kinds : List CommandKind). kind_named some_kinds (word kind) ≡ Some kind) (λ old_version. first_again [] kind old) (λ later_version. first_again later_kinds kind old)

later_again : (version : ℕ) (kind : CommandKind) → 2 ≤ version → kind_named (first_kinds ++ later_kinds) (word kind) ≡ Some kind → kind_named (kinds version) (word kind) ≡ Some kind
later_again version kind later_version found = kinds_by version (λ (some_kinds : List CommandKind). kind_named some_kinds (word kind) ≡ Some kind) (λ old_version. absurd (omega (arith, old_version, later_version))) (λ not_old. found)

pub kind_again : (version : ℕ) (kind : CommandKind) → HasKind version kind → kind_named (kinds version) (word kind) ≡ Some kind
unfolding kind_named
kind_again version Pin known = later_again version Pin known refl
kind_again version Unpin known = later_again version Unpin known refl
kind_again version New known = old_again version New tt
kind_again version Get known = old_again version Get tt
kind_again version Set known = old_again version Set tt
kind_again version Cas known = old_again version Cas tt
kind_again version Xchg known = old_again version Xchg tt
kind_again version Rd known = old_again version Rd tt
kind_again version Wr known = old_again version Wr tt
kind_again version Copy known = old_again version Copy tt
kind_again version Drop known = old_again version Drop tt
kind_again version Same known = old_again version Same tt
kind_again version Gc known = old_again version Gc tt

pub kind_word : (kind : CommandKind) → IsWord (word kind)
kind_word New = record { no_space = refl; no_end = refl }
kind_word _ = record { no_space = refl; no_end = refl }

-- ---- limits

small_up_to : (bounds : List ℕ) → AreSmall bounds → AreSmallRanges (up_to bounds)
small_up_to [] small = tt
small_up_to (bound ∷ bounds) small = (small.0, small_up_to bounds small.1)

within_limits : (bounds ns : List ℕ) → AreBetween (up_to bounds) ns → AreWithinLimits bounds ns
within_limits [] [] between = tt
within_limits [] (number ∷ ns) between = absurd between
within_limits (bound ∷ bounds) [] between = absurd between
within_limits (bound ∷ bounds) (number ∷ ns) between = (between.1, within_limits bounds ns between.2)

between_limits : (bounds ns : List ℕ) → AreWithinLimits bounds ns → AreBetween (up_to bounds) ns
between_limits [] [] within = tt
between_limits [] (number ∷ ns) within = absurd within
between_limits (bound ∷ bounds) [] within = absurd within
between_limits (bound ∷ bounds) (number ∷ ns) within = (omega arith, within.0, between_limits bounds ns within.1)

small_ranges : (threads : ℕ) (kind : CommandKind) → threads < 2 ^ 64 → AreSmallRanges (ranges_of threads (limits kind))
small_ranges threads kind small = (small, small_up_to (limits kind) (limits_small kind))

-- ---- lines

-- the words of a line
abbrev pub line_words : TraceLine → List (List ℕ)
line_words trace_line = decimal trace_line.thread ∷ command_word trace_line.command ∷ map decimal (numbers_of trace_line.command)

pub line_is : (trace_line : TraceLine) → join_with_byte 32 (line_words trace_line) ++ newline ∷ [] ≡ line trace_line
line_is trace_line =
    append_assoc (decimal trace_line.thread) (32 ∷ join_with_byte 32 (command_word trace_line.command ∷ map decimal (numbers_of trace_line.command))) (newline ∷ [])
    ∙ ap (λ (text : List ℕ). decimal trace_line.thread ++ 32 ∷ (text ++ newline ∷ [])) (join_numbers (command_word trace_line.command) (numbers_of trace_line.command))
    ∙ ap (λ (text : List ℕ). decimal trace_line.thread ++ 32 ∷ text) (append_assoc (command_word trace_line.command) (numbers (numbers_of trace_line.command)) (newline ∷ []))

-- the numbers of a line: the thread, and those of the command
fits_ranges : (version threads : ℕ) (trace_line : TraceLine) → IsLine version threads trace_line → AreBetween (ranges_of threads (limits (kind_of trace_line.command))) (trace_line.thread ∷ numbers_of trace_line.command)
fits_ranges version threads trace_line fits = (fits.from_one, fits.to_last, between_limits (limits (kind_of trace_line.command)) (numbers_of trace_line.command) (valid_within trace_line.command fits.valid fits.fits))

pub line_clean : (version threads : ℕ) (trace_line : TraceLine) → threads < 2 ^ 64 → IsLine version threads trace_line → AllByRecursion IsWord (line_words trace_line)
line_clean version threads trace_line small fits =
    let number_words = numbers_words (ranges_of threads (limits (kind_of trace_line.command))) (trace_line.thread ∷ numbers_of trace_line.command) (small_ranges threads (kind_of trace_line.command) small) (fits_ranges version threads trace_line fits) in
    (number_words.0, (subst IsWord (word_again trace_line.command) (kind_word (kind_of trace_line.command)), number_words.1))

-- the words of a line have no cause
pub line_fine : (version threads : ℕ) (trace_line : TraceLine) → threads < 2 ^ 64 → IsLine version threads trace_line → command_cause version threads (decimal trace_line.thread) (command_word trace_line.command ∷ map decimal (numbers_of trace_line.command)) ≡ None
line_fine version threads trace_line small fits =
    let kind = kind_of trace_line.command in
    let ranges = ranges_of threads (limits kind) in
    let between = fits_ranges version threads trace_line fits in
    let size : length (map decimal (numbers_of trace_line.command)) ≡ length (limits kind) = lengths ranges (trace_line.thread ∷ numbers_of trace_line.command) between in
    kind_known version threads (decimal trace_line.thread) (command_word trace_line.command ∷ map decimal (numbers_of trace_line.command)) (command_word trace_line.command) (map decimal (numbers_of trace_line.command)) kind refl
    (ap (kind_named (kinds version)) (sym (word_again trace_line.command)) ∙ kind_again version kind (known_kind version trace_line.command fits.known))
    ∙ rw (eq-eqb (length (map decimal (numbers_of trace_line.command))) (length (limits kind)) size) (numbers_again ranges (trace_line.thread ∷ numbers_of trace_line.command) (small_ranges threads kind small) between)
  where
    lengths : (ranges : List (ℕ × ℕ)) (ns : List ℕ) → AreBetween (ranges_of threads (limits (kind_of trace_line.command))) (trace_line.thread ∷ numbers_of trace_line.command) → length (map decimal (numbers_of trace_line.command)) ≡ length (limits (kind_of trace_line.command))
    lengths ranges ns between = numbers_length (up_to (limits (kind_of trace_line.command))) (numbers_of trace_line.command) between.2 ∙ up_to_length (limits (kind_of trace_line.command))

-- words without a cause are those of a line
pub line_spelled : (version threads : ℕ) (thread : List ℕ) (later_words : List (List ℕ)) → threads < 2 ^ 64 → command_cause version threads thread later_words ≡ None → (trace_line : TraceLine) × IsLine version threads trace_line × (thread ∷ later_words ≡ line_words trace_line)
unfolding command_cause
line_spelled version threads thread [] small no_line_cause = absurd cc
line_spelled version threads thread (kind_word ∷ later_words) small no_line_cause = by_kind (kind_named (kinds version) kind_word) refl no_line_cause
  where
    with_numbers : (kind : CommandKind) → HasKind version kind → kind_word ≡ word kind → (ns : List ℕ) → thread ∷ later_words ≡ map decimal ns → AreBetween (ranges_of threads (limits kind)) ns → (made_line : TraceLine) × IsLine version threads made_line × (thread ∷ kind_word ∷ later_words ≡ line_words made_line)
    with_numbers kind has_kind same_word [] spelled between = absurd between
    with_numbers kind has_kind same_word (number ∷ ns) spelled between =
        let within = within_limits (limits kind) ns between.2 in
        let valid = made_valid kind ns within in
        let made_line : TraceLine = record { thread = number; command = command_from kind ns } in
        let same_thread : thread ≡ decimal number = cc in
        let others : later_words ≡ map decimal ns = cc in (
          made_line,
          record { from_one = between.0; to_last = between.1; known = made_known version kind ns has_kind; valid = valid.0; fits = valid.1 },
          ap (λ (text : List ℕ). text ∷ kind_word ∷ later_words) same_thread ∙ ap (λ (text : List ℕ). decimal number ∷ text ∷ later_words) (same_word ∙ sym (made_word kind ns))
              ∙ ap (λ (texts : List (List ℕ)). decimal number ∷ command_word (command_from kind ns) ∷ texts) (others ∙ ap (map decimal) (sym (made_numbers kind ns within))),
        )

    by_count : (kind : CommandKind) → HasKind version kind → kind_word ≡ word kind → (test : Bool) → eqb (length later_words) (length (limits kind)) ≡ test → cond test (numbers_cause (ranges_of threads (limits kind)) (thread ∷ later_words)) (Some Command) ≡ None → (made_line : TraceLine) × IsLine version threads made_line × (thread ∷ kind_word ∷ later_words ≡ line_words made_line)
    by_count kind has_kind same_word false count no_cause = absurd cc
    by_count kind has_kind same_word true count no_cause =
        let size : length later_words ≡ length (limits kind) = eqb-true _ _ count in
        let made = numbers_spelled (ranges_of threads (limits kind)) (thread ∷ later_words) (small_ranges threads kind small) (ap suc (size ∙ sym (up_to_length (limits kind)))) no_cause in
        with_numbers kind has_kind same_word made.0 made.1 made.2

    by_kind : (found : Option CommandKind) → kind_named (kinds version) kind_word ≡ found → numbers_of_kind threads thread found later_words ≡ None → (made_line : TraceLine) × IsLine version threads made_line × (thread ∷ kind_word ∷ later_words ≡ line_words made_line)
    by_kind None kind_found no_cause = absurd cc
    by_kind (Some kind) kind_found no_cause = by_count kind (kind_is (HasKind version) (kinds version) kind_word kind (kinds_known version) kind_found) (kind_spelled (kinds version) kind_word kind kind_found) (eqb (length later_words) (length (limits kind))) refl no_cause
