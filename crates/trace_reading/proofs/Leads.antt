-- Which lines may follow, and why another may not.
use Rattle.std.proofs.Common.{◌≡◌, ◌⊎◌, ℕ, ◌^◌, ◌<◌, Bool, true, false, List, [], ◌∷◌, ◌++◌, map, take, drop, Some, None, inl, inr, refl, sym, ap, subst, ◌∙◌, arith}
use Rattle.std.specs.List.{join_with_byte}
use Rattle.std.specs.Fmt.{decimal}
use Rattle.std.specs.Str.Parse.{AllDigits}
use Rattle.std.specs.Cmp.Lexicographic.{same_text}
use Rattle.std.proofs.lemmas.Fmt.{digits_decimal}
use Rattle.std.proofs.lemmas.List.Splits.{join_with_byte-slice_split}
use Rattle.shen_graph.proofs.Lists.{same_before_end}
use Rattle.heap_words.specs.declared.config.Config.{Config}
use Rattle.heap_words.specs.declared.schedule.Item.{Item}
use Rattle.trace_reading.specs.Spelling.{TraceLine, IsLine, line, newline, item, schedule_line, IsScheduleLine, command_word, numbers_of}
use Rattle.trace_reading.specs.declared.why.Why.TheVariants.{EndOfLine}
use Rattle.trace_reading.proofs.GrammarNumbers.{own}
use Rattle.trace_reading.specs.Causes.{parts, parts_behind, is_same, schedule_cause, command_cause}
use Rattle.trace_reading.specs.Refused.{LineStage, Version, Heap, Threads, Commands, Turns, body_stage, words_cause, end_cause, cause_of, LineFollows, IsCommandLine, IsTurnItem}
use Rattle.trace_reading.proofs.Cuts.{count_before, cut_parts}
use Rattle.trace_reading.proofs.Lines.{whole_line, cut_line, turn_words, late_words, command_words}
use Rattle.trace_reading.proofs.Free.{is_free, parts_at, parts_again, joined_free}
use Rattle.trace_reading.proofs.HeadWords.{joined, version_spelled, version_again, heap_spelled, heap_again, threads_spelled, threads_again}
use Rattle.trace_reading.proofs.Commands.{line_words, line_is, line_clean, line_fine, line_spelled}
use Rattle.trace_reading.proofs.ScheduleWords.{words_of_turn, turn_is, turn_clean, schedule_spelled, schedule_again}

pub few_threads : (config : Config) → config.mutators < 2 ^ 64
few_threads config = omega (arith, config.in_range.most_mutators)

-- ---- a line of the grammar has no cause, and no end within it

pub line_text : (version threads : ℕ) (text : List ℕ) (trace_line : TraceLine) → threads < 2 ^ 64 → IsLine version threads trace_line → text ++ newline ∷ [] ≡ line trace_line → (parts 32 text ≡ line_words trace_line) × (is_free 10 text ≡ true)
line_text version threads text trace_line small fits same_line =
    let joined_text : text ≡ join_with_byte 32 (line_words trace_line) = same_before_end text (join_with_byte 32 (line_words trace_line)) newline (same_line ∙ sym (line_is trace_line)) in
    let clean = line_clean version threads trace_line small fits in
    let others = command_word trace_line.command ∷ map decimal (numbers_of trace_line.command) in
    (ap (parts 32) joined_text ∙ parts_again (decimal trace_line.thread) others clean, ap (is_free 10) joined_text ∙ joined_free (decimal trace_line.thread) others clean)

pub turn_text : (config : Config) (text : List ℕ) (items : List Item) → IsScheduleLine config items → text ++ newline ∷ [] ≡ schedule_line items → (parts 32 text ≡ words_of_turn items) × (is_free 10 text ≡ true)
turn_text config text items schedule_good same_line =
    let joined_text : text ≡ join_with_byte 32 (words_of_turn items) = same_before_end text (join_with_byte 32 (words_of_turn items)) newline (same_line ∙ sym (turn_is items)) in
    let clean = turn_clean config items schedule_good in
    (ap (parts 32) joined_text ∙ parts_again (33 ∷ []) (map item items) clean, ap (is_free 10) joined_text ∙ joined_free (33 ∷ []) (map item items) clean)

-- a number is no mark of the schedule
pub no_number : (number : ℕ) → number < 2 ^ 64 → decimal number ≡ 33 ∷ [] → ⊥
no_number number small spells_mark = let digits : AllDigits 10 (33 ∷ []) = subst (AllDigits 10) spells_mark (digits_decimal own number small) in omega (arith, digits.0)

no_mark : (number : ℕ) → number < 2 ^ 64 → false ≡ is_same (decimal number) (33 ∷ [])
no_mark number small = by_test (is_same (decimal number) (33 ∷ [])) refl
  where
    by_test : (test : Bool) → is_same (decimal number) (33 ∷ []) ≡ test → false ≡ test
    by_test false test_outcome = refl
    by_test true test_outcome = absurd (no_number number small (same_text (decimal number) (33 ∷ []) (sym test_outcome)))

command_fine : (version : ℕ) (config : Config) (text : List ℕ) → IsCommandLine version config text → (words_cause (Commands version config) (parts 32 text) ≡ None) × (is_free 10 text ≡ true)
command_fine version config text command_line =
    let trace_line = command_line.0 in
    let read = line_text version config.mutators text trace_line (few_threads config) command_line.1 command_line.2 in
    let small : trace_line.thread < 2 ^ 64 = omega (arith, command_line.1.to_last, few_threads config) in
    (command_words version config false (parts 32 text) (decimal trace_line.thread) (command_word trace_line.command ∷ map decimal (numbers_of trace_line.command)) read.0 (no_mark trace_line.thread small) refl ∙ line_fine version config.mutators trace_line (few_threads config) command_line.1, read.1)

turn_fine : (version : ℕ) (config : Config) (behind : Bool) (text : List ℕ) → IsTurnItem config text → (words_cause (body_stage version config behind) (parts 32 text) ≡ None) × (is_free 10 text ≡ true)
turn_fine version config behind text turn_item =
    let read = turn_text config text turn_item.0 turn_item.1 turn_item.2 in
    (turn_words version config behind (parts 32 text) (33 ∷ []) (map item turn_item.0) read.0 refl ∙ schedule_again config turn_item.0 turn_item.1, read.1)

pub fine : (stage : LineStage) (text : List ℕ) (next_stage : LineStage) → LineFollows stage text next_stage → (words_cause stage (parts 32 text) ≡ None) × (is_free 10 text ≡ true)
fine Version text next_stage line_follows = let read = version_again line_follows.0 text line_follows.1 line_follows.2 in (read.0, read.1)
fine (Heap version) text next_stage line_follows = let read = heap_again version line_follows.0 text line_follows.1 line_follows.2 in (read.0, read.1)
fine (Threads version regions region_words reserve) text next_stage line_follows = let read = threads_again version regions region_words reserve line_follows.0 text line_follows.4 in (read.0, read.1)
fine (Commands version config) text next_stage (inl f) = command_fine version config text f.0
fine (Commands version config) text next_stage (inr f) = turn_fine version config false text f.0
fine (Turns config) text next_stage line_follows = turn_fine 1 config true text line_follows.0

-- ---- a text without a cause is a line of the grammar

-- the sizes behind which the threads are wanted are those of a configuration
abbrev pub Fits : LineStage → Type 0
Fits Version = Unit {0}
Fits (Heap version) = Unit {0}
Fits (Threads version regions region_words reserve) = (config : Config) × (config.regions ≡ regions) × (config.region_words ≡ region_words) × (config.reserve ≡ reserve)
Fits (Commands version config) = Unit {0}
Fits (Turns config) = Unit {0}

body_turn : (config : Config) (text first_word : List ℕ) (later_words : List (List ℕ)) → parts 32 text ≡ first_word ∷ later_words → true ≡ is_same first_word (33 ∷ []) → schedule_cause config later_words ≡ None → IsTurnItem config text
body_turn config text first_word later_words word_parts is_mark no_cause =
    let made = schedule_spelled config later_words no_cause in
    let words : parts 32 text ≡ words_of_turn made.0 = word_parts ∙ ap (λ (given_word : List ℕ). given_word ∷ later_words) (same_text first_word (33 ∷ []) is_mark) ∙ ap (λ (word_list : List (List ℕ)). (33 ∷ []) ∷ word_list) made.2 in
    (made.0, made.1, ap (λ (given_text : List ℕ). given_text ++ newline ∷ []) (joined text (words_of_turn made.0) words) ∙ turn_is made.0)

body_command : (version : ℕ) (config : Config) (text thread : List ℕ) (later_words : List (List ℕ)) → parts 32 text ≡ thread ∷ later_words → command_cause version config.mutators thread later_words ≡ None → IsCommandLine version config text
body_command version config text thread later_words word_parts no_cause =
    let made = line_spelled version config.mutators thread later_words (few_threads config) no_cause in
    (made.0, made.1, ap (λ (given_text : List ℕ). given_text ++ newline ∷ []) (joined text (line_words made.0) (word_parts ∙ made.2)) ∙ line_is made.0)

pub commands_follow : (version : ℕ) (config : Config) (text : List ℕ) → words_cause (Commands version config) (parts 32 text) ≡ None → IsCommandLine version config text ⊎ IsTurnItem config text
commands_follow version config text no_cause = by_test (is_same (take (count_before 32 text) text) (33 ∷ [])) refl
  where
    by_test : (test : Bool) → is_same (take (count_before 32 text) text) (33 ∷ []) ≡ test → IsCommandLine version config text ⊎ IsTurnItem config text
    by_test true is_mark = inr (body_turn config text _ _ (cut_parts 32 text) (sym is_mark) (sym (turn_words version config false (parts 32 text) _ _ (cut_parts 32 text) (sym is_mark)) ∙ no_cause))
    by_test false not_mark = inl (body_command version config text _ _ (cut_parts 32 text) (sym (command_words version config false (parts 32 text) _ _ (cut_parts 32 text) (sym not_mark) refl) ∙ no_cause))

pub turns_follow : (config : Config) (text : List ℕ) → words_cause (Turns config) (parts 32 text) ≡ None → IsTurnItem config text
turns_follow config text no_cause = by_test (is_same (take (count_before 32 text) text) (33 ∷ [])) refl
  where
    by_test : (test : Bool) → is_same (take (count_before 32 text) text) (33 ∷ []) ≡ test → IsTurnItem config text
    by_test true is_mark = body_turn config text _ _ (cut_parts 32 text) (sym is_mark) (sym (turn_words 1 config true (parts 32 text) _ _ (cut_parts 32 text) (sym is_mark)) ∙ no_cause)
    by_test false not_mark = absurd (let late = late_words 1 config true (parts 32 text) _ _ (cut_parts 32 text) (sym not_mark) refl in cc)

pub follows : (stage : LineStage) (text : List ℕ) → Fits stage → words_cause stage (parts 32 text) ≡ None → (next : LineStage) × LineFollows stage text next × Fits next
follows Version text fits no_cause = let made = version_spelled text no_cause in (Heap made.0, (made.0, made.1, made.2, refl), tt)
follows (Heap version) text fits no_cause =
    let made = heap_spelled version text no_cause in
    (Threads version made.0.regions made.0.region_words made.0.reserve, (made.0, made.1, made.2, refl), (made.0, refl, refl, refl))
follows (Threads version regions region_words reserve) text fits no_cause =
    let made = threads_spelled version regions region_words reserve fits.0 text fits.1 fits.2 fits.3 no_cause in
    (Commands version made.0, (made.0, made.1, made.2, made.3, made.4, refl), tt)
follows (Commands version config) text fits no_cause = by_kind (commands_follow version config text no_cause)
  where
    by_kind : IsCommandLine version config text ⊎ IsTurnItem config text → (next_stage : LineStage) × LineFollows (Commands version config) text next_stage × Fits next_stage
    by_kind (inl line_kind) = (Commands version config, inl (line_kind, refl), tt)
    by_kind (inr line_kind) = (Turns config, inr (line_kind, refl), tt)
follows (Turns config) text fits no_cause = (Turns config, (turns_follow config text no_cause, refl), tt)

-- ---- lines at the front of bytes

-- the first line: it has an end, and others behind it, or it is the last
pub first_line : (bytes : List ℕ) → (text : List ℕ) × (rest : List ℕ) × ((parts 10 bytes ≡ text ∷ []) ⊎ (parts 10 bytes ≡ text ∷ parts 10 rest))
first_line bytes = by_rest (take (count_before 10 bytes) bytes) (drop (count_before 10 bytes) bytes) (cut_parts 10 bytes)
  where
    by_rest : (text end : List ℕ) → parts 10 bytes ≡ text ∷ parts_behind 10 end → (first_line : List ℕ) × (rest : List ℕ) × ((parts 10 bytes ≡ first_line ∷ []) ⊎ (parts 10 bytes ≡ first_line ∷ parts 10 rest))
    by_rest text [] line_parts = (text, [], inl line_parts)
    by_rest text (byte ∷ rest) line_parts = (text, rest, inr line_parts)

pub bytes_of_line : (bytes text rest : List ℕ) → parts 10 bytes ≡ text ∷ parts 10 rest → bytes ≡ text ++ 10 ∷ rest
bytes_of_line bytes text rest line_parts =
    sym (join_with_byte-slice_split 10 bytes) ∙ ap (join_with_byte 10) (line_parts ∙ ap (λ (given_lines : List (List ℕ)). text ∷ given_lines) (cut_parts 10 rest))
    ∙ ap (λ (given_text : List ℕ). text ++ 10 ∷ given_text) (ap (join_with_byte 10) (sym (cut_parts 10 rest)) ∙ join_with_byte-slice_split 10 rest)

pub bytes_of_last : (bytes text : List ℕ) → parts 10 bytes ≡ text ∷ [] → bytes ≡ text
bytes_of_last bytes text line_parts = sym (join_with_byte-slice_split 10 bytes) ∙ ap (join_with_byte 10) line_parts

-- a line that ends, and has no cause
pub line_of : (stage : LineStage) (bytes rest text : List ℕ) → (parts 10 bytes ≡ text ∷ []) ⊎ (parts 10 bytes ≡ text ∷ parts 10 rest) → end_cause stage text ≡ Some EndOfLine → cause_of stage (parts 10 bytes) ≡ None
    → (parts 10 bytes ≡ text ∷ parts 10 rest) × (words_cause stage (parts 32 text) ≡ None)
line_of stage bytes rest text (inl last_line) ends no_cause = absurd (let cut = cut_line stage bytes text last_line in cc)
line_of stage bytes rest text (inr line_parts) ends no_cause = (line_parts, sym (whole_line stage bytes text rest line_parts) ∙ no_cause)

-- a line of the grammar at the front
pub line_in_front : (stage : LineStage) (text rest : List ℕ) (next_stage : LineStage) → LineFollows stage text next_stage → parts 10 (text ++ 10 ∷ rest) ≡ text ∷ parts 10 rest
line_in_front stage text rest next_stage line_follows = parts_at 10 text rest (fine stage text next_stage line_follows).1
