-- Lines one after the other, and whose commands they are.
use Rattle.std.proofs.lemmas.Option.{same_Some}
use Rattle.std.proofs.Common.{◌≡◌, ◌≢◌, ◌⊎◌, ℕ, ◌+◌, ◌-◌, ◌^◌, ◌<◌, ◌≤◌, Bool, true, false, eqb, List, [], ◌∷◌, ◌++◌, length, get_or, set, map, Some, None, refl, sym, ap, subst, ◌∙◌, append_assoc, inl, inr, arith}
use Rattle.std.specs.Prelude.{filter, replicate, slice_index_or}
use Rattle.std.specs.List.{flat_map, AllByRecursion}
use Rattle.std.proofs.lemmas.Bool.{eqb-true}
use Rattle.std.proofs.lemmas.Bool.Decides.{nat_tests}
use Rattle.std.specs.Fmt.{decimal}
use Rattle.std.proofs.lemmas.List.{length-append, map-append, same_lists, append-nil, get_or-set_same, get_or-set_other, length-set, length-replicate, get_or-replicate}
use Rattle.std.proofs.lemmas.List.Elements.{filter-append}
use Rattle.std.proofs.lemmas.List.Concat.{flat_map-cons}
use Rattle.std.proofs.lemmas.List.FromFn.{get_or-map-range_with_len, length-map-range_with_len}
use Rattle.std.proofs.lemmas.Grind.{flat_map-append}
use Rattle.shen_graph.specs.declared.command.Command.{Command}
use Rattle.heap_words.specs.declared.config.Config.{Config}
use Rattle.heap_words.specs.Narrow.{IsNarrow}
use Rattle.heap_words.specs.declared.schedule.Item.{Item}
use Rattle.trace_reading.specs.Spelling.{TraceLine, IsVersion, IsLine, line, header, space, newline, numbers, command_word, numbers_of, schedule_line}
use Rattle.trace_reading.specs.Front.{IsBehindCommands}
use Rattle.trace_reading.specs.Scanning.{numeral, spelled_number, positive_at, line_at}
use Rattle.trace_reading.specs.Grammar.{most_bytes, commands_in, scripts_of, with_line, HasReadLines, HasScheduled, Reads}
use Rattle.trace_reading.proofs.GrammarLines.{line_again}

all_more : (version threads : ℕ) (lines : List TraceLine) (trace_line : TraceLine) → AllByRecursion (IsLine version threads) lines → IsLine version threads trace_line → AllByRecursion (IsLine version threads) (lines ++ trace_line ∷ [])
all_more version threads [] trace_line all_lines line_fits = (line_fits, tt)
all_more version threads (first_line ∷ lines) trace_line all_lines line_fits = (all_lines.0, all_more version threads lines trace_line all_lines.1 line_fits)

-- ---- scripts

commands_in_own : (lines : List TraceLine) (trace_line : TraceLine) (thread : ℕ) → thread ≡ trace_line.thread → commands_in (lines ++ trace_line ∷ []) thread ≡ commands_in lines thread ++ trace_line.command ∷ []
commands_in_own lines trace_line thread same_thread =
    let own_test = λ (any_line : TraceLine). eqb any_line.thread thread in
    let own_kept : filter own_test (trace_line ∷ []) ≡ trace_line ∷ [] = rw (is_own trace_line.thread thread (sym same_thread)) refl in
    ap (map (λ (trace_line : TraceLine). trace_line.command)) (filter-append own_test lines (trace_line ∷ []) ∙ ap (λ (line_list : List TraceLine). filter own_test lines ++ line_list) own_kept) ∙ map-append (λ (trace_line : TraceLine). trace_line.command) (filter own_test lines) (trace_line ∷ [])
  where
    is_own : (a b : ℕ) → a ≡ b → eqb a b ≡ true
    is_own a b same_number = grind (arith, nat_tests)

commands_in_other : (lines : List TraceLine) (trace_line : TraceLine) (thread : ℕ) → thread ≢ trace_line.thread → commands_in (lines ++ trace_line ∷ []) thread ≡ commands_in lines thread
commands_in_other lines trace_line thread thread_differs =
    let own_test = λ (any_line : TraceLine). eqb any_line.thread thread in
    let none_kept : filter own_test (trace_line ∷ []) ≡ [] = rw (is_other trace_line.thread thread (λ same_thread. thread_differs (sym same_thread))) refl in
    ap (map (λ (trace_line : TraceLine). trace_line.command)) (filter-append own_test lines (trace_line ∷ []) ∙ ap (λ (line_list : List TraceLine). filter own_test lines ++ line_list) none_kept ∙ append-nil (filter own_test lines))
  where
    is_other : (a b : ℕ) → a ≢ b → eqb a b ≡ false
    is_other a b numbers_differ = grind (arith, nat_tests)

at_thread : (threads : ℕ) (lines : List TraceLine) (index : ℕ) (script : List Command) → index < threads → get_or (scripts_of threads lines) index script ≡ commands_in lines (1 + index)
at_thread threads lines index script index_below = get_or-map-range_with_len (commands_in lines) 1 threads index (1 + index) script index_below refl

scripts_more : (version threads : ℕ) (lines : List TraceLine) (trace_line : TraceLine) → IsLine version threads trace_line → with_line (scripts_of threads lines) trace_line ≡ scripts_of threads (lines ++ trace_line ∷ [])
scripts_more version threads lines trace_line line_fits =
    let olds = scripts_of threads lines in
    let thread_index = trace_line.thread - 1 in
    let script = slice_index_or olds thread_index [] ++ trace_line.command ∷ [] in
    let same_size : length olds ≡ threads = length-map-range_with_len (commands_in lines) 1 threads in
    let news : length (scripts_of threads (lines ++ trace_line ∷ [])) ≡ threads = length-map-range_with_len (commands_in (lines ++ trace_line ∷ [])) 1 threads in
    let lens : length (set olds thread_index script) ≡ threads = length-set olds thread_index script ∙ same_size in
    let in_range : thread_index < threads = omega (arith, line_fits.from_one, line_fits.to_last) in
    let index_thread : 1 + thread_index ≡ trace_line.thread = omega (arith, line_fits.from_one) in
    same_lists (set olds thread_index script) (scripts_of threads (lines ++ trace_line ∷ [])) (lens ∙ sym news) (λ place default index_below.
    let place_below : place < threads = omega (arith, lens) in
    elim (same_or_not place thread_index) [
      | inl same_index ↦
          subst (λ (index : ℕ). get_or (set olds thread_index script) index default ≡ get_or (scripts_of threads (lines ++ trace_line ∷ [])) index default) (sym same_index)
          (get_or-set_same olds thread_index script default (omega (arith, same_size))
          ∙ ap (λ (script : List Command). script ++ trace_line.command ∷ []) (at_thread threads lines thread_index [] in_range)
          ∙ sym (at_thread threads (lines ++ trace_line ∷ []) thread_index default in_range ∙ commands_in_own lines trace_line (1 + thread_index) index_thread))
      | inr index_differs ↦
          get_or-set_other olds thread_index place script default index_differs
          ∙ at_thread threads lines place default place_below
          ∙ sym (at_thread threads (lines ++ trace_line ∷ []) place default place_below ∙ commands_in_other lines trace_line (1 + place) (λ equal_index. index_differs (omega arith)))
    ])
  where
    by_test : (a b : ℕ) (test : Bool) → eqb a b ≡ test → (a ≡ b) ⊎ (a ≢ b)
    by_test a b true tested = inl (eqb-true a b tested)
    by_test a b false tested = inr (λ equal_numbers. grind (arith, nat_tests))

    same_or_not : (a b : ℕ) → (a ≡ b) ⊎ (a ≢ b)
    same_or_not a b = by_test a b (eqb a b) refl

-- ---- taking lines

pub taken_none : (version threads : ℕ) (bytes : List ℕ) (scripts : List (List Command)) → scripts ≡ scripts_of threads [] → HasReadLines version threads bytes bytes scripts
taken_none version threads bytes scripts empty_scripts = record { lines = []; in_range = tt; spelled = refl; by_thread = empty_scripts }

pub taken_more : (version threads : ℕ) (bytes rest after : List ℕ) (scripts news : List (List Command)) (trace_line : TraceLine) → HasReadLines version threads bytes rest scripts → IsLine version threads trace_line → rest ≡ line trace_line ++ after → news ≡ with_line scripts trace_line → HasReadLines version threads bytes after news
taken_more version threads bytes rest after scripts news trace_line lines_taken line_fits rest_is scripts_made = record {
  lines = lines_taken.lines ++ trace_line ∷ [];
  in_range = all_more version threads lines_taken.lines trace_line lines_taken.in_range line_fits;
  spelled = lines_taken.spelled ∙ ap (λ (text : List ℕ). flat_map line lines_taken.lines ++ text) rest_is ∙ sym (append_assoc (flat_map line lines_taken.lines) (line trace_line) after) ∙ ap (λ (text : List ℕ). text ++ after) (sym (flat_map-append line lines_taken.lines (trace_line ∷ []) ∙ ap (λ (text : List ℕ). flat_map line lines_taken.lines ++ text) (flat_map-cons line trace_line [] ∙ append-nil (line trace_line))));
  by_thread = scripts_made ∙ ap (λ (scripts : List (List Command)). with_line scripts trace_line) lines_taken.by_thread ∙ scripts_more version threads lines_taken.lines trace_line line_fits;
}

pub taken_count : (version threads : ℕ) (bytes rest after : List ℕ) (scripts news : List (List Command)) (trace_line : TraceLine) (lines_taken : HasReadLines version threads bytes rest scripts) (line_fits : IsLine version threads trace_line) (rest_is : rest ≡ line trace_line ++ after) (scripts_made : news ≡ with_line scripts trace_line)
    → length (taken_more version threads bytes rest after scripts news trace_line lines_taken line_fits rest_is scripts_made).lines ≡ length lines_taken.lines + 1
unfolding taken_more
taken_count version threads bytes rest after scripts news trace_line lines_taken line_fits rest_is scripts_made = length-append lines_taken.lines (trace_line ∷ [])

flat_append : (trace_line : TraceLine) (lines : List TraceLine) (rest : List ℕ) → flat_map line (trace_line ∷ lines) ++ rest ≡ line trace_line ++ (flat_map line lines ++ rest)
flat_append trace_line lines rest = ap (λ (text : List ℕ). text ++ rest) (flat_map-cons line trace_line lines) ∙ append_assoc (line trace_line) (flat_map line lines) rest

-- what is behind the commands is no line
no_line : (version threads : ℕ) (bytes : List ℕ) → IsBehindCommands bytes → line_at version threads bytes ≡ None
unfolding line_at positive_at spelled_number numeral
no_line version threads [] behind_commands = refl
no_line version threads (byte ∷ bytes) behind_commands = rw behind_commands refl

-- lines with something behind them that is none are the same
pub lines_once : (version threads : ℕ) (lines other_lines : List TraceLine) (rest after : List ℕ) → threads < 2 ^ 64 → AllByRecursion (IsLine version threads) lines → AllByRecursion (IsLine version threads) other_lines → IsBehindCommands rest → IsBehindCommands after → flat_map line lines ++ rest ≡ flat_map line other_lines ++ after → (lines ≡ other_lines) × (rest ≡ after)
lines_once version threads [] [] rest after few_threads all_xs all_ys behind_commands other_behind same_reading = (refl, same_reading)
lines_once version threads [] (first_line ∷ other_lines) rest after few_threads all_xs all_ys behind_commands other_behind same_reading =
    let line_here : line_at version threads rest ≡ Some (first_line, flat_map line other_lines ++ after) = ap (line_at version threads) (same_reading ∙ flat_append first_line other_lines after) ∙ line_again version threads first_line (flat_map line other_lines ++ after) few_threads all_ys.0 in
    let no_line_there = no_line version threads rest behind_commands in
    absurd cc
lines_once version threads (first_line ∷ lines) [] rest after few_threads all_xs all_ys behind_commands other_behind same_reading =
    let line_here : line_at version threads after ≡ Some (first_line, flat_map line lines ++ rest) = ap (line_at version threads) (sym same_reading ∙ flat_append first_line lines rest) ∙ line_again version threads first_line (flat_map line lines ++ rest) few_threads all_xs.0 in
    let no_line_there = no_line version threads after other_behind in
    absurd cc
lines_once version threads (first_line ∷ lines) (trace_line ∷ other_lines) rest after few_threads all_xs all_ys behind_commands other_behind same_bytes =
    let first_pair : TraceLine × List ℕ = (first_line, flat_map line lines ++ rest) in
    let second_pair : TraceLine × List ℕ = (trace_line, flat_map line other_lines ++ after) in
    let same_reading : first_pair ≡ second_pair = same_Some first_pair second_pair (sym (line_again version threads first_line (flat_map line lines ++ rest) few_threads all_xs.0) ∙ ap (line_at version threads) (sym (flat_append first_line lines rest) ∙ same_bytes ∙ flat_append trace_line other_lines after) ∙ line_again version threads trace_line (flat_map line other_lines ++ after) few_threads all_ys.0) in
    let later_lines = lines_once version threads lines other_lines rest after few_threads all_xs.1 all_ys.1 behind_commands other_behind (ap (λ (read_pair : TraceLine × List ℕ). read_pair.1) same_reading) in
    (ap (λ (read_pair : TraceLine × List ℕ). read_pair.0 ∷ lines) same_reading ∙ ap (λ (line_list : List TraceLine). trace_line ∷ line_list) later_lines.0, later_lines.1)

-- ---- whole traces

-- with no line each script is empty
pub scripts_of_none : (threads : ℕ) → replicate threads [] ≡ scripts_of threads []
scripts_of_none threads =
    let news : length (scripts_of threads []) ≡ threads = length-map-range_with_len (commands_in []) 1 threads in
    let empty_script : List Command = [] in
    let olds : length (replicate threads empty_script) ≡ threads = length-replicate threads empty_script in
    same_lists (replicate threads empty_script) (scripts_of threads []) (olds ∙ sym news) (λ index default index_below.
    let index_within : index < threads = omega (arith, olds) in
    get_or-replicate threads index empty_script default index_within ∙ sym (at_thread threads [] index default index_within))

-- the schedule stands behind the commands
pub turns_behind : (turns : List (List Item)) → IsBehindCommands (flat_map schedule_line turns)
turns_behind [] = tt
turns_behind (items ∷ turns) = refl

-- what was read is a trace
pub whole : (bytes rest text_behind : List ℕ) (version : ℕ) (config : Config) (threads : ℕ) (scripts : List (List Command)) (items : List Item) → IsVersion version → IsNarrow config → length bytes ≤ most_bytes → bytes ≡ header version config ++ rest → threads ≡ config.mutators
    → HasReadLines version threads rest text_behind scripts → HasScheduled config text_behind [] items → Reads bytes version config scripts items
whole bytes rest text_behind version config threads scripts items known_version narrow bytes_short header_found same_threads lines_taken turned = record {
  known = known_version;
  narrow = narrow;
  lines = lines_taken.lines;
  in_range = subst (λ (threads : ℕ). AllByRecursion (IsLine version threads) lines_taken.lines) same_threads lines_taken.in_range;
  turns = turned.turns;
  turns_in_range = turned.in_range;
  spelled = header_found ∙ ap (λ (text : List ℕ). header version config ++ text) (lines_taken.spelled ∙ ap (λ (text : List ℕ). flat_map line lines_taken.lines ++ text) turned.spelled);
  by_thread = lines_taken.by_thread ∙ ap (λ (number : ℕ). scripts_of number lines_taken.lines) same_threads;
  in_order = turned.items;
  short = bytes_short;
}

-- there are no more lines than bytes
pub few_lines : (lines : List TraceLine) → length lines ≤ length (flat_map line lines)
few_lines [] = omega arith
few_lines (first_line ∷ lines) =
    let front = ap length (flat_map-cons line first_line lines) in
    let sizes = length-append (line first_line) (flat_map line lines) in
    let line_length = length-append (decimal first_line.thread) (space ∷ (command_word first_line.command ++ (numbers (numbers_of first_line.command) ++ newline ∷ []))) in
    let later_few = few_lines lines in
    omega (arith, front, sizes, line_length, later_few)

pub few_turns : (turns : List (List Item)) → length turns ≤ length (flat_map schedule_line turns)
few_turns [] = omega arith
few_turns (items ∷ turns) =
    let front = ap length (flat_map-cons schedule_line items turns) in
    let sizes = length-append (schedule_line items) (flat_map schedule_line turns) in
    let later_few = few_turns turns in
    omega (arith, front, sizes, later_few)

-- a line of a command is none of the schedule
pub command_is_no_turn : (version threads : ℕ) (trace_line : TraceLine) (bytes rest : List ℕ) → threads < 2 ^ 64 → IsLine version threads trace_line → bytes ≡ line trace_line ++ rest → IsBehindCommands bytes → ⊥
command_is_no_turn version threads trace_line bytes rest few_threads line_fits same_bytes behind_commands =
    let line_here : line_at version threads bytes ≡ Some (trace_line, rest) = ap (line_at version threads) same_bytes ∙ line_again version threads trace_line rest few_threads line_fits in
    let no_line_there = no_line version threads bytes behind_commands in
    absurd cc
