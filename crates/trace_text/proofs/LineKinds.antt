-- A line by itself: which kind it is, and what is read of it.
use Rattle.std.proofs.lemmas.Option.{same_Some}
use Rattle.std.proofs.Common.{◌≡◌, ◌⊎◌, ℕ, zero, suc, ◌^◌, ◌<◌, ◌≤◌, Bool, true, false, List, [], ◌∷◌, ◌++◌, length, set, Option, Some, None, Result, Ok, Err, inl, inr, refl, sym, ap, subst, ◌∙◌, append_assoc, append-nil, arith}
use Rattle.std.specs.Prelude.{OnOk}
use Rattle.std.specs.Option.{IsSome, option_map}
use Rattle.std.specs.Result.{is_ok}
use Rattle.std.specs.List.{flat_map}
use Rattle.std.proofs.lemmas.Bool.{false≢true}
use Rattle.std.specs.Fmt.{decimal}
use Rattle.std.proofs.lemmas.List.Concat.{flat_map-cons}
use Rattle.shen_graph.proofs.Lists.{same_before_end}
use Rattle.heap_words.specs.declared.config.Config.{Config}
use Rattle.heap_words.specs.declared.schedule.Item.{Item}
use Rattle.shen_graph.specs.declared.command.Command.{Command}
use Rattle.trace_reading.specs.Spelling.{newline, numbers, TraceLine, line, IsLine, command_word, numbers_of, items_and_end, schedule_line, IsScheduleLine}
use Rattle.trace_reading.specs.Scanning.{behind}
use Rattle.trace_reading.specs.Front.{IsBehindCommands}
use Rattle.trace_reading.specs.Grammar.{items_of}
use Rattle.trace_reading.proofs.GrammarNumbers.{behind_takes, behind_again, positive_again}
use Rattle.trace_reading.proofs.GrammarLines.{command_again_at}
use Rattle.trace_reading.proofs.Traces.{lines_once, turns_behind, command_is_no_turn}
use Rattle.trace_reading.proofs.Once.{turns_once}
use Rattle.trace_reading.specs.Causes.{parts}
use Rattle.trace_reading.specs.Refused.{body_stage, words_cause, IsCommandLine, IsTurnItem}
use Rattle.trace_reading.proofs.Leads.{few_threads, commands_follow, turns_follow}
use Rattle.trace_reading.specs.Stops.{HasReadBody}
use Rattle.trace_text.specs.LinesTaken.{IsCommandText, IsItemsText, spelled_line}

heads : (head other_head : ℕ) (tail other_tail : List ℕ) → head ∷ tail ≡ other_head ∷ other_tail → (head ≡ other_head) × (tail ≡ other_tail)
heads head other_head tail other_tail same_list = (cc, cc)

-- ---- the mark of the schedule

marked : (text rest : List ℕ) → text ++ newline ∷ [] ≡ 33 ∷ rest → (later_bytes : List ℕ) × (text ≡ 33 ∷ later_bytes)
marked [] rest same_text = absurd (let newline_is_mark = (heads 10 33 [] rest same_text).0 in omega (arith, newline_is_mark))
marked (first_byte ∷ later_bytes) rest same_text = (later_bytes, ap (λ (given_byte : ℕ). given_byte ∷ later_bytes) (heads first_byte 33 (later_bytes ++ newline ∷ []) rest same_text).0)

no_mark : (text later_bytes : List ℕ) → behind (33 ∷ []) text ≡ None → text ≡ 33 ∷ later_bytes → ⊥
no_mark text later_bytes not_marked text_is =
    let marked_again = behind_again (33 ∷ []) later_bytes in
    let same_behind = ap (behind (33 ∷ [])) text_is in
    absurd cc

turn_is_marked : (config : Config) (text : List ℕ) → behind (33 ∷ []) text ≡ None → IsTurnItem config text → ⊥
turn_is_marked config text not_marked turn_item = let mark = marked text (items_and_end turn_item.0) turn_item.2 in no_mark text mark.0 not_marked mark.1

-- a line with no cause against it and without the mark is that of a command
pub is_command : (version : ℕ) (config : Config) (scheduled : Bool) (text : List ℕ) → words_cause (body_stage version config scheduled) (parts 32 text) ≡ None → behind (33 ∷ []) text ≡ None → (scheduled ≡ false) × IsCommandText version config text
is_command version config true text no_cause mark = absurd (turn_is_marked config text mark (turns_follow config text no_cause))
is_command version config false text no_cause mark = by_kind (commands_follow version config text no_cause)
  where
    by_kind : IsCommandLine version config text ⊎ IsTurnItem config text → (false ≡ false) × IsCommandText version config text
    by_kind (inl line_is) = (refl, line_is)
    by_kind (inr line_is) = absurd (turn_is_marked config text mark line_is)

command_is_unmarked : (version : ℕ) (config : Config) (text rest : List ℕ) → behind (33 ∷ []) text ≡ Some rest → IsCommandLine version config text → ⊥
command_is_unmarked version config text rest mark command_line =
    let text_is : text ≡ 33 ∷ rest = behind_takes (33 ∷ []) text rest mark in
    let front : IsBehindCommands (text ++ newline ∷ []) = subst (λ (given_text : List ℕ). IsBehindCommands (given_text ++ newline ∷ [])) (sym text_is) refl in
    command_is_no_turn version config.mutators command_line.0 (text ++ newline ∷ []) [] (few_threads config) command_line.1 (command_line.2 ∙ sym (append-nil (line command_line.0))) front

-- and with it, one of the schedule
pub is_items : (version : ℕ) (config : Config) (scheduled : Bool) (text rest : List ℕ) → words_cause (body_stage version config scheduled) (parts 32 text) ≡ None → behind (33 ∷ []) text ≡ Some rest → IsItemsText config text
is_items version config true text rest no_cause mark = turns_follow config text no_cause
is_items version config false text rest no_cause mark = by_kind (commands_follow version config text no_cause)
  where
    by_kind : IsCommandLine version config text ⊎ IsTurnItem config text → IsItemsText config text
    by_kind (inl line_is) = absurd (command_is_unmarked version config text rest mark line_is)
    by_kind (inr line_is) = line_is

-- ---- what is read

abbrev words_of : TraceLine → List ℕ
words_of trace_line = command_word trace_line.command ++ (numbers (numbers_of trace_line.command) ++ [])

line_text : (trace_line : TraceLine) → line trace_line ≡ (decimal trace_line.thread ++ 32 ∷ words_of trace_line) ++ newline ∷ []
line_text trace_line =
    let word = command_word trace_line.command in
    let spelled_numbers = numbers (numbers_of trace_line.command) in
    let inner : word ++ (spelled_numbers ++ newline ∷ []) ≡ words_of trace_line ++ newline ∷ [] =
    ap (λ (given_text : List ℕ). word ++ (given_text ++ newline ∷ [])) (sym (append-nil spelled_numbers)) ∙ sym (append_assoc word (spelled_numbers ++ []) (newline ∷ [])) in
    ap (λ (given_text : List ℕ). decimal trace_line.thread ++ 32 ∷ given_text) inner ∙ sym (append_assoc (decimal trace_line.thread) (32 ∷ words_of trace_line) (newline ∷ []))

spelled_again : (version threads : ℕ) (trace_line : TraceLine) → threads < 2 ^ 64 → IsLine version threads trace_line → spelled_line version threads (decimal trace_line.thread ++ 32 ∷ words_of trace_line) ≡ Some trace_line
unfolding spelled_line
spelled_again version threads trace_line small fits =
    rw (positive_again threads trace_line.thread (32 ∷ words_of trace_line) fits.from_one fits.to_last small refl, command_again_at version trace_line.command [] fits.known fits.valid fits.fits tt) refl

pub command_read : (version : ℕ) (config : Config) (text : List ℕ) → (command_text : IsCommandText version config text) → spelled_line version config.mutators text ≡ Some command_text.0
command_read version config text command_text =
    let command_line = command_text.0 in
    let same_text : text ≡ decimal command_line.thread ++ 32 ∷ words_of command_line = same_before_end text (decimal command_line.thread ++ 32 ∷ words_of command_line) newline (command_text.2 ∙ line_text command_line) in
    ap (spelled_line version config.mutators) same_text ∙ spelled_again version config.mutators command_line (few_threads config) command_text.1

pub items_read : (version : ℕ) (config : Config) (text bytes : List ℕ) (scripts : List (List Command)) (items : List Item) → IsItemsText config text → bytes ≡ text ++ newline ∷ [] → HasReadBody version config bytes scripts items → IsScheduleLine config items × (text ++ newline ∷ [] ≡ schedule_line items)
items_read version config text bytes scripts items items_text same_bytes body =
    let one_turn : List (List Item) = items_text.0 ∷ [] in
    let alone : flat_map schedule_line one_turn ≡ schedule_line items_text.0 = flat_map-cons schedule_line items_text.0 [] ∙ append-nil (schedule_line items_text.0) in
    let both_texts : flat_map line body.lines ++ flat_map schedule_line body.turns ≡ flat_map line [] ++ flat_map schedule_line one_turn = sym body.spelled ∙ same_bytes ∙ items_text.2 ∙ sym alone in
    let lines = lines_once version config.mutators body.lines [] (flat_map schedule_line body.turns) (flat_map schedule_line one_turn) (few_threads config) body.in_range tt (turns_behind body.turns) (turns_behind one_turn) both_texts in
    let turns = turns_once config body.turns one_turn body.turns_in_range (items_text.1, tt) lines.1 in
    let items_same : items ≡ items_text.0 = body.in_order ∙ ap items_of turns ∙ (flat_map-cons (λ (given_items : List Item). given_items) items_text.0 [] ∙ append-nil items_text.0) in
    (subst (IsScheduleLine config) (sym items_same) items_text.1, items_text.2 ∙ ap schedule_line (sym items_same))

-- ---- in memory

abbrev line_from : ℕ × Command → TraceLine
line_from read_pair = record { thread = read_pair.0; command = read_pair.1 }

pub read_some : (found : Option (ℕ × Command)) (trace_line : TraceLine) → option_map line_from found ≡ Some trace_line → IsSome found
read_some (Some read_pair) trace_line found = refl
read_some None trace_line found = absurd cc

pub read_is : (found : Option (ℕ × Command)) (read_pair : ℕ × Command) (trace_line : TraceLine) → found ≡ Some read_pair → option_map line_from found ≡ Some trace_line → line_from read_pair ≡ trace_line
read_is found read_pair trace_line found_is line_found = same_Some (line_from read_pair) trace_line (sym (ap (option_map line_from) found_is) ∙ line_found)

-- no list is changed behind its end
pub set_past : (scripts : List (List Command)) (index : ℕ) (script : List Command) → length scripts ≤ index → set scripts index script ≡ scripts
set_past [] zero script index_past = refl
set_past [] (suc index) script index_past = refl
set_past (first_script ∷ scripts) zero script index_past = absurd (omega (arith, index_past))
set_past (first_script ∷ scripts) (suc index) script index_past = ap (λ (given_scripts : List (List Command)). first_script ∷ given_scripts) (set_past scripts index script (omega (arith, index_past)))

pub on_ok : {T E P : Type 0} (result : Result T E) → is_ok result ≡ true → OnOk result P → P
on_ok (Ok value) result_ok holds_then = holds_then
on_ok (Err failure) result_ok holds_then = absurd (false≢true result_ok)
