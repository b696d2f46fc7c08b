-- The text of a trace is one of its spellings.
use Rattle.std.proofs.lemmas.Bool.{ne_eqb}
use Rattle.std.proofs.Common.{◌≡◌, ◌≢◌, ℕ, zero, suc, ◌+◌, ◌<◌, ◌≤◌, eqb, List, [], ◌∷◌, ◌++◌, length, map, get_or, take, refl, sym, ap, subst, ◌∙◌, append_assoc, append-nil, add-one, arith}
use Rattle.std.specs.Prelude.{filter}
use Rattle.std.specs.List.{flat_map, range_with_len, AllByRecursion}
use Rattle.std.proofs.lemmas.List.{map-append, take_all}
use Rattle.std.proofs.lemmas.List.Elements.{filter-append}
use Rattle.std.proofs.lemmas.List.Concat.{flat_map-append}
use Rattle.std.proofs.lemmas.List.Folds.{flat_map-map}
use Rattle.shen_graph.proofs.Numbers.{eqb_itself}
use Rattle.shen_graph.specs.declared.command.Command.{Command}
use Rattle.heap_words.specs.declared.config.Config.{Config}
use Rattle.heap_words.specs.declared.schedule.Item.{Item}
use Rattle.trace_reading.specs.Spelling.{newline, TraceLine, line, spaced_item, schedule_line, IsItem, IsScheduleLine}
use Rattle.trace_reading.specs.Grammar.{commands_in, scripts_of, items_of, Reads}
use Rattle.trace_text.proofs.AnswerLemmas.{flat_map-take_more}
use Rattle.trace_text.specs.Canonical.{lines_of, lines_from, turns_of, spelling_of, IsWritable}

-- ---- each thread has its script

commands_in-append : (lines later_lines : List TraceLine) (thread : ℕ) → commands_in (lines ++ later_lines) thread ≡ commands_in lines thread ++ commands_in later_lines thread
commands_in-append lines later_lines thread =
    let of_thread = λ (some_line : TraceLine). eqb some_line.thread thread in
    ap (map (λ (trace_line : TraceLine). trace_line.command)) (filter-append of_thread lines later_lines) ∙ map-append (λ (trace_line : TraceLine). trace_line.command) (filter of_thread lines) (filter of_thread later_lines)

own_lines : (thread : ℕ) (script : List Command) → commands_in (lines_of thread script) thread ≡ script
own_lines thread [] = refl
own_lines thread (command ∷ script) = rw (eqb_itself thread) (ap (λ (commands : List Command). command ∷ commands) (own_lines thread script))

other_lines : (thread other_thread : ℕ) (script : List Command) → thread ≢ other_thread → commands_in (lines_of thread script) other_thread ≡ []
other_lines thread other_thread [] threads_differ = refl
other_lines thread other_thread (command ∷ script) threads_differ = rw (ne_eqb thread other_thread threads_differ) (other_lines thread other_thread script threads_differ)

-- threads before the first one have no line
no_lines : (first_thread thread : ℕ) (scripts : List (List Command)) → thread < first_thread → commands_in (lines_from first_thread scripts) thread ≡ []
no_lines first_thread thread [] thread_below = refl
no_lines first_thread thread (script ∷ scripts) thread_below =
    let threads_differ : first_thread ≢ thread = λ same_thread. absurd (omega arith) in
    commands_in-append (lines_of first_thread script) (lines_from (first_thread + 1) scripts) thread
    ∙ ap (λ (commands : List Command). commands ++ commands_in (lines_from (first_thread + 1) scripts) thread) (other_lines first_thread thread script threads_differ)
    ∙ no_lines (first_thread + 1) thread scripts (omega arith)

pub map-range_same : {X : Type 0} (f h : ℕ → X) (from count : ℕ) → ((number : ℕ) → from ≤ number → f number ≡ h number) → map f (range_with_len from count) ≡ map h (range_with_len from count)
map-range_same f h from zero same_each = refl
map-range_same {X} f h from (suc count) same_each =
    let same_first : f from ≡ h from = same_each from (omega arith) in
    let others : (number : ℕ) → from + 1 ≤ number → f number ≡ h number = λ number low. same_each number (omega arith) in
    ap (λ (t : X). t ∷ map f (range_with_len (from + 1) count)) same_first
    ∙ ap (λ (t : List X). h from ∷ t) (map-range_same f h (from + 1) count others)

-- the lines of the scripts are those of these scripts
scripts_again : (first_thread : ℕ) (scripts : List (List Command)) → map (commands_in (lines_from first_thread scripts)) (range_with_len first_thread (length scripts)) ≡ scripts
scripts_again first_thread [] = refl
scripts_again first_thread (script ∷ scripts) =
    let all_lines = lines_from first_thread (script ∷ scripts) in
    let others = lines_from (first_thread + 1) scripts in
    let own_script : commands_in all_lines first_thread ≡ script =
    commands_in-append (lines_of first_thread script) others first_thread
    ∙ ap (λ (commands : List Command). commands ++ commands_in others first_thread) (own_lines first_thread script)
    ∙ ap (λ (commands : List Command). script ++ commands) (no_lines (first_thread + 1) first_thread scripts (omega arith)) ∙ append-nil script in
    let later_scripts : (thread : ℕ) → first_thread + 1 ≤ thread → commands_in all_lines thread ≡ commands_in others thread = λ thread low.
    let threads_differ : first_thread ≢ thread = λ same_thread. absurd (omega arith) in
    commands_in-append (lines_of first_thread script) others thread ∙ ap (λ (commands : List Command). commands ++ commands_in others thread) (other_lines first_thread thread script threads_differ) in
    ap (λ (script : List Command). script ∷ map (commands_in all_lines) (range_with_len (first_thread + 1) (length scripts))) own_script
    ∙ ap (λ (script_list : List (List Command)). script ∷ script_list)
    (map-range_same (commands_in all_lines) (commands_in others) (first_thread + 1) (length scripts) later_scripts ∙ scripts_again (first_thread + 1) scripts)

-- ---- the schedule has its items

turns_fit : (config : Config) (items : List Item) → AllByRecursion (IsItem config) items → AllByRecursion (IsScheduleLine config) (turns_of items)
turns_fit config [] all_items = tt
turns_fit config (item ∷ items) all_items = (record { some = omega arith; in_range = all_items }, tt)

items_again : (items : List Item) → items ≡ items_of (turns_of items)
items_again [] = refl
items_again (item ∷ items) = sym (append-nil (item ∷ items))

-- ---- the text is read as the trace

pub reads_again : (version : ℕ) (config : Config) (scripts : List (List Command)) (items : List Item) → IsWritable version config scripts items → Reads (spelling_of version config scripts items) version config scripts items
reads_again version config scripts items writable = record {
  known = writable.known;
  narrow = writable.narrow;
  lines = lines_from 1 scripts;
  in_range = writable.lines_fit;
  turns = turns_of items;
  turns_in_range = turns_fit config items writable.items_fit;
  spelled = refl;
  by_thread = sym (subst (λ (n : ℕ). scripts_of n (lines_from 1 scripts) ≡ scripts) writable.threads (scripts_again 1 scripts));
  in_order = items_again items;
  short = writable.short;
}

-- ---- what is put in turn

-- each item fits
pub each_fits : (config : Config) (items : List Item) (index : ℕ) (item : Item) → index < length items → AllByRecursion (IsItem config) items → IsItem config (get_or items index item)
each_fits config [] index item index_below all_items = absurd (omega arith)
each_fits config (first_item ∷ items) zero item index_below all_items = all_items.0
each_fits config (first_item ∷ items) (suc index) item index_below all_items = each_fits config items index item (omega arith) all_items.1

-- a line more of a thread
pub line_more : (thread : ℕ) (script : List Command) (index : ℕ) (command : Command) → index < length script
    → flat_map line (lines_of thread (take index script)) ++ line (record { thread = thread; command = get_or script index command }) ≡ flat_map line (lines_of thread (take (index + 1) script))
line_more thread script index command index_below =
    let command_line = λ (other_command : Command). line (record { thread = thread; command = other_command }) in
    let as_lines = λ (commands : List Command). flat_map-map line (λ (command : Command). record { thread = thread; command = command }) commands in
    ap (λ (bytes : List ℕ). bytes ++ command_line (get_or script index command)) (as_lines (take index script)) ∙ flat_map-take_more command_line script index command index_below ∙ sym (as_lines (take (index + 1) script))

-- the lines of one script more
lines_more : (first_thread index : ℕ) (scripts : List (List Command)) (script : List Command) → index < length scripts
    → lines_from first_thread (take (suc index) scripts) ≡ lines_from first_thread (take index scripts) ++ lines_of (first_thread + index) (get_or scripts index script)
lines_more first_thread index [] script index_below = absurd (omega arith)
lines_more first_thread zero (script ∷ scripts) otherwise index_below =
    let same_thread : first_thread ≡ first_thread + 0 = omega arith in
    append-nil (lines_of first_thread script) ∙ ap (λ (thread : ℕ). lines_of thread script) same_thread
lines_more first_thread (suc index) (script ∷ scripts) otherwise index_below =
    let later : first_thread + 1 + index ≡ first_thread + suc index = omega arith in
    ap (λ (trace_lines : List TraceLine). lines_of first_thread script ++ trace_lines) (lines_more (first_thread + 1) index scripts otherwise (omega arith))
    ∙ sym (append_assoc (lines_of first_thread script) (lines_from (first_thread + 1) (take index scripts)) (lines_of (first_thread + 1 + index) (get_or scripts index otherwise)))
    ∙ ap (λ (thread : ℕ). (lines_of first_thread script ++ lines_from (first_thread + 1) (take index scripts)) ++ lines_of thread (get_or scripts index otherwise)) later

-- one script more of a trace
pub script_more : (scripts : List (List Command)) (index : ℕ) (script : List Command) → index < length scripts
    → flat_map line (lines_from 1 (take index scripts)) ++ flat_map line (lines_of (index + 1) (get_or scripts index script)) ≡ flat_map line (lines_from 1 (take (index + 1) scripts))
script_more scripts index script index_below =
    let same_number : 1 + index ≡ index + 1 = omega arith in
    sym (ap (λ (n : ℕ). flat_map line (lines_from 1 (take n scripts))) (add-one index)
    ∙ ap (flat_map line) (lines_more 1 index scripts script index_below ∙ ap (λ (thread : ℕ). lines_from 1 (take index scripts) ++ lines_of thread (get_or scripts index script)) same_number)
    ∙ flat_map-append line (lines_from 1 (take index scripts)) (lines_of (index + 1) (get_or scripts index script)))

-- all scripts of a trace
pub all_scripts : (scripts : List (List Command)) (count : ℕ) → length scripts ≤ count → flat_map line (lines_from 1 (take count scripts)) ≡ flat_map line (lines_from 1 scripts)
all_scripts scripts count all_taken = ap (λ (script_list : List (List Command)). flat_map line (lines_from 1 script_list)) (take_all count scripts all_taken)

-- the line of a schedule that has an item
pub one_line : (items : List Item) → 1 ≤ length items → 33 ∷ (flat_map spaced_item items ++ newline ∷ []) ≡ flat_map schedule_line (turns_of items)
one_line [] positive = absurd (omega arith)
one_line (item ∷ items) positive = sym (append-nil (schedule_line (item ∷ items)))
