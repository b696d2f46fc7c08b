-- What lines of commands and of a schedule give a heap: a script of commands in range for each thread, and items that name its machines.
use Rattle.std.proofs.Common.{◌≡◌, ℕ, ◌+◌, ◌<◌, ◌≤◌, Bool, true, false, cond, eqb, List, [], ◌∷◌, ◌++◌, length, get_or, map, All, sym, ap, subst, arith}
use Rattle.std.specs.Prelude.{filter}
use Rattle.std.specs.List.{flat_map, AllByRecursion}
use Rattle.std.specs.Fmt.{decimal}
use Rattle.std.proofs.lemmas.List.{length-append}
use Rattle.std.proofs.lemmas.List.Elements.{All-from_recursion, All-from_get_or}
use Rattle.std.proofs.lemmas.List.FromFn.{get_or-map-range_with_len, length-map-range_with_len}
use Rattle.shen_graph.specs.declared.command.Command.{Command}
use Rattle.shen_graph.specs.Valid.{IsValid}
use Rattle.heap_words.specs.declared.config.Config.{Config}
use Rattle.heap_words.specs.declared.schedule.Item.{Item}
use Rattle.heap_words.specs.declared.schedule.Item.TheVariants.{Steps, Until, Replies}
use Rattle.shen_core.specs.Progress.{IsInSeats}
use Rattle.trace_reading.specs.Spelling.{TraceLine, IsLine, line, space, newline, command_word, numbers, numbers_of, IsItem, IsScheduleLine}
use Rattle.trace_reading.specs.Grammar.{scripts_of, items_of, commands_in}

-- the commands of lines in range are valid
valid_lines : (version threads : ℕ) (lines : List TraceLine) (thread : ℕ) → AllByRecursion (IsLine version threads) lines → AllByRecursion IsValid (commands_in lines thread)
valid_lines version threads [] thread all_lines = tt
valid_lines version threads (trace_line ∷ lines) thread all_lines = by_thread (eqb trace_line.thread thread) (valid_lines version threads lines thread all_lines.1)
  where
    by_thread : (is_own : Bool) → AllByRecursion IsValid (commands_in lines thread) → AllByRecursion IsValid (map (λ x. x.command) (cond is_own (trace_line ∷ filter (λ x. eqb x.thread thread) lines) (filter (λ x. eqb x.thread thread) lines)))
    by_thread true others_valid = (all_lines.0.valid, others_valid)
    by_thread false others_valid = others_valid

pub count_scripts : (threads : ℕ) (lines : List TraceLine) → length (scripts_of threads lines) ≡ threads
count_scripts threads lines = length-map-range_with_len (commands_in lines) 1 threads

script_at : (threads : ℕ) (lines : List TraceLine) (index : ℕ) → index < threads → get_or (scripts_of threads lines) index [] ≡ commands_in lines (index + 1)
script_at threads lines index index_below =
    let empty_script : List Command = [] in
    get_or-map-range_with_len (commands_in lines) 1 threads index (index + 1) empty_script index_below (omega arith)

pub valid_script : (version threads : ℕ) (lines : List TraceLine) (index : ℕ) → AllByRecursion (IsLine version threads) lines → index < threads → All IsValid (get_or (scripts_of threads lines) index [])
valid_script version threads lines index in_range index_below =
    subst (All IsValid) (sym (script_at threads lines index index_below)) (All-from_recursion IsValid _ (valid_lines version threads lines (index + 1) in_range))

pub valid_scripts : (version threads : ℕ) (lines : List TraceLine) → AllByRecursion (IsLine version threads) lines → All (All IsValid) (scripts_of threads lines)
valid_scripts version threads lines in_range =
    All-from_get_or (All IsValid) (scripts_of threads lines) [] (λ index index_within. let count = count_scripts threads lines in valid_script version threads lines index in_range (omega (arith, index_within, count)))

-- a script has no more commands than its lines have bytes
some_bytes : (trace_line : TraceLine) → 1 ≤ length (line trace_line)
some_bytes trace_line = omega (arith, length-append (decimal trace_line.thread) (space ∷ (command_word trace_line.command ++ (numbers (numbers_of trace_line.command) ++ newline ∷ []))))

few_lines : (lines : List TraceLine) → length lines ≤ length (flat_map line lines)
few_lines [] = omega arith
few_lines (first_line ∷ lines) = omega (arith, few_lines lines, some_bytes first_line, length-append (line first_line) (flat_map line lines))

few_of_thread : (lines : List TraceLine) (thread : ℕ) → length (commands_in lines thread) ≤ length lines
few_of_thread [] thread = omega arith
few_of_thread (trace_line ∷ lines) thread = by_thread (eqb trace_line.thread thread) (few_of_thread lines thread)
  where
    by_thread : (is_own : Bool) → length (commands_in lines thread) ≤ length lines → length (map (λ x. x.command) (cond is_own (trace_line ∷ filter (λ x. eqb x.thread thread) lines) (filter (λ x. eqb x.thread thread) lines))) ≤ length (trace_line ∷ lines)
    by_thread true others_fit = omega arith
    by_thread false others_fit = omega arith

pub short_script : (threads : ℕ) (lines : List TraceLine) (index : ℕ) → index < threads → length (get_or (scripts_of threads lines) index []) ≤ length (flat_map line lines)
short_script threads lines index index_below =
    let script = ap (λ (commands : List Command). length commands) (script_at threads lines index index_below) in
    omega (arith, script, few_of_thread lines (index + 1), few_lines lines)

-- ---- items

in_seats : (config : Config) (item : Item) → IsItem config item → IsInSeats config item
in_seats config (Steps number count) valid_item = valid_item.0
in_seats config (Until number place) valid_item = valid_item
in_seats config (Replies number count) valid_item = valid_item.0

items_append : (config : Config) (xs ys : List Item) → AllByRecursion (IsItem config) xs → AllByRecursion (IsInSeats config) ys → AllByRecursion (IsInSeats config) (xs ++ ys)
items_append config [] ys all_valid others_seated = others_seated
items_append config (item ∷ rest) ys all_valid others_seated = (in_seats config item all_valid.0, items_append config rest ys all_valid.1 others_seated)

turns_in_seats : (config : Config) (turns : List (List Item)) → AllByRecursion (IsScheduleLine config) turns → AllByRecursion (IsInSeats config) (items_of turns)
turns_in_seats config [] all_valid = tt
turns_in_seats config (items ∷ turns) all_valid = items_append config items (items_of turns) all_valid.0.in_range (turns_in_seats config turns all_valid.1)

pub items_in_seats : (config : Config) (turns : List (List Item)) → AllByRecursion (IsScheduleLine config) turns → All (IsInSeats config) (items_of turns)
items_in_seats config turns in_range = All-from_recursion (IsInSeats config) (items_of turns) (turns_in_seats config turns in_range)
