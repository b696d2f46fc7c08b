-- What a trace gives its heap: commands in range, and items that name its machines.
use Rattle.std.proofs.Common.{◌≡◌, ℕ, ◌+◌, ◌*◌, ◌<◌, ◌≤◌, List, [], ◌++◌, length, get_or, drop, All, sym, ap, subst, ◌∙◌, arith}
use Rattle.std.specs.Prelude.{sum_by}
use Rattle.std.specs.List.{flat_map}
use Rattle.std.proofs.lemmas.List.{length-append}
use Rattle.std.proofs.lemmas.List.Sums.{sum_by-le, sum_by-drop_more}
use Rattle.std.proofs.lemmas.List.Elements.{All-from_get_or}
use Rattle.shen_graph.specs.declared.command.Command.{Command}
use Rattle.shen_graph.specs.Valid.{IsValid, most_objects}
use Rattle.heap_words.specs.declared.config.Config.{Config}
use Rattle.heap_words.specs.declared.schedule.Item.{Item}
use Rattle.shen_core.specs.Progress.{IsInSeats, IsRunnable}
use Rattle.trace_reading.specs.Spelling.{line, header, schedule_line}
use Rattle.trace_reading.specs.Grammar.{most_bytes, Reads}
use Rattle.heap_dump.proofs.ScriptLines as lines

pub count_scripts : (bytes : List ℕ) (version : ℕ) (config : Config) (scripts : List (List Command)) (items : List Item) → Reads bytes version config scripts items → length scripts ≡ config.mutators
count_scripts bytes version config scripts items reads = ap length reads.by_thread ∙ lines.count_scripts config.mutators reads.lines

-- a script has no more commands than a trace has bytes, so fewer than there are names
pub short_script : (bytes : List ℕ) (version : ℕ) (config : Config) (scripts : List (List Command)) (items : List Item) (mutator : ℕ) → Reads bytes version config scripts items → mutator < config.mutators → length (get_or scripts mutator []) ≤ most_bytes
short_script bytes version config scripts items mutator reads mutator_below =
    let no_commands : List Command = [] in
    let same_length = ap (λ (given_scripts : List (List Command)). length (get_or given_scripts mutator no_commands)) reads.by_thread in
    let commands = flat_map line reads.lines in
    let turns = flat_map schedule_line reads.turns in
    omega (arith, same_length, lines.short_script config.mutators reads.lines mutator mutator_below, reads.short, ap length reads.spelled, length-append (header version config) (commands ++ turns), length-append commands turns)

pub runnable_scripts : (bytes : List ℕ) (version : ℕ) (config : Config) (scripts : List (List Command)) (items : List Item) → Reads bytes version config scripts items → All IsRunnable scripts
runnable_scripts bytes version config scripts items reads = All-from_get_or IsRunnable scripts [] (λ mutator mutator_within.
    let no_commands : List Command = [] in
    let count = count_scripts bytes version config scripts items reads in
    let thread_below : mutator < config.mutators = omega (arith, mutator_within, count) in
    let few_commands = short_script bytes version config scripts items mutator reads thread_below in
    (subst (λ (given_scripts : List (List Command)). All IsValid (get_or given_scripts mutator no_commands)) (sym reads.by_thread) (lines.valid_script version config.mutators reads.lines mutator reads.in_range thread_below), omega (arith, few_commands)))

-- and all scripts together fewer than a machine word counts
pub few_in_all : (bytes : List ℕ) (version : ℕ) (config : Config) (scripts : List (List Command)) (items : List Item) → Reads bytes version config scripts items → sum_by length scripts ≤ 34359738360
few_in_all bytes version config scripts items reads =
    let total : sum_by length scripts ≤ length scripts * most_objects = sum_by-le length most_objects scripts (λ index default_script index_below. let few_commands = (runnable_scripts bytes version config scripts items reads index default_script index_below).1 in omega (arith, few_commands)) in
    let count = count_scripts bytes version config scripts items reads in
    omega (arith, total, count)

-- a loop that has come to a script, and to the next one
pub one_script_more : (scripts : List (List Command)) (index commands : ℕ) (script : List Command) → index < length scripts → commands + sum_by length (drop index scripts) ≡ sum_by length scripts
    → commands + length (get_or scripts index script) + sum_by length (drop (index + 1) scripts) ≡ sum_by length scripts
one_script_more scripts index commands script index_below so_far = let next_sum = sum_by-drop_more length scripts index script index_below in omega (arith, next_sum, so_far)

pub items_in_seats : (bytes : List ℕ) (version : ℕ) (config : Config) (scripts : List (List Command)) (items : List Item) → Reads bytes version config scripts items → All (IsInSeats config) items
items_in_seats bytes version config scripts items reads = subst (All (IsInSeats config)) (sym reads.in_order) (lines.items_in_seats config reads.turns reads.turns_in_range)
