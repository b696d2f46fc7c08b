-- What a trace gives its judge.
use Rattle.std.proofs.Common.{◌≡◌, ℕ, ◌+◌, ◌<◌, ◌≤◌, Bool, true, false, cond, eqb, List, [], ◌∷◌, ◌++◌, length, get_or, map, All, sym, ap, subst, ◌∙◌, arith}
use Rattle.std.specs.Prelude.{filter}
use Rattle.std.specs.List.{flat_map, AllByRecursion}
use Rattle.std.proofs.lemmas.List.{length-append}
use Rattle.std.proofs.lemmas.List.Elements.{All-from_recursion, All-from_get_or}
use Rattle.std.proofs.lemmas.List.FromFn.{get_or-map-range_with_len, length-map-range_with_len}
use Rattle.shen_graph.specs.declared.command.Command.{Command}
use Rattle.shen_graph.specs.Valid.{IsValid, most_objects}
use Rattle.heap_words.specs.declared.config.Config.{Config}
use Rattle.heap_words.specs.declared.schedule.Item.{Item}
use Rattle.trace_reading.specs.Spelling.{TraceLine, IsLine, line, header, schedule_line}
use Rattle.trace_reading.specs.Grammar.{Reads}
use Rattle.trace_reading.specs.Grammar as grammar
use Rattle.trace_reading.proofs.Traces.{few_lines}
use Rattle.shen_check.specs.Judged.{CanBeJudged}

-- the commands of lines in range are valid
valid_lines : (version threads : ℕ) (lines : List TraceLine) (thread : ℕ) → AllByRecursion (IsLine version threads) lines → AllByRecursion IsValid (grammar.commands_in lines thread)
valid_lines version threads [] thread all_lines = tt
valid_lines version threads (trace_line ∷ lines) thread all_lines = by_thread (eqb trace_line.thread thread) (valid_lines version threads lines thread all_lines.1)
  where
    by_thread : (is_own : Bool) → AllByRecursion IsValid (grammar.commands_in lines thread) → AllByRecursion IsValid (map (λ x. x.command) (cond is_own (trace_line ∷ filter (λ x. eqb x.thread thread) lines) (filter (λ x. eqb x.thread thread) lines)))
    by_thread true others = (all_lines.0.valid, others)
    by_thread false others = others

pub count_scripts : (bytes : List ℕ) (version : ℕ) (config : Config) (scripts : List (List Command)) (items : List Item) → Reads bytes version config scripts items → length scripts ≡ config.mutators
count_scripts bytes version config scripts items reads = ap length reads.by_thread ∙ length-map-range_with_len (grammar.commands_in reads.lines) 1 config.mutators

script_at : (bytes : List ℕ) (version : ℕ) (config : Config) (scripts : List (List Command)) (items : List Item) (mutator : ℕ) → (reads : Reads bytes version config scripts items) → mutator < config.mutators → get_or scripts mutator [] ≡ grammar.commands_in reads.lines (mutator + 1)
script_at bytes version config scripts items mutator reads mutator_below =
    let no_commands : List Command = [] in
    ap (λ (script_list : List (List Command)). get_or script_list mutator no_commands) reads.by_thread ∙ get_or-map-range_with_len (grammar.commands_in reads.lines) 1 config.mutators mutator (mutator + 1) no_commands mutator_below (omega arith)

pub valid_scripts : (bytes : List ℕ) (version : ℕ) (config : Config) (scripts : List (List Command)) (items : List Item) → Reads bytes version config scripts items → All (All IsValid) scripts
valid_scripts bytes version config scripts items reads = All-from_get_or (All IsValid) scripts [] (λ mutator within.
    let thread_below : mutator < config.mutators = omega (arith, within, count_scripts bytes version config scripts items reads) in
    subst (All IsValid) (sym (script_at bytes version config scripts items mutator reads thread_below)) (All-from_recursion IsValid _ (valid_lines version config.mutators reads.lines (mutator + 1) reads.in_range)))

-- a trace has fewer commands than there are numbers for names
short_script : (lines : List TraceLine) (thread : ℕ) → length (grammar.commands_in lines thread) ≤ length lines
short_script [] thread = omega arith
short_script (trace_line ∷ lines) thread = by_thread (eqb trace_line.thread thread) (short_script lines thread)
  where
    by_thread : (is_own : Bool) → length (grammar.commands_in lines thread) ≤ length lines → length (map (λ x. x.command) (cond is_own (trace_line ∷ filter (λ x. eqb x.thread thread) lines) (filter (λ x. eqb x.thread thread) lines))) ≤ length (trace_line ∷ lines)
    by_thread true others = omega arith
    by_thread false others = omega arith

few_commands : (bytes : List ℕ) (version : ℕ) (config : Config) (scripts : List (List Command)) (items : List Item) (mutator : ℕ) → Reads bytes version config scripts items → mutator < config.mutators → length (get_or scripts mutator []) < most_objects
few_commands bytes version config scripts items mutator reads mutator_below =
    let script = ap length (script_at bytes version config scripts items mutator reads mutator_below) in
    let lines = flat_map line reads.lines in
    let turns = flat_map schedule_line reads.turns in
    omega (arith, script, short_script reads.lines (mutator + 1), few_lines reads.lines, reads.short, ap length reads.spelled, length-append (header version config) (lines ++ turns), length-append lines turns)

pub can_be_judged : (bytes : List ℕ) (version : ℕ) (config : Config) (scripts : List (List Command)) (items : List Item) → Reads bytes version config scripts items → CanBeJudged config scripts
can_be_judged bytes version config scripts items reads = record {
  count = count_scripts bytes version config scripts items reads;
  valid = valid_scripts bytes version config scripts items reads;
  few = All-from_get_or (λ (script : List Command). length script < most_objects) scripts [] (λ mutator within.
      few_commands bytes version config scripts items mutator reads (omega (arith, within, count_scripts bytes version config scripts items reads)));
}
