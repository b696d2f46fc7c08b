-- A trace, the line `answer`, and the answer and the text of a history that its threads may have are a pair.
use Rattle.std.proofs.Common.{◌≡◌, ◌⊎◌, ℕ, zero, suc, ◌+◌, ◌*◌, ◌^◌, ◌<◌, ◌≤◌, Bool, true, false, cond, eqb, List, [], ◌∷◌, ◌++◌, length, get_or, map, codes, Option, Some, inl, inr, refl, sym, ap, subst, ◌∙◌, arith}
use Rattle.std.specs.Prelude.{All, Contains, filter}
use Rattle.std.specs.List.{flat_map, AllByRecursion}
use Rattle.std.proofs.lemmas.Bool.{cases_lt}
use Rattle.std.proofs.Math.Nat.{mul-le-mul_right}
use Rattle.std.proofs.lemmas.Bool.Decides.{nat_tests}
use Rattle.std.proofs.lemmas.List.{length-append, get_or_past}
use Rattle.std.proofs.lemmas.List.FromFn.{get_or-map-range_with_len, length-map-range_with_len}
use Rattle.std.proofs.lemmas.List.Elements.{All-contains, All-contains_itself, All-weaker, All-map, All-filter, All-from_recursion, recursion_from_All}
use Rattle.shen_graph.specs.declared.name.Name.{Name}
use Rattle.shen_graph.specs.declared.pin.Pinned.{Pinned}
use Rattle.shen_graph.specs.declared.command.Command.{Command}
use Rattle.shen_graph.specs.Valid.{IsValid}
use Rattle.shen_graph.specs.Graph.{Graph, named, opening}
use Rattle.shen_graph.specs.Reach.{IsReachable, from_root, from_pin, from_field, IsReach}
use Rattle.shen_graph.specs.GraphText.{row_in}
use Rattle.shen_graph.specs.Step.{name_in}
use Rattle.shen_graph.specs.History.{Entry, after, of_thread, commands_of, replies_of, script_of, Follows, EachIsLegal}
use Rattle.heap_words.specs.declared.config.Config.{Config}
use Rattle.heap_words.specs.declared.schedule.Item.{Item}
use Rattle.trace_reading.specs.Spelling.{TraceLine, IsLine, IsKnown, FitsWhenWritten, space, newline, command_word, numbers, numbers_of}
use Rattle.trace_reading.specs.Grammar.{most_bytes, commands_in, Reads}
use Rattle.std.specs.Fmt.{decimal}
use Rattle.shen_graph.proofs.Lists.{element_of_all}
use Rattle.trace_text.specs.Answer.{line_of, reply_word, IsAnswerText}
use Rattle.trace_text.specs.History.{entry_line, history_text}
use Rattle.trace_text.specs.Entries.{FitsReply, IsClaim}
use Rattle.trace_text.specs.Pairs.{IsPair}
use Rattle.trace_text.proofs.SmallGraphs.{IsSmallName, IsSmallReference, IsSmallGraph, IsAsked, opening_small, named_small, history_small}
use Rattle.trace_text.proofs.LinesOfTraces.{trace_cut}
use Rattle.trace_text.proofs.AnswerLines.{AreLines, IsSmallRow, answer_lines, lines_cut}

-- ---- each entry is asked for by a script

abbrev pub Fits : (version : ℕ) → Command → Type 0
Fits version command = IsKnown version command × IsValid command × FitsWhenWritten command

-- an entry's command is among those of its thread
held : (entries : List Entry) (entry : Entry) (index : ℕ) → index < length entries → get_or entries index entry ≡ entry → Contains (commands_of (of_thread entries entry.thread)) entry.command
held [] entry index index_below same_entry = absurd (omega (arith, index_below))
held (first_entry ∷ entries) entry zero index_below same_entry = rw (is_own first_entry.thread entry.thread (ap (λ (entry : Entry). entry.thread) same_entry)) (zero, omega arith, ap (λ (entry : Entry). entry.command) same_entry)
  where
    is_own : (a b : ℕ) → a ≡ b → eqb a b ≡ true
    is_own a b equal = grind (arith, nat_tests)
held (first_entry ∷ entries) entry (suc index) index_below same_entry = by_test (eqb first_entry.thread entry.thread) (held entries entry index (omega (arith, index_below)) same_entry)
  where
    by_test : (test : Bool) → Contains (commands_of (of_thread entries entry.thread)) entry.command → Contains (commands_of (cond test (first_entry ∷ of_thread entries entry.thread) (of_thread entries entry.thread))) entry.command
    by_test true command_there = (suc command_there.0, omega (arith, command_there.1), command_there.2)
    by_test false command_there = command_there

script_fits : (version : ℕ) (config : Config) (lines : List TraceLine) → AllByRecursion (IsLine version config.mutators) lines → (thread : ℕ) → All (Fits version) (commands_in lines thread)
script_fits version config lines all_lines thread =
    let each_fits = All-weaker (IsLine version config.mutators) (λ trace_line. Fits version trace_line.command) (λ trace_line line_is. (line_is.known, line_is.valid, line_is.fits)) lines (All-from_recursion (IsLine version config.mutators) lines all_lines) in
    All-map (Fits version) (λ (line : TraceLine). line.command) (filter (λ trace_line. eqb trace_line.thread thread) lines) (All-filter (λ trace_line. eqb trace_line.thread thread) (λ (line : TraceLine). Fits version line.command) lines each_fits)

-- a thread with a command is one of the trace's
pub record IsOfScript (version : ℕ) (config : Config) (t : ℕ) (command : Command) : Type 0 where
  pub from_one : 1 ≤ t
  pub to_last : t ≤ config.mutators
  pub fits : Fits version command

of_script : (bytes : List ℕ) (version : ℕ) (config : Config) (scripts : List (List Command)) (items : List Item) (mutator : ℕ) (command : Command) → Reads bytes version config scripts items → Contains (script_of scripts mutator) command → IsOfScript version config mutator command
of_script bytes version config scripts items zero command reads command_there = absurd (omega (arith, command_there.1))
of_script bytes version config scripts items (suc mutator) command reads command_there = by_range (cases_lt mutator config.mutators)
  where
    none : List Command
    none = []

    size : length scripts ≡ config.mutators
    size = ap length reads.by_thread ∙ length-map-range_with_len (commands_in reads.lines) 1 config.mutators

    by_range : (mutator < config.mutators) ⊎ (config.mutators ≤ mutator) → IsOfScript version config (suc mutator) command
    by_range (inl low) =
        let script : get_or scripts mutator none ≡ commands_in reads.lines (1 + mutator) = ap (λ (given_scripts : List (List Command)). get_or given_scripts mutator none) reads.by_thread ∙ get_or-map-range_with_len (commands_in reads.lines) 1 config.mutators mutator (1 + mutator) none low refl in
        record {
          from_one = omega arith;
          to_last = omega (arith, low);
          fits = All-contains (Fits version) (get_or scripts mutator none) command (subst (All (Fits version)) (sym script) (script_fits version config reads.lines reads.in_range (1 + mutator))) command_there;
        }
    by_range (inr high) =
        let empty : get_or scripts mutator none ≡ [] = get_or_past scripts mutator none (omega (arith, size, high)) in
        absurd (omega (arith, command_there.1, ap length empty))

entry_asked : (bytes : List ℕ) (version : ℕ) (config : Config) (scripts : List (List Command)) (items : List Item) (entries : List Entry) (entry : Entry) → Reads bytes version config scripts items → Follows scripts entries → Contains entries entry → IsOfScript version config entry.thread entry.command
entry_asked bytes version config scripts items entries entry reads follows entry_there =
    of_script bytes version config scripts items entry.thread entry.command reads (subst (λ (commands : List Command). Contains commands entry.command) (follows entry.thread) (held entries entry entry_there.0 entry_there.1 entry_there.2))

-- each entry has a thread of the trace, and a command of its script
pub each_asked : (bytes : List ℕ) (version : ℕ) (config : Config) (scripts : List (List Command)) (items : List Item) (entries : List Entry) → Reads bytes version config scripts items → Follows scripts entries → All (λ each_entry. IsOfScript version config each_entry.thread each_entry.command) entries
each_asked bytes version config scripts items entries reads follows = All-weaker (Contains entries) (λ each_entry. IsOfScript version config each_entry.thread each_entry.command) (λ entry entry_there. entry_asked bytes version config scripts items entries entry reads follows entry_there) entries (All-contains_itself entries)

-- ---- what is reached is small

reached_small : (most : ℕ) (graph : Graph) (name : Name) → IsSmallGraph most graph → IsReachable graph name → IsSmallName name
reached_small most graph name small (from_root thread root first_name leads) = subst IsSmallReference leads (small.root thread root)
reached_small most graph _ small (from_pin thread slot pin_held leads) = subst (λ (found : Option Pinned). IsSmallReference (name_in found)) leads (small.pin thread slot)
reached_small most graph name small (from_field first_name next_name field reached leads) = element_of_all IsSmallReference (named graph (Some first_name)).refs field _ (named_small most graph (Some first_name) small).refs leads

row_small : (most : ℕ) (graph : Graph) (name : Name) → IsSmallGraph most graph → IsReachable graph name → IsSmallRow (row_in graph name)
row_small most graph name small reached =
    let object = named_small most graph (Some name) small in
    record { name = reached_small most graph name small reached; refs = object.refs; nums = object.nums }

rows_small : (most : ℕ) (graph : Graph) (names : List Name) → IsSmallGraph most graph → IsReach graph names → AllByRecursion IsSmallRow (map (row_in graph) names)
rows_small most graph names small reach =
    recursion_from_All IsSmallRow (map (row_in graph) names) (All-map IsSmallRow (row_in graph) names (All-weaker (Contains names) (λ given_name. IsSmallRow (row_in graph given_name)) (λ name name_there. row_small most graph name small (reach.only name name_there)) names (All-contains_itself names)))

-- ---- the pair

both_claims : (version : ℕ) (config : Config) (entries : List Entry) → All (λ each_entry. IsOfScript version config each_entry.thread each_entry.command) entries → AllByRecursion (λ each_entry. FitsReply each_entry.reply) entries → All (IsClaim version config.mutators) entries
both_claims version config entries asked replies index default index_below =
    let asked_entry = asked index default index_below in
    let reply = All-from_recursion (λ (entry : Entry). FitsReply entry.reply) entries replies index default index_below in
    record { from_one = asked_entry.from_one; to_last = asked_entry.to_last; known = asked_entry.fits.0; valid = asked_entry.fits.1; fits = asked_entry.fits.2; reply = reply }

thread_replies : (entries : List Entry) (thread : ℕ) → AllByRecursion (λ each_entry. FitsReply each_entry.reply) entries → AllByRecursion FitsReply (replies_of (of_thread entries thread))
thread_replies entries thread all_fit =
    recursion_from_All FitsReply (replies_of (of_thread entries thread)) (All-map FitsReply (λ (entry : Entry). entry.reply) (of_thread entries thread) (All-filter (λ each_entry. eqb each_entry.thread thread) (λ (entry : Entry). FitsReply entry.reply) entries (All-from_recursion (λ (entry : Entry). FitsReply entry.reply) entries all_fit)))

line_long : (entry : Entry) → 1 ≤ length (entry_line entry)
line_long entry = let sizes = length-append (decimal entry.thread) (space ∷ ((command_word entry.command ++ numbers (numbers_of entry.command)) ++ (codes " : " ++ (reply_word entry.reply ++ newline ∷ [])))) in omega (arith, sizes)

few_entries : (entries : List Entry) → length entries ≤ length (flat_map entry_line entries)
few_entries [] = omega arith
few_entries (entry ∷ entries) = let others = few_entries entries in let line_nonempty = line_long entry in omega (arith, line_nonempty, others, length-append (entry_line entry) (flat_map entry_line entries))

pub made_pair : (trace body : List ℕ) (version : ℕ) (config : Config) (scripts : List (List Command)) (items : List Item) (entries : List Entry) → Reads trace version config scripts items → EachIsLegal config.regions config.region_words (opening config.mutators) entries → Follows scripts entries → IsAnswerText version config.mutators entries body
    → length (trace ++ (codes "answer\n" ++ (body ++ history_text entries))) ≤ most_bytes → IsPair (trace ++ (codes "answer\n" ++ (body ++ history_text entries))) version config scripts items body entries
made_pair trace body version config scripts items made_entries reads legal follows answer short =
    let behind = body ++ history_text made_entries in
    let asked = each_asked trace version config scripts items made_entries reads follows in
    let few : length made_entries < 2 ^ 32 = few_in_all in
    let small = history_small config.regions config.region_words 0 (opening config.mutators) made_entries room (opening_small config.mutators) legal (recursion_from_All IsAsked made_entries (All-weaker (λ (entry : Entry). IsOfScript version config entry.thread entry.command) IsAsked (λ each_entry is_asked. record { thread = omega (arith, is_asked.to_last, threads_fit); fits = is_asked.fits.2 }) made_entries asked)) (omega (arith, few)) in
    let lines : AreLines body = subst AreLines (sym answer.text) (answer_lines version config.mutators (λ thread_number. replies_of (of_thread made_entries thread_number)) (map (row_in (after (opening config.mutators) made_entries)) answer.names) (after (opening config.mutators) made_entries).root (λ thread slot. name_in ((after (opening config.mutators) made_entries).pin thread slot)) (omega (arith, threads_fit))
    (λ thread. thread_replies made_entries thread small.replies) (rows_small (0 + length made_entries) (after (opening config.mutators) made_entries) answer.names small.graph answer.reach) small.graph.root small.graph.pin) in
    record {
      behind = behind;
      trace = record { trace = trace; cut = trace_cut trace behind version config scripts items reads; reads = reads };
      claims = record { claimed = flat_map entry_line made_entries; cut = lines_cut body (flat_map entry_line made_entries) lines; spelled = refl; in_range = recursion_from_All (IsClaim version config.mutators) made_entries (both_claims version config made_entries asked small.replies) };
      short = short;
    }
  where
    room : (config.regions + 1) * config.region_words ≤ 2 ^ 64
    room =
        let most_words : (config.regions + 1) * config.region_words ≤ 65 * config.region_words = mul-le-mul_right config.region_words (omega (arith, config.in_range.most_regions)) in
        omega (arith, most_words, config.in_range.most_words)

    threads_fit : config.mutators < 2 ^ 32
    threads_fit = omega (arith, config.in_range.most_mutators)

    few_in_all : length made_entries < 2 ^ 32
    few_in_all =
        let entries = few_entries made_entries in
        let trace_split = length-append trace (codes "answer\n" ++ (body ++ history_text made_entries)) in
        let body_split = length-append body (history_text made_entries) in
        let history_split = length-append (line_of (codes "history" ∷ [])) (flat_map entry_line made_entries) in
        omega (arith, entries, trace_split, body_split, history_split, short)
