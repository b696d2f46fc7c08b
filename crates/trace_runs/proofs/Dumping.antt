-- The graph at the end of a trace has a dump.
use Rattle.std.proofs.Common.{◌≡◌, ◌⊎◌, inl, inr, ℕ, zero, suc, ◌+◌, ◌<◌, ◌≤◌, ◌&&◌, Bool, true, false, cond, eqb, List, [], ◌∷◌, length, get_or, All, refl, sym, ap, ◌∙◌, subst, arith}
use Rattle.std.proofs.lemmas.Bool.{cases_lt}
use Rattle.std.proofs.lemmas.List.{length-map, get_or_past}
use Rattle.std.proofs.lemmas.List.Sums.{sum_by-cons}
use Rattle.std.proofs.lemmas.List.Elements.{All-weaker}
use Rattle.heap_words.specs.declared.config.Config.{Config}
use Rattle.heap_words.specs.declared.schedule.Item.{Item}
use Rattle.heap_words.specs.Steps.{Event}
use Rattle.shen_graph.specs.declared.command.Command.{Command}
use Rattle.shen_graph.specs.declared.command.Command.TheVariants.{Wr}
use Rattle.shen_graph.specs.Valid.{FitsValue}
use Rattle.shen_graph.specs.declared.order.Order.{Order}
use Rattle.shen_graph.specs.Graph.{opening as graph_opening}
use Rattle.shen_graph.specs.GraphText.{Text}
use Rattle.shen_graph.specs.History.{Entry, after, of_thread, script_of, EachIsLegal}
use Rattle.heap_machines.specs.Pause.{pause_image}
use Rattle.step_core.specs.Begins.{first_graph, past}
use Rattle.step_core.specs.Schedule.{Scripts}
use Rattle.heap_world.specs.Shows.{ShowsGraph}
use Rattle.shen_core.specs.declared.plain.Plain.{Plain}
use Rattle.shen_core.specs.Progress.{Jobs}
use Rattle.trace_reading.specs.Spelling.{FitsWhenWritten}
use Rattle.trace_reading.specs.Grammar.{most_bytes, Reads}
use Rattle.trace_text.proofs.MadePairs.{IsOfScript, each_asked}
use Rattle.heap_dump.specs.ObjectsMade.{is_allocation, is_name_reply, has_made, objects_made, objects_made_by_each, IsEntryInRange, IsDumpable}
use Rattle.heap_dump.specs.Dumped.{Dumped, IsDumpOf}
use Rattle.heap_dump.specs.DumpText.{dump_text}
use Rattle.trace_runs.specs.Replayed.{events_of, history_of, IsWhole, IsReplayedToDump}
use Rattle.trace_runs.specs.Running.{HasFinished}
use Rattle.trace_runs.proofs.Scripts.{count_scripts, short_script}
use Rattle.trace_runs.proofs.Whole.{whole}

-- a thread has made no more objects than it has entries
made_few : (entries : List Entry) (thread : ℕ) → objects_made entries thread ≤ length (of_thread entries thread)
made_few [] thread = omega arith
made_few (first_entry ∷ entries) thread =
    subst (λ (n : ℕ). n ≤ length (of_thread (first_entry ∷ entries) thread)) (sym (sum_by-cons (λ (entry : Entry). cond (has_made thread entry) 1 0) first_entry entries))
    (by_test (eqb first_entry.thread thread) (is_allocation first_entry.command && is_name_reply first_entry.reply) (made_few entries thread))
  where
    by_test : (own_entry makes : Bool) → objects_made entries thread ≤ length (of_thread entries thread) → cond (own_entry && makes) 1 0 + objects_made entries thread ≤ length (cond own_entry (first_entry ∷ of_thread entries thread) (of_thread entries thread))
    by_test true true later_made = omega arith
    by_test true false later_made = omega arith
    by_test false makes later_made = omega arith

fits_value : (command : Command) → FitsWhenWritten command → FitsValue command
fits_value (Wr obj index value) fits = fits
fits_value _ fits = tt

in_range : (version : ℕ) (config : Config) (entries : List Entry) → All (λ any_entry. IsOfScript version config any_entry.thread any_entry.command) entries → All (IsEntryInRange config.mutators) entries
in_range version config entries entries_asked =
    All-weaker (λ (entry : Entry). IsOfScript version config entry.thread entry.command) (IsEntryInRange config.mutators) (λ any_entry entry_facts. record { from_first = entry_facts.from_one; to_last = entry_facts.to_last; valid = entry_facts.fits.1; fits = fits_value any_entry.command entry_facts.fits.2 }) entries entries_asked

short_of : (bytes : List ℕ) (version : ℕ) (config : Config) (scripts : Scripts) (items : List Item) (mutator : ℕ) → Reads bytes version config scripts items → length (script_of scripts mutator) ≤ most_bytes
short_of bytes version config scripts items zero reads = omega arith
short_of bytes version config scripts items (suc mutator) reads = by_thread (cases_lt mutator config.mutators)
  where
    none : List Command
    none = []

    by_thread : (mutator < config.mutators) ⊎ (config.mutators ≤ mutator) → length (get_or scripts mutator []) ≤ most_bytes
    by_thread (inl mutator_below) = short_script bytes version config scripts items mutator reads mutator_below
    by_thread (inr past_all) =
        let count = count_scripts bytes version config scripts items reads in
        let empty = ap (λ (commands : List Command). length commands) (get_or_past scripts mutator none (omega (arith, count, past_all))) in
        omega (arith, empty)

-- the history of a trace that comes to an end has a dump
dumpable : (bytes : List ℕ) (version : ℕ) (config : Config) (scripts : Scripts) (items : List Item) (events : List (Event Order)) → Reads bytes version config scripts items → IsWhole config scripts events → IsDumpable config (past pause_image config events)
dumpable bytes version config scripts items events reads whole = record {
  each = subst (λ (n : ℕ). EachIsLegal config.regions config.region_words (graph_opening n) h) (count_scripts bytes version config scripts items reads) whole.legal.each;
  entries = in_range version config h (each_asked bytes version config scripts items h reads whole.follows);
  few = λ thread.
      let same_length = ap (λ (commands : List Command). length commands) (whole.follows thread) in
      omega (arith, made_few h thread, length-map (of_thread h thread) (λ (entry : Entry). entry.command), same_length, short_of bytes version config scripts items thread reads);
}
  where
    h : List Entry
    h = past pause_image config events

module _ (bytes : List ℕ) (version : ℕ) (config : Config) (scripts : Scripts) (items : List Item) (limit : ℕ) (jobs : Jobs) (plain : Plain) (noted : List Entry) (reads : Reads bytes version config scripts items) (finished : HasFinished config scripts items limit jobs plain) (same_noted : noted ≡ history_of config scripts items limit) where
  whole_of : IsWhole config scripts (events_of config scripts items limit)
  whole_of = whole config scripts (events_of config scripts items limit) (count_scripts bytes version config scripts items reads) finished.idle finished.called

  pub noted_dumpable : IsDumpable config noted
  noted_dumpable = subst (IsDumpable config) (sym same_noted) (dumpable bytes version config scripts items (events_of config scripts items limit) reads whole_of)

  pub noted_shown : (text : Text) → ShowsGraph text config.mutators (after (first_graph config) (history_of config scripts items limit)) → ShowsGraph text config.mutators (after (graph_opening config.mutators) noted)
  noted_shown text shows = subst (λ (entries : List Entry). ShowsGraph text config.mutators (after (graph_opening config.mutators) entries)) (sym same_noted) shows

  pub replayed_to_dump : (dump : Dumped) → IsDumpOf config (after (graph_opening config.mutators) noted) dump → dump.counts ≡ objects_made_by_each noted config.mutators → IsReplayedToDump bytes limit (dump_text dump)
  replayed_to_dump dump dump_shows same_counts = record {
    version = version;
    config = config;
    scripts = scripts;
    items = items;
    reads = reads;
    whole = whole_of;
    dump = dump;
    is = subst (λ (entries : List Entry). IsDumpOf config (after (graph_opening config.mutators) entries) dump) same_noted dump_shows;
    counts = same_counts ∙ ap (λ (entries : List Entry). objects_made_by_each entries config.mutators) same_noted;
    text = refl;
  }
