-- A trace whose machines are all idle in the end: the history, and the answer.
use Rattle.std.proofs.Common.{◌≡◌, ◌⊎◌, inl, inr, ℕ, zero, suc, ◌+◌, ◌-◌, ◌<◌, ◌≤◌, Bool, false, eqb, List, [], ◌∷◌, ◌++◌, length, get_or, map, All, Option, Some, None, refl, sym, ap, ◌∙◌, subst, arith}
use Rattle.std.specs.Prelude.{slice_get, slice_index_or, if◌then◌else◌}
use Rattle.std.specs.Option.{option_map}
use Rattle.std.specs.List.{range_with_len}
use Rattle.std.proofs.lemmas.Bool.{cases_lt}
use Rattle.std.proofs.lemmas.Bool.Decides.{nat_tests}
use Rattle.std.proofs.lemmas.List.{append-nil, ext_get_or, get_or_past}
use Rattle.std.proofs.lemmas.List.Elements.{All-head, All-tail}
use Rattle.std.proofs.lemmas.List.FromFn.{get_or-map-range_with_len}
use Rattle.std.proofs.lemmas.Option.{slice_get-map, slice_get-get_or, get_or_from_slice_get}
use Rattle.shen_graph.proofs.Options.{none_before_map}
use Rattle.heap_words.specs.declared.config.Config.{Config}
use Rattle.heap_words.specs.declared.schedule.Item.{Item}
use Rattle.heap_words.specs.Ranges.{seat_count}
use Rattle.heap_words.specs.Steps.{Stage, Event}
use Rattle.shen_graph.specs.Graph.{Reference, Graph, opening as graph_opening}
use Rattle.shen_graph.specs.GraphText.{Text, Row, names_of, root_of, pin_of, row_in}
use Rattle.shen_graph.specs.Step.{name_in}
use Rattle.shen_graph.specs.Crowd.{AreCrowded}
use Rattle.shen_graph.specs.History.{Entry, after, of_thread, commands_of, EachIsLegal}
use Rattle.shen_graph.specs.History as history
use Rattle.shen_graph.specs.Work as work
use Rattle.shen_graph.specs.declared.command.Command.{Command}
use Rattle.shen_graph.specs.declared.command.Command.TheVariants.{Gc}
use Rattle.shen_graph.specs.declared.order.Order.{Order}
use Rattle.shen_graph.specs.declared.order.Order.TheVariants.{Nothing}
use Rattle.collector_rows.specs.declared.control_spot.ControlSpot.{ControlSpot}
use Rattle.collector_rows.specs.declared.control_spot.ControlSpot.TheVariants.{StoreWord}
use Rattle.collector_rows.specs.ControlRows.{is_gone}
use Rattle.heap_machines.specs.Pause.{pause_image}
use Rattle.heap_machines.proofs.Pauses.{heap_pauses}
use Rattle.heap_machines.specs.Shown.{no_machine}
use Rattle.heap_machines.specs.Scripts.{HasDoneScript}
use Rattle.heap_machines.proofs.RestedGraph.{entries_at_rest}
use Rattle.step_core.specs.Actor.{Machine, controlling, Actor}
use Rattle.step_core.specs.Schedule.{Scripts, nth_script, turn_of}
use Rattle.step_core.specs.Begun.{begun_by, scripts_begun}
use Rattle.step_core.specs.Settled.{control_number, stored_image, image_read}
use Rattle.step_core.specs.Sound.{IsSound}
use Rattle.step_core.specs.Begins.{first_graph, reached, past}
use Rattle.step_core.proofs.Theorem.FirstFacts.{opening_run}
use Rattle.step_core.proofs.History.Growing.{begun_many, begun_is}
use Rattle.step_core.proofs.Theorem.EveryList.{every_list}
use Rattle.step_core.specs.Threads.{IsSettled}
use Rattle.heap_world.specs.Shows as texts
use Rattle.heap_world.specs.Rows.{root_rows, pin_rows}
use Rattle.shen_core.specs.declared.plain.Plain.{Plain}
use Rattle.shen_core.specs.State.{machine_at, Shows}
use Rattle.step_core.specs.Machines.{order_by, is_resting}
use Rattle.shen_core.specs.Progress.{Jobs, AreIdle, AllRest}
use Rattle.shen_core.specs.Calls.{HasCalled, AllHaveCalled}
use Rattle.trace_reading.specs.Grammar.{Reads}
use Rattle.trace_text.specs.Answer.{answer_text}
use Rattle.trace_text.specs.History.{history_text}
use Rattle.trace_text.proofs.AnswerLemmas.{answer_text_same}
use Rattle.trace_runs.specs.Replayed.{events_of, history_of, end_of, IsWhole, IsReplayed, IsReplayedNoted}
use Rattle.trace_runs.specs.Running.{HasFinished}

-- ---- the entries of each thread

-- the entries of a mutator that has called its script are its calls
pub entries_called : (config : Config) (scripts : Scripts) (events : List (Event Order)) (mutator : ℕ) → (called : HasCalled scripts (reached pause_image config events) mutator) → of_thread (past pause_image config events) (mutator + 1) ≡ called.actor.calls
entries_called config scripts events mutator called = entries_at_rest config (opening_run config events) mutator called.actor called.here called.called.rest

-- a thread that is none has no entry
none_of : (threads : ℕ) (entries : List Entry) (thread : ℕ) → All (IsSettled threads) entries → (thread ≡ 0) ⊎ (threads < thread) → of_thread entries thread ≡ []
none_of threads [] thread all_settled outside = refl
none_of threads (entry ∷ entries) thread all_settled outside = rw (other entry.thread (All-head (IsSettled threads) entry entries all_settled).least (All-head (IsSettled threads) entry entries all_settled).most outside) (none_of threads entries thread (All-tail (IsSettled threads) entry entries all_settled) outside)
  where
    other : (entry_thread : ℕ) → 1 ≤ entry_thread → entry_thread ≤ threads → (thread ≡ 0) ⊎ (threads < thread) → eqb entry_thread thread ≡ false
    other entry_thread thread_least thread_most (inl entry) = grind (arith, nat_tests)
    other entry_thread thread_least thread_most (inr thread_past) = grind (arith, nat_tests)

-- ---- the whole history

-- what holds of the end
end_sound : (config : Config) (events : List (Event Order)) → IsSound config (first_graph config) (reached pause_image config events) (past pause_image config events)
end_sound config events = every_list pause_image heap_pauses config events

-- a mutator that has called its script has begun these commands
begun_script : (script : List Command) (actor : Actor) → HasDoneScript script actor → begun_by actor ≡ script
begun_script script actor has_done =
    ap (λ (rests : Bool). commands_of actor.calls ++ (if rests then [] else actor.command ∷ [])) has_done.rest ∙ append-nil (commands_of actor.calls) ∙ has_done.commands

-- where all have, the commands that were begun are the scripts
begun_scripts : (config : Config) (scripts : Scripts) (stage : Stage Actor) → length scripts ≡ config.mutators → length stage.machines ≡ seat_count config.mutators config.helpers → AllHaveCalled config scripts stage → scripts_begun config stage ≡ scripts
begun_scripts config scripts stage count seats all_called =
    let same_count : length (scripts_begun config stage) ≡ config.mutators = begun_many config stage seats in
    ext_get_or [] (scripts_begun config stage) scripts (same_count ∙ sym count) (λ mutator mutator_within.
    let mutator_below : mutator < config.mutators = omega (arith, mutator_within, same_count) in
    let called = all_called mutator mutator_below in
    begun_is config stage seats mutator called.actor mutator_below called.here ∙ begun_script (get_or scripts mutator []) called.actor called.called)

pub whole : (config : Config) (scripts : Scripts) (events : List (Event Order)) → length scripts ≡ config.mutators → AreIdle config scripts (reached pause_image config events) → AllHaveCalled config scripts (reached pause_image config events) → IsWhole config scripts events
whole config scripts events count idle all_called = record { idle = idle; follows = follows; legal = record { each = each; crowded = crowded } }
  where
    sound : IsSound config (first_graph config) (reached pause_image config events) (past pause_image config events)
    sound = end_sound config events

    each : EachIsLegal config.regions config.region_words (graph_opening (length scripts)) (past pause_image config events)
    each = subst (λ (n : ℕ). EachIsLegal config.regions config.region_words (graph_opening n) (past pause_image config events)) (sym count) sound.legal

    crowded : AreCrowded config.regions config.region_words (graph_opening (length scripts)) scripts (past pause_image config events)
    crowded =
        subst (λ (n : ℕ). AreCrowded config.regions config.region_words (graph_opening n) scripts (past pause_image config events)) (sym count)
        (subst (λ (begun_then : Scripts). AreCrowded config.regions config.region_words (first_graph config) begun_then (past pause_image config events))
        (begun_scripts config scripts (reached pause_image config events) count sound.of_heap.machines all_called) sound.crowded)

    follows : (thread : ℕ) → commands_of (of_thread (past pause_image config events) thread) ≡ history.script_of scripts thread
    follows zero = ap commands_of (none_of config.mutators (past pause_image config events) 0 sound.entries (inl refl))
    follows (suc mutator) = by_thread (cases_lt mutator config.mutators)
      where
        by_thread : (mutator < config.mutators) ⊎ (config.mutators ≤ mutator) → commands_of (of_thread (past pause_image config events) (suc mutator)) ≡ slice_index_or scripts mutator []
        by_thread (inl mutator_below) =
            let called = all_called mutator mutator_below in
            let same_successor : suc mutator ≡ mutator + 1 = omega arith in
            ap (λ (n : ℕ). commands_of (of_thread (past pause_image config events) n)) same_successor ∙ ap commands_of (entries_called config scripts (events) mutator called) ∙ called.called.commands
        by_thread (inr past_all) =
            ap commands_of (none_of config.mutators (past pause_image config events) (suc mutator) sound.entries (inr (omega arith))) ∙ sym (get_or_past scripts mutator [] (omega arith))

-- ---- memory in the end

machine_shown : (plain : Plain) (stage : Stage Actor) (index : ℕ) (actor : Actor) → Shows plain stage → slice_get stage.machines index ≡ Some actor → machine_at plain index ≡ actor.machine
machine_shown plain stage index actor shows machine_there =
    sym (ap (λ (given_machines : List Machine). get_or given_machines index no_machine) shows.machines_are)
    ∙ get_or_from_slice_get (map (λ (actor : Actor). actor.machine) stage.machines) index actor.machine no_machine (slice_get-map (λ (actor : Actor). actor.machine) stage.machines index ∙ ap (option_map (λ (actor : Actor). actor.machine)) machine_there)

-- an end of the control is no time at which it stores
gone_stores_none : (spot : ControlSpot) (image : List ℕ) → ◌≡◌ {A = Option Order} (if is_gone spot then None else Some Nothing) None → stored_image spot image ≡ None
gone_stores_none (StoreWord index extent) image idle = absurd cc
gone_stores_none _ image idle = refl

-- a machine that is idle stores no image
idle_stores_none : (script : List Command) (calls : List Entry) (machine : Machine) → order_by script calls machine ≡ None → image_read machine ≡ None
idle_stores_none script calls (controlling control) idle = gone_stores_none control.spot control.image idle
idle_stores_none script calls _ idle = refl

-- in the end no image is stored
none_stored : (config : Config) (scripts : Scripts) (stage : Stage Actor) (plain : Plain) → length stage.machines ≡ seat_count config.mutators config.helpers → AreIdle config scripts stage → Shows plain stage → image_read (machine_at plain (control_number config)) ≡ None
none_stored config scripts stage plain seats idle shows =
    let actor : Actor = get_or stage.machines (control_number config) other in
    let machine_there : slice_get stage.machines (control_number config) ≡ Some actor = slice_get-get_or stage.machines (control_number config) other (omega (arith, seats)) in
    let no_turn = ap (turn_of scripts (control_number config)) (sym machine_there) ∙ idle (control_number config) (omega arith) in
    ap image_read (machine_shown plain stage (control_number config) actor shows machine_there)
    ∙ idle_stores_none (nth_script scripts (control_number config)) actor.calls actor.machine (none_before_map _ (order_by (nth_script scripts (control_number config)) actor.calls actor.machine) no_turn)
  where
    other : Actor
    other = record { machine = no_machine; command = Gc; calls = [] }

pub all_rest : (config : Config) (scripts : Scripts) (items : List Item) (limit : ℕ) (jobs : Jobs) (plain : Plain) → HasFinished config scripts items limit jobs plain → AllRest plain
all_rest config scripts items limit jobs plain has_finished = record {
  mutators = λ mutator mutator_below.
      let called = has_finished.called mutator (subst (λ (config : Config). mutator < config.mutators) has_finished.config mutator_below) in
      ap is_resting (machine_shown plain (end_of config scripts items limit) mutator called.actor has_finished.shows called.here) ∙ called.called.rest;
  control = subst (λ (config : Config). image_read (machine_at plain (control_number config)) ≡ None) (sym has_finished.config)
      (none_stored config scripts (end_of config scripts items limit) plain (end_sound config (events_of config scripts items limit)).of_heap.machines has_finished.idle has_finished.shows);
}

-- the work has the replies of the history
replies_shown : (config : Config) (scripts : Scripts) (items : List Item) (limit : ℕ) (jobs : Jobs) (plain : Plain) → HasFinished config scripts items limit jobs plain → (thread : ℕ) → 1 ≤ thread → thread ≤ config.mutators
    → work.replies_of jobs (thread - 1) ≡ history.replies_of (of_thread (history_of config scripts items limit) thread)
replies_shown config scripts items limit jobs plain has_finished thread some_thread thread_at_most =
    let mutator_below : thread - 1 < config.mutators = omega arith in
    let called = has_finished.called (thread - 1) mutator_below in
    let thread_back : thread - 1 + 1 ≡ thread = omega arith in
    has_finished.tells.replies (thread - 1) called.actor mutator_below called.here
    ∙ sym (ap history.replies_of (ap (of_thread (history_of config scripts items limit)) (sym thread_back) ∙ entries_called config scripts (events_of config scripts items limit) (thread - 1) called))

-- ---- the text

root_shown : (text : Text) (graph : Graph) (thread asked_thread index : ℕ) → 1 ≤ asked_thread → asked_thread ≤ thread → index < 16 → text.roots ≡ root_rows graph.root thread → root_of text asked_thread index ≡ graph.root asked_thread index
root_shown text graph thread asked_thread index some_thread asked_at_most index_below same_rows =
    let no_row : List Reference = [] in
    ap (λ (rows : List (List Reference)). get_or (get_or rows (asked_thread - 1) no_row) index None) same_rows
    ∙ ap (λ (row : List Reference). get_or row index None) (get_or-map-range_with_len (λ thread. map (graph.root thread) (range_with_len 0 16)) 1 thread (asked_thread - 1) asked_thread no_row (omega arith) (omega arith))
    ∙ get_or-map-range_with_len (graph.root asked_thread) 0 16 index index None index_below (omega arith)

pin_shown : (text : Text) (graph : Graph) (thread_count thread index : ℕ) → 1 ≤ thread → thread ≤ thread_count → index < 4 → text.pins ≡ pin_rows (λ thread slot. name_in (graph.pin thread slot)) thread_count → pin_of text thread index ≡ name_in (graph.pin thread index)
pin_shown text graph thread_count thread index some_thread thread_at_most index_below same_rows =
    let no_row : List Reference = [] in
    ap (λ (rows : List (List Reference)). get_or (get_or rows (thread - 1) no_row) index None) same_rows
    ∙ ap (λ (row : List Reference). get_or row index None) (get_or-map-range_with_len (λ thread. map (λ slot. name_in (graph.pin thread slot)) (range_with_len 0 4)) 1 thread_count (thread - 1) thread no_row (omega arith) (omega arith))
    ∙ get_or-map-range_with_len (λ slot. name_in (graph.pin thread slot)) 0 4 index index None index_below (omega arith)

pub text_shown : (version threads : ℕ) (jobs : Jobs) (entries : List Entry) (text : Text) → length text.roots ≡ threads → texts.ShowsGraph text threads (after (graph_opening threads) entries)
    → ((thread : ℕ) → 1 ≤ thread → thread ≤ threads → work.replies_of jobs (thread - 1) ≡ history.replies_of (of_thread entries thread))
    → answer_text version (length text.roots) (λ thread. work.replies_of jobs (thread - 1)) text.rows (root_of text) (pin_of text)
    ≡ answer_text version threads (λ thread. history.replies_of (of_thread entries thread)) (map (row_in (after (graph_opening threads) entries)) (names_of text)) (after (graph_opening threads) entries).root (λ thread slot. name_in ((after (graph_opening threads) entries).pin thread slot))
text_shown version threads jobs entries text count shows told_replies =
    let end_graph = after (graph_opening threads) entries in
    let rows : text.rows ≡ map (row_in end_graph) (names_of text) = shows.rows in
    let pin : ℕ → ℕ → Reference = λ thread slot. name_in (end_graph.pin thread slot) in
    ap (λ (threads : ℕ). answer_text version threads (λ thread. work.replies_of jobs (thread - 1)) text.rows (root_of text) (pin_of text)) count
    ∙ ap (λ (given_rows : List Row). answer_text version threads (λ thread. work.replies_of jobs (thread - 1)) given_rows (root_of text) (pin_of text)) rows
    ∙ answer_text_same version threads (λ thread. work.replies_of jobs (thread - 1)) (λ thread. history.replies_of (of_thread entries thread)) (map (row_in end_graph) (names_of text)) (root_of text) end_graph.root (pin_of text) pin
    (λ thread low high. told_replies thread (omega arith) (omega arith))
    (λ thread index low high index_below. root_shown text end_graph threads thread index (omega arith) (omega arith) index_below shows.roots)
    (λ thread index low high index_below. pin_shown text end_graph threads thread index (omega arith) (omega arith) index_below shows.pins)

pub replayed : (bytes : List ℕ) (version : ℕ) (config : Config) (scripts : Scripts) (items : List Item) (limit : ℕ) (jobs : Jobs) (plain : Plain) (text : Text)
    → Reads bytes version config scripts items → length scripts ≡ config.mutators → HasFinished config scripts items limit jobs plain → length text.roots ≡ config.mutators → texts.ShowsGraph text config.mutators (after (first_graph config) (history_of config scripts items limit))
    → IsReplayed bytes limit (answer_text version (length text.roots) (λ thread. work.replies_of jobs (thread - 1)) text.rows (root_of text) (pin_of text))
replayed bytes version config scripts items limit jobs plain text reads count has_finished roots shows = record {
  version = version;
  config = config;
  scripts = scripts;
  items = items;
  reads = reads;
  whole = whole config scripts (events_of config scripts items limit) count has_finished.idle has_finished.called;
  text = record { names = names_of text; reach = shows.reach; text = text_shown version config.mutators jobs (history_of config scripts items limit) text roots shows (replies_shown config scripts items limit jobs plain has_finished) };
}

-- the same, with the history behind it
pub replayed_noted : (bytes : List ℕ) (version : ℕ) (config : Config) (scripts : Scripts) (items : List Item) (limit : ℕ) (jobs : Jobs) (plain : Plain) (text : Text) (noted : List Entry)
    → Reads bytes version config scripts items → length scripts ≡ config.mutators → HasFinished config scripts items limit jobs plain → length text.roots ≡ config.mutators → texts.ShowsGraph text config.mutators (after (first_graph config) (history_of config scripts items limit))
    → noted ≡ history_of config scripts items limit → IsReplayedNoted bytes limit (answer_text version (length text.roots) (λ thread. work.replies_of jobs (thread - 1)) text.rows (root_of text) (pin_of text) ++ history_text noted)
unfolding replayed
replayed_noted bytes version config scripts items limit jobs plain text noted reads count has_finished roots shows noted_is = record {
  version = version;
  config = config;
  scripts = scripts;
  items = items;
  reads = reads;
  whole = whole config scripts (events_of config scripts items limit) count has_finished.idle has_finished.called;
  answer = answer_text version (length text.roots) (λ thread. work.replies_of jobs (thread - 1)) text.rows (root_of text) (pin_of text);
  text = (replayed bytes version config scripts items limit jobs plain text reads count has_finished roots shows).text;
  out_is = ap (λ any_history. answer_text version (length text.roots) (λ thread. work.replies_of jobs (thread - 1)) text.rows (root_of text) (pin_of text) ++ history_text any_history) noted_is;
}
