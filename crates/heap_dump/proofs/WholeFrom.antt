-- A run from a stage of a graph whose machines are all idle in the end: the history, and the answer.
use Rattle.std.proofs.Common.{◌≡◌, ◌⊎◌, inl, inr, ℕ, zero, suc, ◌+◌, ◌-◌, ◌<◌, ◌≤◌, Bool, false, eqb, List, [], ◌∷◌, ◌++◌, length, get_or, map, All, Option, Some, None, refl, sym, ap, ◌∙◌, subst, arith}
use Rattle.std.specs.Prelude.{slice_get, slice_index_or, if◌then◌else◌}
use Rattle.std.specs.Option.{option_map}
use Rattle.std.specs.List.{range_with_len}
use Rattle.std.proofs.lemmas.Bool.{cases_lt}
use Rattle.std.proofs.lemmas.Bool.Decides.{nat_tests}
use Rattle.std.proofs.lemmas.List.{append-nil, ext_get_or, get_or_past}
use Rattle.std.proofs.lemmas.List.Elements.{All-head, All-tail}
use Rattle.std.proofs.lemmas.List.FromFn.{get_or-map-range_with_len}
use Rattle.std.proofs.lemmas.Option.{slice_get-map, slice_get-get_or, get_or_from_slice_get}
use Rattle.shen_graph.proofs.Options.{none_before_map}
use Rattle.heap_words.specs.declared.config.Config.{Config}
use Rattle.heap_words.specs.declared.schedule.Item.{Item}
use Rattle.heap_words.specs.Ranges.{seat_count}
use Rattle.heap_words.specs.Steps.{Stage, Event}
use Rattle.shen_graph.specs.Graph.{Reference, Graph}
use Rattle.shen_graph.specs.GraphText.{Text, Row, names_of, root_of, pin_of, row_in}
use Rattle.shen_graph.specs.Step.{name_in}
use Rattle.shen_graph.specs.Crowd.{AreCrowded}
use Rattle.shen_graph.specs.History.{Entry, after, of_thread, commands_of}
use Rattle.shen_graph.specs.History as history
use Rattle.shen_graph.specs.Work as work
use Rattle.shen_graph.specs.declared.command.Command.{Command}
use Rattle.shen_graph.specs.declared.command.Command.TheVariants.{Gc}
use Rattle.shen_graph.specs.declared.order.Order.{Order}
use Rattle.shen_graph.specs.declared.order.Order.TheVariants.{Nothing}
use Rattle.collector_rows.specs.declared.control_spot.ControlSpot.{ControlSpot}
use Rattle.collector_rows.specs.declared.control_spot.ControlSpot.TheVariants.{StoreWord}
use Rattle.collector_rows.specs.ControlRows.{is_gone}
use Rattle.heap_machines.specs.Pause.{pause_image}
use Rattle.heap_machines.proofs.Pauses.{heap_pauses}
use Rattle.heap_machines.specs.Shown.{no_machine}
use Rattle.heap_machines.specs.Scripts.{HasDoneScript}
use Rattle.heap_machines.proofs.RestedGraph.{entries_at_rest}
use Rattle.step_core.specs.Actor.{Machine, controlling, Actor}
use Rattle.step_core.specs.Schedule.{Scripts, nth_script, turn_of, schedule_events}
use Rattle.step_core.specs.Begun.{begun_by, scripts_begun}
use Rattle.step_core.specs.Settled.{control_number, stored_image, image_read}
use Rattle.step_core.specs.Sound.{IsSound}
use Rattle.step_core.specs.Begins.{Begins, Run}
use Rattle.step_core.proofs.History.Growing.{begun_many, begun_is}
use Rattle.step_core.proofs.Theorem.EveryList.{run_sound}
use Rattle.step_core.specs.Threads.{IsSettled}
use Rattle.heap_world.specs.Shows as texts
use Rattle.heap_world.specs.Rows.{root_rows, pin_rows}
use Rattle.shen_core.specs.declared.plain.Plain.{Plain}
use Rattle.shen_core.specs.State.{machine_at, Shows}
use Rattle.step_core.specs.Machines.{order_by, is_resting}
use Rattle.shen_core.specs.Progress.{Jobs, AreIdle, AllRest}
use Rattle.shen_core.specs.Calls.{HasCalled, AllHaveCalled}
use Rattle.trace_text.specs.Answer.{answer_text}
use Rattle.trace_text.proofs.AnswerLemmas.{answer_text_same}
use Rattle.heap_dump.specs.Resumed.{led_to, history_from, IsWholeFrom, IsAnswerFrom}
use Rattle.heap_dump.specs.RunFromStage.{HasEndedFrom}

-- ---- the entries of each thread

-- a thread that is none has no entry
none_of : (threads : ℕ) (entries : List Entry) (thread : ℕ) → All (IsSettled threads) entries → (thread ≡ 0) ⊎ (threads < thread) → of_thread entries thread ≡ []
none_of threads [] thread all_settled out_of_range = refl
none_of threads (entry ∷ entries) thread all_settled out_of_range = rw (other entry.thread (All-head (IsSettled threads) entry entries all_settled).least (All-head (IsSettled threads) entry entries all_settled).most out_of_range) (none_of threads entries thread (All-tail (IsSettled threads) entry entries all_settled) out_of_range)
  where
    other : (number : ℕ) → 1 ≤ number → number ≤ threads → (thread ≡ 0) ⊎ (threads < thread) → eqb number thread ≡ false
    other number from_one to_last (inl entry) = grind (arith, nat_tests)
    other number from_one to_last (inr thread_past) = grind (arith, nat_tests)

-- a mutator that has called its script has begun these commands
begun_script : (script : List Command) (actor : Actor) → HasDoneScript script actor → begun_by actor ≡ script
begun_script script actor has_done =
    ap (λ (rests : Bool). commands_of actor.calls ++ (if rests then [] else actor.command ∷ [])) has_done.rest ∙ append-nil (commands_of actor.calls) ∙ has_done.commands

-- where all have, the commands that were begun are the scripts
begun_scripts : (config : Config) (scripts : Scripts) (stage : Stage Actor) → length scripts ≡ config.mutators → length stage.machines ≡ seat_count config.mutators config.helpers → AllHaveCalled config scripts stage → scripts_begun config stage ≡ scripts
begun_scripts config scripts stage count seats all_called =
    let script_count : length (scripts_begun config stage) ≡ config.mutators = begun_many config stage seats in
    ext_get_or [] (scripts_begun config stage) scripts (script_count ∙ sym count) (λ any_thread index_within.
    let mutator_below : any_thread < config.mutators = omega (arith, index_within, script_count) in
    let called = all_called any_thread mutator_below in
    begun_is config stage seats any_thread called.actor mutator_below called.here ∙ begun_script (get_or scripts any_thread []) called.actor called.called)

machine_shown : (plain : Plain) (stage : Stage Actor) (index : ℕ) (actor : Actor) → Shows plain stage → slice_get stage.machines index ≡ Some actor → machine_at plain index ≡ actor.machine
machine_shown plain stage index actor shows actor_there =
    sym (ap (λ (machines : List Machine). get_or machines index no_machine) shows.machines_are)
    ∙ get_or_from_slice_get (map (λ (actor : Actor). actor.machine) stage.machines) index actor.machine no_machine (slice_get-map (λ (actor : Actor). actor.machine) stage.machines index ∙ ap (option_map (λ (actor : Actor). actor.machine)) actor_there)

-- an end of the control is no time at which it stores
gone_stores_none : (spot : ControlSpot) (image : List ℕ) → ◌≡◌ {A = Option Order} (if is_gone spot then None else Some Nothing) None → stored_image spot image ≡ None
gone_stores_none (StoreWord index extent) image idle = absurd cc
gone_stores_none _ image idle = refl

-- a machine that is idle stores no image
idle_stores_none : (script : List Command) (calls : List Entry) (machine : Machine) → order_by script calls machine ≡ None → image_read machine ≡ None
idle_stores_none script calls (controlling control) idle = gone_stores_none control.spot control.image idle
idle_stores_none script calls _ idle = refl

-- in the end no image is stored
none_stored : (config : Config) (scripts : Scripts) (stage : Stage Actor) (plain : Plain) → length stage.machines ≡ seat_count config.mutators config.helpers → AreIdle config scripts stage → Shows plain stage → image_read (machine_at plain (control_number config)) ≡ None
none_stored config scripts stage plain seats idle shows =
    let actor : Actor = get_or stage.machines (control_number config) other in
    let control_there : slice_get stage.machines (control_number config) ≡ Some actor = slice_get-get_or stage.machines (control_number config) other (omega (arith, seats)) in
    let no_turn = ap (turn_of scripts (control_number config)) (sym control_there) ∙ idle (control_number config) (omega arith) in
    ap image_read (machine_shown plain stage (control_number config) actor shows control_there)
    ∙ idle_stores_none (nth_script scripts (control_number config)) actor.calls actor.machine (none_before_map _ (order_by (nth_script scripts (control_number config)) actor.calls actor.machine) no_turn)
  where
    other : Actor
    other = record { machine = no_machine; command = Gc; calls = [] }

root_shown : (text : Text) (graph : Graph) (thread other_thread index : ℕ) → 1 ≤ other_thread → other_thread ≤ thread → index < 16 → text.roots ≡ root_rows graph.root thread → root_of text other_thread index ≡ graph.root other_thread index
root_shown text graph thread other_thread index some_thread thread_within index_below roots_same =
    let no_row : List Reference = [] in
    ap (λ (rows : List (List Reference)). get_or (get_or rows (other_thread - 1) no_row) index None) roots_same
    ∙ ap (λ (row : List Reference). get_or row index None) (get_or-map-range_with_len (λ thread. map (graph.root thread) (range_with_len 0 16)) 1 thread (other_thread - 1) other_thread no_row (omega arith) (omega arith))
    ∙ get_or-map-range_with_len (graph.root other_thread) 0 16 index index None index_below (omega arith)

pin_shown : (text : Text) (graph : Graph) (count thread index : ℕ) → 1 ≤ thread → thread ≤ count → index < 4 → text.pins ≡ pin_rows (λ thread slot. name_in (graph.pin thread slot)) count → pin_of text thread index ≡ name_in (graph.pin thread index)
pin_shown text graph count thread index some_thread thread_within index_below pins_same =
    let no_row : List Reference = [] in
    ap (λ (rows : List (List Reference)). get_or (get_or rows (thread - 1) no_row) index None) pins_same
    ∙ ap (λ (row : List Reference). get_or row index None) (get_or-map-range_with_len (λ thread. map (λ slot. name_in (graph.pin thread slot)) (range_with_len 0 4)) 1 count (thread - 1) thread no_row (omega arith) (omega arith))
    ∙ get_or-map-range_with_len (λ slot. name_in (graph.pin thread slot)) 0 4 index index None index_below (omega arith)

text_shown : (threads : ℕ) (jobs : Jobs) (entries : List Entry) (text : Text) (graph : Graph) → length text.roots ≡ threads → texts.ShowsGraph text threads graph
    → ((thread : ℕ) → 1 ≤ thread → thread ≤ threads → work.replies_of jobs (thread - 1) ≡ history.replies_of (of_thread entries thread))
    → answer_text 2 (length text.roots) (λ thread. work.replies_of jobs (thread - 1)) text.rows (root_of text) (pin_of text)
    ≡ answer_text 2 threads (λ thread. history.replies_of (of_thread entries thread)) (map (row_in graph) (names_of text)) graph.root (λ thread slot. name_in (graph.pin thread slot))
text_shown threads jobs entries text graph count shows replies_told =
    let rows : text.rows ≡ map (row_in graph) (names_of text) = shows.rows in
    let pin : ℕ → ℕ → Reference = λ thread slot. name_in (graph.pin thread slot) in
    ap (λ (threads : ℕ). answer_text 2 threads (λ thread. work.replies_of jobs (thread - 1)) text.rows (root_of text) (pin_of text)) count
    ∙ ap (λ (row_list : List Row). answer_text 2 threads (λ thread. work.replies_of jobs (thread - 1)) row_list (root_of text) (pin_of text)) rows
    ∙ answer_text_same 2 threads (λ thread. work.replies_of jobs (thread - 1)) (λ thread. history.replies_of (of_thread entries thread)) (map (row_in graph) (names_of text)) (root_of text) graph.root (pin_of text) pin
    (λ thread low high. replies_told thread (omega arith) (omega arith))
    (λ thread index low high index_below. root_shown text graph threads thread index (omega arith) (omega arith) index_below shows.roots)
    (λ thread index low high index_below. pin_shown text graph threads thread index (omega arith) (omega arith) index_below shows.pins)

module _ (config : Config) (start : Stage Actor) (graph : Graph) (begins : Begins config start graph) where
  -- the run of some events
  abbrev pub run_of : List (Event Order) → Run config
  run_of events = record { start = start; graph = graph; begins = begins; events = events }

  sound : (events : List (Event Order)) → IsSound config graph (led_to config start events) (history_from config start events)
  sound events = run_sound pause_image heap_pauses config (run_of events)

  module _ (scripts : Scripts) (count : length scripts ≡ config.mutators) (events : List (Event Order)) (called : AllHaveCalled config scripts (led_to config start events)) where
    abbrev entries : List Entry
    entries = history_from config start events

    -- the entries of a mutator that has called its script are its calls
    entries_called : (mutator : ℕ) (called_script : HasCalled scripts (led_to config start events) mutator) → of_thread entries (mutator + 1) ≡ called_script.actor.calls
    entries_called mutator called_script = entries_at_rest config (run_of events) mutator called_script.actor called_script.here called_script.called.rest

    crowded : AreCrowded config.regions config.region_words graph scripts entries
    crowded = subst (λ (begun_then : Scripts). AreCrowded config.regions config.region_words graph begun_then entries) (begun_scripts config scripts (led_to config start events) count (sound events).of_heap.machines called) (sound events).crowded

    follows : (thread : ℕ) → commands_of (of_thread entries thread) ≡ history.script_of scripts thread
    follows zero = ap commands_of (none_of config.mutators entries 0 (sound events).entries (inl refl))
    follows (suc mutator) = by_thread (cases_lt mutator config.mutators)
      where
        by_thread : (mutator < config.mutators) ⊎ (config.mutators ≤ mutator) → commands_of (of_thread entries (suc mutator)) ≡ slice_index_or scripts mutator []
        by_thread (inl mutator_below) =
            let called_script = called mutator mutator_below in
            let next_thread : suc mutator ≡ mutator + 1 = omega arith in
            ap (λ (number : ℕ). commands_of (of_thread entries number)) next_thread ∙ ap commands_of (entries_called mutator called_script) ∙ called_script.called.commands
        by_thread (inr past_all) =
            ap commands_of (none_of config.mutators entries (suc mutator) (sound events).entries (inr (omega arith))) ∙ sym (get_or_past scripts mutator [] (omega arith))

    pub whole_from : AreIdle config scripts (led_to config start events) → IsWholeFrom config start graph scripts events
    whole_from idle = record { idle = idle; follows = follows; each = (sound events).legal; crowded = crowded }

  module _ (scripts : Scripts) (count : length scripts ≡ config.mutators) (items : List Item) (limit : ℕ) (jobs : Jobs) (plain : Plain) (has_ended : HasEndedFrom config start scripts items limit jobs plain) where
    abbrev events : List (Event Order)
    events = schedule_events pause_image config scripts items limit start

    pub all_rest_from : AllRest plain
    all_rest_from = record {
      mutators = λ mutator mutator_below.
          let called_script = has_ended.called mutator (subst (λ (config : Config). mutator < config.mutators) has_ended.config mutator_below) in
          ap is_resting (machine_shown plain (led_to config start events) mutator called_script.actor has_ended.shows called_script.here) ∙ called_script.called.rest;
      control = subst (λ (config : Config). image_read (machine_at plain (control_number config)) ≡ None) (sym has_ended.config)
          (none_stored config scripts (led_to config start events) plain (sound events).of_heap.machines has_ended.idle has_ended.shows);
    }

    -- the work has the replies of the history
    replies_shown : (thread : ℕ) → 1 ≤ thread → thread ≤ config.mutators → work.replies_of jobs (thread - 1) ≡ history.replies_of (of_thread (history_from config start events) thread)
    replies_shown thread some_thread thread_within =
        let mutator_below : thread - 1 < config.mutators = omega arith in
        let called_script = has_ended.called (thread - 1) mutator_below in
        let same_thread : thread - 1 + 1 ≡ thread = omega arith in
        has_ended.tells.replies (thread - 1) called_script.actor mutator_below called_script.here
        ∙ sym (ap history.replies_of (ap (of_thread (history_from config start events)) (sym same_thread) ∙ entries_called scripts count events has_ended.called (thread - 1) called_script))

    pub answer_from : (text : Text) → length text.roots ≡ config.mutators → texts.ShowsGraph text config.mutators (after graph (history_from config start events))
        → IsAnswerFrom graph config.mutators (history_from config start events) (answer_text 2 (length text.roots) (λ thread. work.replies_of jobs (thread - 1)) text.rows (root_of text) (pin_of text))
    answer_from text roots shows = record {
      names = names_of text;
      reach = shows.reach;
      text = text_shown config.mutators jobs (history_from config start events) text (after graph (history_from config start events)) roots shows replies_shown;
    }
