-- What the next step of a machine settles, as memory sees it, is what its event settles in each run that leads to what memory shows.
use Rattle.std.proofs.Common.{◌≡◌, ◌≢◌, ◌<◌, ◌⊎◌, inl, inr, ℕ, ◌+◌, Bool, true, false, ◌&&◌, List, [], ◌∷◌, ◌++◌, length, Option, Some, None, refl, sym, ap, ◌∙◌, subst, append_assoc, arith}
use Rattle.std.specs.Prelude.{nat_lt, slice_get, slice_index, slice_index_or, ◌==◌, if◌then◌else◌}
use Rattle.std.specs.Option.{option_map}
use Rattle.std.proofs.Math.Bool.{Bool-set}
use Rattle.std.proofs.Math.Logic.{∥∥₁_elim}
use Rattle.std.proofs.lemmas.Bool.{cases_eq, lt-ltb}
use Rattle.std.proofs.lemmas.List.{length-append, append-nil}
use Rattle.std.proofs.lemmas.Option.{same_Some, slice_get-map, get_or_from_slice_get}
use Rattle.heap_words.proofs.Lists.{slice_get-set_other, slice_get-set_same}
use Rattle.heap_words.specs.declared.config.Config.{Config}
use Rattle.heap_words.specs.Access.{table_index}
use Rattle.heap_words.specs.Words.{Word, Answer, Phase, Cset, IsWord, view, image_start, table_words}
use Rattle.heap_words.specs.Rows.{name_of}
use Rattle.heap_words.proofs.Named.{are_named}
use Rattle.heap_words.specs.Steps.{Stage, Event, act, go, moved}
use Rattle.heap_words.proofs.Laws.{act_cases, machines_other}
use Rattle.heap_words.proofs.Runs.{go-none, go-first, go-step}
use Rattle.shen_graph.specs.declared.command.Command.{Command}
use Rattle.shen_graph.specs.declared.command.Reply.{Reply}
use Rattle.shen_graph.specs.declared.command.Reply.TheVariants as reply
use Rattle.shen_graph.specs.declared.order.Order.{Order}
use Rattle.shen_graph.specs.declared.order.Order.TheVariants.{Nothing, Begin, End, Hint}
use Rattle.shen_graph.specs.History.{of_thread}
use Rattle.handshake.specs.Standing.{is_within, is_pausing}
use Rattle.mutator.specs.declared.spot.Spot.{Spot}
use Rattle.mutator.specs.declared.spot.Spot.TheVariants.{Rest, Ended, Gone, Loading, OnField, OnNumber, Pinning}
use Rattle.mutator.specs.Orders.{is_between_calls, takes_commands, takes_at}
use Rattle.mutator.specs.Rows.{Mutating, next_at, next_of}
use Rattle.mutator.specs.Told.{told_at, told_of}
use Rattle.collector_rows.specs.HelperRows.{Helping}
use Rattle.collector_rows.specs.declared.control_spot.ControlSpot.{ControlSpot}
use Rattle.collector_rows.specs.Extent.{Counting}
use Rattle.collector_rows.specs.declared.control_spot.ControlSpot.TheVariants.{StoreWord}
use Rattle.collector_rows.specs.ControlRows.{Controlling}
use Rattle.heap_machines.specs.Pause.{pause_image}
use Rattle.heap_machines.proofs.Pauses.{heap_pauses}
use Rattle.heap_machines.specs.Settles.{reply_settled, command_in, refused_word, refused_at, refused_by}
use Rattle.heap_machines.specs.Shown.{no_machine}
use Rattle.step_core.specs.Actor.{Machine, mutating, helping, controlling, Actor, entries_of, command_by}
use Rattle.step_core.specs.Machines.{takes_of, plan_of, machine_after, told_word, told_storing, command_at, kind, is_mutating, is_resting, HasNumber, IsIdle}
use Rattle.step_core.specs.Settled.{settled, settled_by, stored_image, image_read, image_of, control_number}
use Rattle.step_core.specs.Standing.{standing_at, control_standing}
use Rattle.step_core.specs.Pausing.{IsInPause}
use Rattle.step_core.specs.Begins.{Run, ending, history_in}
use Rattle.step_core.specs.History.{told, told_by, told_of_machine, history}
use Rattle.step_core.specs.Sound.{IsMutator, IsSound, AreCalls}
use Rattle.step_core.proofs.Theorem.EveryList.{run_sound, run_pauses}
use Rattle.step_core.proofs.History.Entries.{own_more}
use Rattle.shen_core.specs.Runs.{event, WordsShow, IsShownBySomeRun}
use Rattle.shen_core.proofs.Events.{shown_actor}
use Rattle.shen_core.specs.Noting.{IsEnding}

-- what settles a reply is in a call
pub told_busy : (memory : Word → ℕ) (mutator : Mutating) (answer : Reply) → told_of memory mutator ≡ Some answer → is_between_calls mutator.spot ≡ false
told_busy memory mutator answer is = by_spot mutator.spot is
  where
    by_spot : (spot : Spot) → told_at memory mutator.seat mutator.made mutator.kept spot ≡ Some answer → is_between_calls spot ≡ false
    by_spot Rest tells_answer = absurd cc
    by_spot (Ended ended_reply) tells_answer = absurd cc
    by_spot Gone tells_answer = absurd cc
    by_spot _ tells_answer = refl

-- in a call there is no order
busy_order : (spot : Spot) (made : ℕ) (order : Order) → is_between_calls spot ≡ false → takes_at spot made order ≡ true → order ≡ Nothing
busy_order Rest made order busy takes = absurd cc
busy_order (Ended ended_reply) made order busy takes = absurd cc
busy_order Gone made order busy takes = absurd cc
busy_order _ made Nothing busy takes = refl
busy_order _ made (Begin command) busy takes = absurd cc
busy_order _ made End busy takes = absurd cc
busy_order _ made (Hint address) busy takes = absurd cc

-- who is out of the heap settles the same whatever its words are
told_outside : (first_memory second_memory : Word → ℕ) (mutator : Mutating) → is_within (standing_at mutator.spot) ≡ false → told_of first_memory mutator ≡ told_of second_memory mutator
told_outside first_memory second_memory mutator out = by_spot mutator.spot out
  where
    by_spot : (spot : Spot) → is_within (standing_at spot) ≡ false → told_at first_memory mutator.seat mutator.made mutator.kept spot ≡ told_at second_memory mutator.seat mutator.made mutator.kept spot
    by_spot (Loading inner_spot) stands_outside = absurd cc
    by_spot (OnField object inner_spot) stands_outside = absurd cc
    by_spot (OnNumber object refs inner_spot) stands_outside = absurd cc
    by_spot (Pinning value inner_spot) stands_outside = absurd cc
    by_spot _ stands_outside = refl

-- Commands.

-- a mutator in a call keeps the command that the call was begun with
abbrev KeepsCommand : Command → Machine → Type 0
KeepsCommand command machine = (mutator : Mutating) → machine ≡ mutating mutator → is_between_calls mutator.spot ≡ false → command ≡ mutator.kept.command

-- so it does after its step
next_keeps : (config : Config) (mutator : Mutating) (command : Command) (order : Order) (got : ℕ) → takes_at mutator.spot mutator.made order ≡ true → (is_between_calls mutator.spot ≡ false → command ≡ mutator.kept.command)
    → is_between_calls (next_of config mutator order got).spot ≡ false → command_by order command ≡ (next_of config mutator order got).kept.command
next_keeps config mutator command order got takes before busy = by_spot mutator.spot order takes before busy
  where
    by_spot : (spot : Spot) (order : Order) → takes_at spot mutator.made order ≡ true → (is_between_calls spot ≡ false → command ≡ mutator.kept.command)
        → is_between_calls (next_at config mutator order got spot).spot ≡ false → command_by order command ≡ (next_at config mutator order got spot).kept.command
    by_spot Rest (Begin begun_command) takes before busy = refl
    by_spot Rest Nothing takes before busy = absurd cc
    by_spot Rest End takes before busy = absurd cc
    by_spot Rest (Hint address) takes before busy = absurd cc
    by_spot (Ended ended_reply) (Begin begun_command) takes before busy = refl
    by_spot (Ended ended_reply) Nothing takes before busy = absurd cc
    by_spot (Ended ended_reply) End takes before busy = absurd cc
    by_spot (Ended ended_reply) (Hint address) takes before busy = absurd cc
    by_spot Gone order takes before busy = absurd cc
    by_spot spot Nothing takes before busy = before refl
    by_spot spot (Begin begun_command) takes before busy = absurd cc
    by_spot spot End takes before busy = absurd cc
    by_spot spot (Hint address) takes before busy = absurd cc

-- all mutators do
abbrev AllKeep : Stage Actor → Type 0
AllKeep stage = (number : ℕ) (actor : Actor) → slice_get stage.machines number ≡ Some actor → KeepsCommand actor.command actor.machine

keeps_took : (config : Config) (actor : Actor) (order : Order) (got : ℕ) → takes_of actor.machine order ≡ true → KeepsCommand actor.command actor.machine → KeepsCommand (command_by order actor.command) (machine_after pause_image config order got actor.machine)
keeps_took config actor order got takes before = by_machine actor.machine takes before
  where
    by_machine : (machine : Machine) → takes_of machine order ≡ true → KeepsCommand actor.command machine → KeepsCommand (command_by order actor.command) (machine_after pause_image config order got machine)
    by_machine (mutating mutator) takes before next_mutator next_is busy =
        let same_mutator : next_of config mutator order got ≡ next_mutator = cc in
        subst (λ some_mutator. command_by order actor.command ≡ some_mutator.kept.command) same_mutator
        (next_keeps config mutator actor.command order got takes (before mutator refl) (ap (λ some_mutator. is_between_calls some_mutator.spot) same_mutator ∙ busy))
    by_machine (helping other_role) takes before next_mutator next_is busy = absurd cc
    by_machine (controlling other_role) takes before next_mutator next_is busy = absurd cc

act_keeps : (config : Config) (stage : Stage Actor) (some_event : Event Order) → AllKeep stage → AllKeep (act (kind pause_image config) stage some_event)
unfolding kind
act_keeps config stage some_event before = act_cases (kind pause_image config) AllKeep stage some_event before (λ actor here takes other_number other_actor there. by_number actor here takes other_number other_actor there (cases_eq other_number some_event.number))
  where
    by_number : (actor : Actor) → slice_get stage.machines some_event.number ≡ Some actor → takes_of actor.machine some_event.order ≡ true → (number : ℕ) (asked_actor : Actor) → slice_get (moved (kind pause_image config) stage some_event.number actor some_event.order).machines number ≡ Some asked_actor
        → ((number ≡ some_event.number) ⊎ (number ≢ some_event.number)) → KeepsCommand asked_actor.command asked_actor.machine
    by_number actor actor_there takes number asked_actor asked_there (inr differs) = before number asked_actor (sym (slice_get-set_other stage.machines some_event.number number _ differs) ∙ asked_there)
    by_number actor actor_there takes number asked_actor asked_there (inl same_number) =
        let same_actor = same_Some _ asked_actor (sym (slice_get-set_same stage.machines some_event.number actor _ actor_there) ∙ ap (slice_get (moved (kind pause_image config) stage some_event.number actor some_event.order).machines) (sym same_number) ∙ asked_there) in
        subst (λ some_actor. KeepsCommand some_actor.command some_actor.machine) same_actor (keeps_took config actor some_event.order _ takes (before some_event.number actor actor_there))

go_keeps : (config : Config) (stage : Stage Actor) (events : List (Event Order)) → AllKeep stage → AllKeep (go (kind pause_image config) stage events)
go_keeps config stage [] before = subst AllKeep (sym (go-none (kind pause_image config) stage)) before
go_keeps config stage (first_event ∷ events) before = subst AllKeep (sym (go-first (kind pause_image config) stage first_event events)) (go_keeps config (act (kind pause_image config) stage first_event) events (act_keeps config stage first_event before))

-- a mutator that is idle may be given a command
abbrev IsIdleAs : Machine → Type 0
IsIdleAs (mutating mutator) = takes_commands mutator.spot ≡ true
IsIdleAs _ = Unit {0}

-- no call is in progress where a run begins
begins_keeps : (config : Config) (run : Run config) → AllKeep run.start
begins_keeps config run number actor actor_there m mutator_is busy =
    let new = run.begins.machines number actor actor_there in
    absurd (rests (subst (λ machine. IsIdleAs machine) mutator_is (idle_as actor.machine new.idle)) busy)
  where
    idle_as : (machine : Machine) → IsIdle (view config run.start.words Phase) (view config run.start.words Cset) run.graph number machine → IsIdleAs machine
    idle_as (mutating mutator) idle = idle.1
    idle_as (helping other_role) idle = tt
    idle_as (controlling other_role) idle = tt

    rests : takes_commands m.spot ≡ true → is_between_calls m.spot ≡ false → ⊥
    rests takes busy = by_spot m.spot takes busy
      where
        by_spot : (spot : Spot) → takes_commands spot ≡ true → is_between_calls spot ≡ false → ⊥
        by_spot Rest takes busy = cc
        by_spot (Ended ended_reply) takes busy = cc
        by_spot _ takes busy = cc

-- The refusal of an allocation.

-- where no word is refused, nothing is told
told_none : (machines : List Actor) (word : Word) (before after : ℕ) → refused_word word before after ≡ None → told_word machines word before after ≡ []
told_none machines (Answer mutator) before after no_refusal = by_test ((before == 0) && (after == 1)) no_refusal
  where
    by_test : (holds : Bool) → ◌≡◌ {A = Option ℕ} (if holds then Some mutator else None) None → entries_of mutator (command_at (slice_get machines mutator)) (if holds then Some reply.Full else None) ≡ []
    by_test true no_refused = absurd cc
    by_test false no_refused = refl
told_none machines _ before after no_refusal = refl

-- where one is, it is the answer word of the mutator
pub record IsRefusal (machines : List Actor) (word : Word) (before after mutator : ℕ) : Type 0 where
  pub word_is : word ≡ Answer mutator
  pub told_is : told_word machines word before after ≡ entries_of mutator (command_at (slice_get machines mutator)) (Some reply.Full)

told_some : (machines : List Actor) (word : Word) (before after mutator : ℕ) → refused_word word before after ≡ Some mutator → IsRefusal machines word before after mutator
told_some machines (Answer answered_mutator) before after mutator found = by_test ((before == 0) && (after == 1)) refl found
  where
    by_test : (holds : Bool) → ((before == 0) && (after == 1)) ≡ holds → ◌≡◌ {A = Option ℕ} (if holds then Some answered_mutator else None) (Some mutator) → IsRefusal machines (Answer answered_mutator) before after mutator
    by_test true refusal_test found =
        let same_mutator : answered_mutator ≡ mutator = cc in
        record {
          word_is = ap Answer same_mutator;
          told_is = ap (λ holds. entries_of answered_mutator (command_at (slice_get machines answered_mutator)) (if holds then Some reply.Full else None)) refusal_test
              ∙ ap (λ index. entries_of index (command_at (slice_get machines index)) (Some reply.Full)) same_mutator;
        }
    by_test false refusal_test found = absurd cc
told_some machines _ before after mutator found = absurd cc

-- Histories.

-- events one after another
pub history_both : (config : Config) (stage : Stage Actor) (events later_events : List (Event Order)) → history pause_image config stage (events ++ later_events) ≡ history pause_image config stage events ++ history pause_image config (go (kind pause_image config) stage events) later_events
unfolding history go
history_both config stage [] events = refl
history_both config stage (first_event ∷ later_events) events =
    ap (λ rest_history. told config stage first_event ++ rest_history) (history_both config (act (kind pause_image config) stage first_event) later_events events)
    ∙ sym (append_assoc (told config stage first_event) (history pause_image config (act (kind pause_image config) stage first_event) later_events) (history pause_image config (go (kind pause_image config) (act (kind pause_image config) stage first_event) later_events) events))

-- one event
pub history_one : (config : Config) (stage : Stage Actor) (one_event : Event Order) → history pause_image config stage (one_event ∷ []) ≡ told config stage one_event
unfolding history
history_one config stage one_event = append-nil (told config stage one_event)

-- and one event more
pub history_step : (config : Config) (stage : Stage Actor) (events : List (Event Order)) (last_event : Event Order) → history pause_image config stage (events ++ last_event ∷ []) ≡ history pause_image config stage events ++ told config (go (kind pause_image config) stage events) last_event
history_step config stage events last_event = history_both config stage events (last_event ∷ []) ∙ ap (λ last_entries. history pause_image config stage events ++ last_entries) (history_one config (go (kind pause_image config) stage events) last_event)

-- In a run.

module _ (config : Config) (run : Run config) where
  -- the stage that it ends in
  abbrev stage_then : Stage Actor
  stage_then = ending pause_image config run

  sound : IsSound config run.graph stage_then (history_in pause_image config run)
  sound = run_sound pause_image heap_pauses config run

  -- the command of a call in progress is the one that memory keeps
  commands_kept : (number : ℕ) (actor : Actor) (mutator : Mutating) → slice_get stage_then.machines number ≡ Some actor → actor.machine ≡ mutating mutator → is_between_calls mutator.spot ≡ false → actor.command ≡ mutator.kept.command
  commands_kept number actor mutator actor_there mutator_is busy = go_keeps config run.start run.events (begins_keeps config run) number actor actor_there mutator mutator_is busy

  -- while an image counts the control stores it
  storing_pauses : (actor : Actor) (image : Counting) → slice_get stage_then.machines (control_number config) ≡ Some actor → image_read actor.machine ≡ Some image → IsInPause config stage_then
  storing_pauses actor image control_there holds = by_machine actor.machine refl holds
    where
      by_spot : (control : Controlling) → actor.machine ≡ controlling control → (spot : ControlSpot) → control.spot ≡ spot → stored_image spot control.image ≡ Some image → IsInPause config stage_then
      by_spot control control_is (StoreWord index extent) spot_is holds = record { actor = actor; control = control; here = control_there; is = control_is; pausing = ap (λ asked_spot. is_pausing (control_standing asked_spot)) spot_is }
      by_spot control control_is _ spot_is holds = absurd cc

      by_machine : (machine : Machine) → actor.machine ≡ machine → image_read machine ≡ Some image → IsInPause config stage_then
      by_machine (controlling control) machine_is holds = by_spot control machine_is control.spot refl holds
      by_machine (mutating mutator) machine_is holds = absurd cc
      by_machine (helping other_role) machine_is holds = absurd cc

  -- what a mutator's step settles by the words that count it settles by those of the table
  told_counts : (number : ℕ) (actor : Actor) (mutator : Mutating) → IsMutator stage_then number actor mutator → told_of (settled config stage_then) mutator ≡ told_of (view config stage_then.words) mutator
  told_counts number actor mutator mutator_there = by_actor (slice_get stage_then.machines (control_number config)) refl
    where
      by_image : (control_actor : Actor) → slice_get stage_then.machines (control_number config) ≡ Some control_actor → (counting : Option Counting) → image_read control_actor.machine ≡ counting → told_of (settled_by config stage_then.words counting) mutator ≡ told_of (view config stage_then.words) mutator
      by_image control_actor control_there None holds = refl
      by_image control_actor control_there (Some image) holds =
          let empty = run_pauses pause_image heap_pauses config run.start run.graph run.begins run.events (storing_pauses control_actor image control_there holds) in
          told_outside (settled_by config stage_then.words (Some image)) (view config stage_then.words) mutator (empty.nobody number actor mutator mutator_there)

      by_actor : (found : Option Actor) → slice_get stage_then.machines (control_number config) ≡ found → told_of (settled_by config stage_then.words (image_of found)) mutator ≡ told_of (view config stage_then.words) mutator
      by_actor None control_there = refl
      by_actor (Some control_actor) control_there = by_image control_actor control_there (image_read control_actor.machine) refl

  -- the event of a mutator settles what memory sees
  pub told_mutating : (number : ℕ) (order : Order) (actor : Actor) (mutator : Mutating) → slice_get stage_then.machines number ≡ Some actor → actor.machine ≡ mutating mutator → takes_of (mutating mutator) order ≡ true
      → told config stage_then (event number order) ≡ entries_of number mutator.kept.command (told_of (view config stage_then.words) mutator)
  unfolding told
  told_mutating number order actor mutator actor_there mutator_is takes =
      let seat : mutator.seat ≡ number = (sound.of_heap.numbers number actor mutator (record { here = actor_there; is = mutator_is })).0 in
      ap (λ found. told_of_machine config stage_then (event number order) found) actor_there
      ∙ ap (λ machine. if takes_of machine order then told_by config stage_then actor order machine else []) mutator_is
      ∙ ap (λ test. if test then told_by config stage_then actor order (mutating mutator) else []) takes
      ∙ ap (entries_of mutator.seat (command_by order actor.command)) (told_counts number actor mutator (record { here = actor_there; is = mutator_is }))
      ∙ ap (λ seat_number. entries_of seat_number (command_by order actor.command) (told_of (view config stage_then.words) mutator)) seat
      ∙ by_told (told_of (view config stage_then.words) mutator) refl
    where
      by_told : (found : Option Reply) → told_of (view config stage_then.words) mutator ≡ found → entries_of number (command_by order actor.command) found ≡ entries_of number mutator.kept.command found
      by_told None nothing_told = refl
      by_told (Some told_reply) told_is =
          let busy = told_busy (view config stage_then.words) mutator told_reply told_is in
          ap (λ asked_command. entries_of number asked_command (Some told_reply))
          (ap (λ found. command_by found actor.command) (busy_order mutator.spot mutator.made order busy takes) ∙ commands_kept number actor mutator actor_there mutator_is busy)

  -- that of a helper settles nothing
  pub told_helping : (number : ℕ) (order : Order) (actor : Actor) (helper : Helping) → slice_get stage_then.machines number ≡ Some actor → actor.machine ≡ helping helper → takes_of (helping helper) order ≡ true → told config stage_then (event number order) ≡ []
  unfolding told
  told_helping number order actor helper actor_there helper_is takes =
      ap (λ actor_found. told_of_machine config stage_then (event number order) actor_found) actor_there
      ∙ ap (λ machine. if takes_of machine order then told_by config stage_then actor order machine else []) helper_is
      ∙ ap (λ test. if test then told_by config stage_then actor order (helping helper) else []) takes

  -- that of the control, what it stores
  told_controlling : (number : ℕ) (order : Order) (actor : Actor) (control : Controlling) → slice_get stage_then.machines number ≡ Some actor → actor.machine ≡ controlling control → takes_of (controlling control) order ≡ true
      → told config stage_then (event number order) ≡ told_storing config stage_then control.spot control.image
  unfolding told
  told_controlling number order actor control actor_there control_is takes =
      ap (λ actor_found. told_of_machine config stage_then (event number order) actor_found) actor_there
      ∙ ap (λ machine. if takes_of machine order then told_by config stage_then actor order machine else []) control_is
      ∙ ap (λ test. if test then told_by config stage_then actor order (controlling control) else []) takes

  -- it settles nothing where it refuses nobody
  pub told_no_refusal : (number : ℕ) (order : Order) (actor : Actor) (control : Controlling) → slice_get stage_then.machines number ≡ Some actor → actor.machine ≡ controlling control → takes_of (controlling control) order ≡ true
      → refused_at config stage_then.words control.spot control.image ≡ None → told config stage_then (event number order) ≡ []
  told_no_refusal number order actor control actor_there control_is takes none = told_controlling number order actor control actor_there control_is takes ∙ by_spot control.spot none
    where
      by_spot : (spot : ControlSpot) → refused_at config stage_then.words spot control.image ≡ None → told_storing config stage_then spot control.image ≡ []
      by_spot (StoreWord index extent) no_refusal = told_none stage_then.machines (name_of config (image_start config + index)) (slice_index stage_then.words (image_start config + index)) (slice_index control.image index) no_refusal
      by_spot _ no_refusal = refl

  -- where it refuses a mutator, the entry is that of the mutator's call
  refusal_told : (number : ℕ) (order : Order) (actor : Actor) (control : Controlling) (refused_mutator : ℕ) → slice_get stage_then.machines number ≡ Some actor → actor.machine ≡ controlling control → takes_of (controlling control) order ≡ true
      → refused_at config stage_then.words control.spot control.image ≡ Some refused_mutator → told config stage_then (event number order) ≡ entries_of refused_mutator (command_at (slice_get stage_then.machines refused_mutator)) (Some reply.Full)
  refusal_told number order actor control refused_mutator actor_there control_is takes found = told_controlling number order actor control actor_there control_is takes ∙ by_spot control.spot found
    where
      by_spot : (spot : ControlSpot) → refused_at config stage_then.words spot control.image ≡ Some refused_mutator → told_storing config stage_then spot control.image ≡ entries_of refused_mutator (command_at (slice_get stage_then.machines refused_mutator)) (Some reply.Full)
      by_spot (StoreWord index extent) found = (told_some stage_then.machines (name_of config (image_start config + index)) (slice_index stage_then.words (image_start config + index)) (slice_index control.image index) refused_mutator found).told_is
      by_spot _ found = absurd cc

  -- the run with an event more
  abbrev longer : Event Order → Run config
  longer last_event = record { start = run.start; graph = run.graph; begins = run.begins; events = run.events ++ last_event ∷ [] }

  -- a mutator whose own call is settled by another machine's event is in that call
  settled_is_busy : (last_event : Event Order) (settled_mutator : ℕ) (actor : Actor) (mutator : Mutating) (command : Command) (answer : Reply) → settled_mutator ≢ last_event.number → IsMutator stage_then settled_mutator actor mutator → told config stage_then last_event ≡ entries_of settled_mutator command (Some answer) → is_between_calls mutator.spot ≡ false
  settled_is_busy last_event settled_mutator actor mutator command answer asked_number mutator_there told_is = by_rest (is_between_calls mutator.spot) refl
    where
      stays : slice_get (ending pause_image config (longer last_event)).machines settled_mutator ≡ Some actor
      stays = ap (λ (stage : Stage Actor). slice_get stage.machines settled_mutator) (go-step (kind pause_image config) run.start run.events last_event) ∙ machines_other (kind pause_image config) stage_then last_event settled_mutator asked_number ∙ mutator_there.here

      now : AreCalls (settled config stage_then) (view config stage_then.words (Answer settled_mutator)) (of_thread (history_in pause_image config run) (settled_mutator + 1)) settled_mutator actor mutator
      now = sound.threads settled_mutator actor mutator mutator_there

      after : IsSound config run.graph (ending pause_image config (longer last_event)) (history_in pause_image config (longer last_event))
      after = run_sound pause_image heap_pauses config (longer last_event)

      entries : of_thread (history_in pause_image config (longer last_event)) (settled_mutator + 1) ≡ of_thread (history_in pause_image config run) (settled_mutator + 1) ++ entries_of settled_mutator command (Some answer)
      entries = ap (λ entries_then. of_thread entries_then (settled_mutator + 1)) (history_step config run.start run.events last_event ∙ ap (λ entries_then. history_in pause_image config run ++ entries_then) told_is)
          ∙ own_more (history_in pause_image config run) settled_mutator command (Some answer)

      by_rest : (holds : Bool) → is_between_calls mutator.spot ≡ holds → is_between_calls mutator.spot ≡ false
      by_rest false busy = busy
      by_rest true rest =
          let later = after.threads settled_mutator actor mutator (record { here = stays; is = mutator_there.is }) in
          let calls_now : of_thread (history_in pause_image config run) (settled_mutator + 1) ≡ actor.calls ++ [] = now.entries_are ∙ ap (λ told_reply. actor.calls ++ entries_of settled_mutator actor.command told_reply) (now.between_calls rest) in
          let calls_then : of_thread (history_in pause_image config (longer last_event)) (settled_mutator + 1) ≡ actor.calls ++ [] = later.entries_are ∙ ap (λ told_reply. actor.calls ++ entries_of settled_mutator actor.command told_reply) (later.between_calls rest) in
          absurd
          (let same_length = ap length (sym calls_then ∙ entries ∙ ap (λ some_entries. some_entries ++ entries_of settled_mutator command (Some answer)) calls_now) in
          let longer_length = length-append (actor.calls ++ []) (entries_of settled_mutator command (Some answer)) in
          omega (arith, same_length, longer_length))

  -- the machine of a mutator that is refused is in a call, and so the entry has the command that memory keeps
  pub record IsRefused (number : ℕ) (order : Order) (asked_number : ℕ) : Type 0 where
    pub below : asked_number < config.mutators
    pub actor : Actor
    pub mutator : Mutating
    pub here : IsMutator stage_then asked_number actor mutator
    pub busy : is_between_calls mutator.spot ≡ false
    pub told_is : told config stage_then (event number order) ≡ entries_of asked_number mutator.kept.command (Some reply.Full)

  pub refusal : (number : ℕ) (order : Order) (actor : Actor) (control : Controlling) (mutator : ℕ) → slice_get stage_then.machines number ≡ Some actor → actor.machine ≡ controlling control → takes_of (controlling control) order ≡ true
      → refused_at config stage_then.words control.spot control.image ≡ Some mutator → IsRefused number order mutator
  refusal number order actor controlling_one mutator actor_there control_is takes some =
      let control : number ≡ config.mutators + config.helpers = subst (λ machine. HasNumber config number machine) control_is (sound.of_heap.roles number actor actor_there) in
      let inside : takes_of (controlling controlling_one) Nothing ≡ true → table_index (plan_of config Nothing (controlling controlling_one)) < table_words config =
      (λ goes_on. subst (λ machine. table_index (plan_of config Nothing machine) < table_words config) control_is ((sound.fit number actor actor_there).inside Nothing (subst (λ machine. takes_of machine Nothing ≡ true) (sym control_is) goes_on))) in
      let mutator_below : mutator < config.mutators = by_spot controlling_one.spot inside some in
      let found = sound.of_heap.mutators mutator mutator_below in
      let told_so = refusal_told number order actor controlling_one mutator actor_there control_is takes some in
      let asked_number : mutator ≢ number = (λ same_number. omega (arith, mutator_below, control, same_number)) in
      let busy = settled_is_busy (event number order) mutator found.actor found.mutator (command_at (slice_get stage_then.machines mutator)) reply.Full asked_number found.here told_so in
      record {
        below = mutator_below;
        actor = found.actor;
        mutator = found.mutator;
        here = found.here;
        busy = busy;
        told_is = told_so ∙ ap (λ command. entries_of mutator command (Some reply.Full))
            (ap command_at found.here.here ∙ commands_kept mutator found.actor found.mutator found.here.here found.here.is busy);
      }
    where
      by_spot : (spot : ControlSpot) → (takes_of (controlling (record controlling_one { spot = spot })) Nothing ≡ true → table_index (plan_of config Nothing (controlling (record controlling_one { spot = spot }))) < table_words config) → refused_at config stage_then.words spot controlling_one.image ≡ Some mutator → mutator < config.mutators
      by_spot (StoreWord index extent) inside refuses_mutator =
          let named = (told_some stage_then.machines (name_of config (image_start config + index)) (slice_index stage_then.words (image_start config + index)) (slice_index controlling_one.image index) mutator refuses_mutator).word_is in
          subst (λ word. IsWord config word) named (are_named.is_word config (image_start config + index) (inside refl))
      by_spot _ inside refuses_mutator = absurd cc

-- As memory sees it.

module _ (config : Config) (words : List ℕ) (machines : List Machine) (number : ℕ) (order : Order) where
  -- the event
  abbrev e : Event Order
  e = event number order

  -- a mutator that settles the reply of its call
  pub sees_reply : (machine : Machine) (command : Command) (answer : Reply) → slice_get machines number ≡ Some machine → takes_of machine order ≡ true → reply_settled (view config words) machine ≡ Some answer → command_in machine ≡ Some command
      → (stage : Stage Actor) → WordsShow words machines stage → IsEnding config stage → told config stage e ≡ entries_of number command (Some answer)
  sees_reply (mutating mutator) command answer machine_there takes settles_reply keeps stage shows ends =
      subst (λ stage. WordsShow words machines stage → told config stage e ≡ entries_of number command (Some answer)) ends.1
      (λ shown.
      let found = shown_actor words machines (ending pause_image config ends.0) number (mutating mutator) shown machine_there in
      told_mutating config ends.0 number order found.0 mutator found.1 found.2 takes
      ∙ ap (λ some_words. entries_of number mutator.kept.command (told_of (view config some_words) mutator)) shown.words_are
      ∙ ap (entries_of number mutator.kept.command) settles_reply
      ∙ ap (λ asked_command. entries_of number asked_command (Some answer)) (same_Some mutator.kept.command command keeps))
      shows
  sees_reply (helping helper) command answer machine_there takes settles_reply keeps stage shows ends = absurd cc
  sees_reply (controlling control) command answer machine_there takes settles_reply keeps stage shows ends = absurd cc

  -- a machine that settles nothing
  pub sees_nothing : (machine : Machine) → slice_get machines number ≡ Some machine → takes_of machine order ≡ true → reply_settled (view config words) machine ≡ None → refused_by config words machine ≡ None
      → (stage : Stage Actor) → WordsShow words machines stage → IsEnding config stage → told config stage e ≡ []
  sees_nothing (mutating mutator) machine_there takes settles_nothing quiet stage shows ends =
      subst (λ stage. WordsShow words machines stage → told config stage e ≡ []) ends.1
      (λ shown.
      let found = shown_actor words machines (ending pause_image config ends.0) number (mutating mutator) shown machine_there in
      told_mutating config ends.0 number order found.0 mutator found.1 found.2 takes
      ∙ ap (λ some_words. entries_of number mutator.kept.command (told_of (view config some_words) mutator)) shown.words_are
      ∙ ap (entries_of number mutator.kept.command) settles_nothing)
      shows
  sees_nothing (helping helper) machine_there takes settles_nothing quiet stage shows ends =
      subst (λ stage. WordsShow words machines stage → told config stage e ≡ []) ends.1
      (λ shown. let found = shown_actor words machines (ending pause_image config ends.0) number (helping helper) shown machine_there in told_helping config ends.0 number order found.0 helper found.1 found.2 takes)
      shows
  sees_nothing (controlling control) machine_there takes settles_nothing quiet stage shows ends =
      subst (λ stage. WordsShow words machines stage → told config stage e ≡ []) ends.1
      (λ shown.
      let found = shown_actor words machines (ending pause_image config ends.0) number (controlling control) shown machine_there in
      told_no_refusal config ends.0 number order found.0 control found.1 found.2 takes (ap (λ some_words. refused_at config some_words control.spot control.image) shown.words_are ∙ quiet))
      shows

  -- the control, where it refuses an allocation
  pub sees_refusal : (machine refused_machine : Machine) (index : ℕ) (command : Command) → slice_get machines number ≡ Some machine → takes_of machine order ≡ true → refused_by config words machine ≡ Some index → slice_get machines index ≡ Some refused_machine → command_in refused_machine ≡ Some command
      → (stage : Stage Actor) → WordsShow words machines stage → IsEnding config stage → told config stage e ≡ entries_of index command (Some reply.Full)
  sees_refusal (controlling control) refused_machine index command machine_there takes refuses_index refused_there keeps stage shows ends =
      subst (λ stage. WordsShow words machines stage → told config stage e ≡ entries_of index command (Some reply.Full)) ends.1
      (λ shown.
      let found = shown_actor words machines (ending pause_image config ends.0) number (controlling control) shown machine_there in
      let refused = refusal config ends.0 number order found.0 control index found.1 found.2 takes (ap (λ some_words. refused_at config some_words control.spot control.image) shown.words_are ∙ refuses_index) in
      let refused_actor = shown_actor words machines (ending pause_image config ends.0) index refused_machine shown refused_there in
      let same_machine : refused_machine ≡ mutating refused.mutator = sym refused_actor.2 ∙ ap (λ (actor : Actor). actor.machine) (same_Some refused_actor.0 refused.actor (sym refused_actor.1 ∙ refused.here.here)) ∙ refused.here.is in
      let same_command : Some refused.mutator.kept.command ≡ Some command = sym (ap command_in same_machine) ∙ keeps in
      refused.told_is ∙ ap (λ control. entries_of index control (Some reply.Full)) (same_Some refused.mutator.kept.command command same_command))
      shows
  sees_refusal (mutating mutator) refused_machine index command machine_there takes found refused_there keeps stage shows ends = absurd cc
  sees_refusal (helping helper) refused_machine index command machine_there takes found refused_there keeps stage shows ends = absurd cc

  -- the mutator that it refuses is there, in a call
  pub record IsWaiting (t : ℕ) : Type 0 where
    pub is_mutator : nat_lt t config.mutators ≡ true
    pub role : is_mutating (slice_index_or machines t no_machine) ≡ true
    pub busy : is_resting (slice_index_or machines t no_machine) ≡ false

  waiting_by : (machine : Machine) (index : ℕ) → slice_get machines number ≡ Some machine → takes_of machine order ≡ true → refused_by config words machine ≡ Some index → IsShownBySomeRun config words machines → IsWaiting index
  waiting_by (controlling control) index machine_there takes refuses_index shown =
      let run = shown.run in
      let found = shown_actor words machines (ending pause_image config run) number (controlling control) shown.shows machine_there in
      let refused = refusal config run number order found.0 control index found.1 found.2 takes (ap (λ some_words. refused_at config some_words control.spot control.image) shown.shows.words_are ∙ refuses_index) in
      let mutator_there : slice_get machines index ≡ Some (mutating refused.mutator) =
      sym (ap (λ some_machines. slice_get some_machines index) shown.shows.machines_are) ∙ slice_get-map (λ (actor : Actor). actor.machine) (ending pause_image config run).machines index
      ∙ ap (option_map (λ (actor : Actor). actor.machine)) refused.here.here ∙ ap Some refused.here.is in
      let mutator_at : slice_index_or machines index no_machine ≡ mutating refused.mutator = get_or_from_slice_get machines index (mutating refused.mutator) no_machine mutator_there in
      record { is_mutator = lt-ltb index config.mutators refused.below; role = ap is_mutating mutator_at; busy = ap is_resting mutator_at ∙ refused.busy }
  waiting_by (mutating mutator) index machine_there takes found shown = absurd cc
  waiting_by (helping helper) index machine_there takes found shown = absurd cc

  pub waiting : (machine : Machine) (index : ℕ) → slice_get machines number ≡ Some machine → takes_of machine order ≡ true → refused_by config words machine ≡ Some index → ∥ IsShownBySomeRun config words machines ∥₁ → IsWaiting index
  waiting machine t machine_there takes found reached =
      let prop : IsProp (IsWaiting t) = waiting_prop t in
      ∥∥₁_elim reached prop (waiting_by machine t machine_there takes found)
    where
      waiting_prop : (waiting_number : ℕ) → IsProp (IsWaiting waiting_number)
      waiting_prop waiting_number = hlevel Bool-set
