-- A run that notes what its events settle.
use Rattle.std.proofs.Common.{◌≡◌, ◌<◌, ℕ, zero, suc, ◌+◌, ◌-◌, true, false, List, [], ◌∷◌, ◌++◌, length, get_or, map, drop, Some, None, refl, sym, ap, ◌∙◌, subst, arith}
use Rattle.std.specs.Prelude.{◌==◌}
use Rattle.std.proofs.lemmas.List.{drop_more}
use Rattle.std.proofs.lemmas.Bool.Decides.{nat_tests}
use Rattle.heap_machines.specs.Pause.{pause_image}
use Rattle.heap_words.specs.declared.config.Config.{Config}
use Rattle.heap_words.specs.declared.schedule.Item.{Item}
use Rattle.heap_words.specs.Ranges.{seat_count}
use Rattle.heap_words.specs.Steps.{Stage, Event, act, go}
use Rattle.heap_words.proofs.Runs.{go-append}
use Rattle.shen_graph.specs.declared.order.Order.{Order}
use Rattle.shen_graph.specs.History.{Entry}
use Rattle.shen_graph.specs.Noting.{Noting}
use Rattle.step_core.specs.Actor.{Actor}
use Rattle.step_core.specs.Machines.{kind}
use Rattle.step_core.specs.History.{told, history}
use Rattle.step_core.specs.Schedule.{Scripts, turn, Task, task_of, Agenda, Next, next, next_by, after_move, and_then, move_of, moves, waits_then, scheduled}
use Rattle.heap_machines.specs.declared.stepped.Stepped.{Stepped}
use Rattle.heap_machines.specs.declared.stepped.Stepped.TheVariants.{Idle}
use Rattle.shen_core.specs.declared.plain.Plain.{Plain}
use Rattle.shen_core.specs.declared.run.Ran.{Ran}
use Rattle.shen_core.specs.declared.run.Ran.TheVariants.{Finished, Unfinished}
use Rattle.shen_core.specs.Runs.{event}
use Rattle.shen_core.specs.State.{config_of, words_of, machines_of, notes_of, order_at, Shows}
use Rattle.shen_core.specs.Progress.{Jobs, IsTurn, Goes, Tells, agenda, Turned, HasTurned, IsPassed, AllIdle, SomeBusy}
use Rattle.shen_core.specs.Noting.{with_entry, noted, IsEnding, told_by, NotesTurn, HasGone, RunsNoted, DoesNoted, HasRunNoted, EndsNoted}
use Rattle.shen_core.proofs.Going as going
use Rattle.shen_core.proofs.Going.{goes_then, waiting_of, moved_of}
use Rattle.shen_core.proofs.Rounds as rounds
use Rattle.shen_core.proofs.Rounds.{round_move, idle_round, scheduled_none}
use Rattle.shen_core.proofs.Settles.{history_both, history_one}

-- Entries.

-- some entries, and then others
pub noted_both : (noting : Noting) (entries later_entries : List Entry) → noted noting (entries ++ later_entries) ≡ noted (noted noting entries) later_entries
unfolding noted
noted_both noting [] entries = refl
noted_both noting (entry ∷ later_entries) entries = noted_both (with_entry noting entry) later_entries entries

pub noted_none : (noting : Noting) → noted noting [] ≡ noting
unfolding noted
noted_none noting = refl

pub noted_one : (noting : Noting) (entry : Entry) → noted noting (entry ∷ []) ≡ with_entry noting entry
unfolding noted
noted_one noting entry = refl

-- a history by its parts
abbrev noting : List Entry → ℕ → Noting
noting list spare = record { list = list; spare = spare }

made : (entries : List Entry) (spare : ℕ) (other_entries : List Entry) (other_spare : ℕ) → entries ≡ other_entries → spare ≡ other_spare → noting entries spare ≡ noting other_entries other_spare
made entries spare other_entries other_spare lists spares = ap (λ given_entries. noting given_entries spare) lists ∙ ap (λ room_left. noting other_entries room_left) spares

-- a history that has got an entry
pub noted_entry : (noting noting_then : Noting) (entry : Entry) → noting_then.list ≡ noting.list ++ entry ∷ [] → noting_then.spare + 1 ≡ noting.spare → noting_then ≡ noted noting (entry ∷ [])
noted_entry noting noting_then entry list spare =
    let some_spare : (noting.spare == 0) ≡ false = grind (arith, nat_tests, spare) in
    let next : with_entry noting entry ≡ record { list = noting.list ++ entry ∷ []; spare = noting.spare - 1 } = rw some_spare refl in
    made noting_then.list noting_then.spare (noting.list ++ entry ∷ []) (noting.spare - 1) list (omega (arith, spare)) ∙ sym next ∙ sym (noted_one noting entry)

-- without memory nothing is noted
pub noted_out : (noting : Noting) (entries : List Entry) → noting.spare ≡ 0 → noted noting entries ≡ noting
unfolding noted
noted_out noting [] none_spare = refl
noted_out noting (entry ∷ entries) none_spare =
    let same_noting : with_entry noting entry ≡ noting = rw none_spare refl in
    ap (λ x. noted x entries) same_noting ∙ noted_out noting entries none_spare

-- with memory for all of them, all are
pub record IsNoted (noting later : Noting) (entries : List Entry) : Type 0 where
  pub list : later.list ≡ noting.list ++ entries
  pub spare : later.spare + length entries ≡ noting.spare

-- the stage after events of a run is one of a run
pub ending_on : (config : Config) (stage later_stage : Stage Actor) (events : List (Event Order)) → go (kind pause_image config) stage events ≡ later_stage → IsEnding config stage → IsEnding config later_stage
ending_on config stage later_stage events leads ends =
    let run = ends.0 in (
      record { start = run.start; graph = run.graph; begins = run.begins; events = run.events ++ events },
      go-append (kind pause_image config) run.start run.events events ∙ ap (λ stage_now. go (kind pause_image config) stage_now events) ends.1 ∙ leads,
    )

-- Parts of a run.

-- what events settle that go on from others
notes_then : (config : Config) (stage later_stage : Stage Actor) (first_events later_events : List (Event Order)) (start_noting noting_between noting_then : Noting) → go (kind pause_image config) stage first_events ≡ later_stage
    → noting_between ≡ noted start_noting (history pause_image config stage first_events) → noting_then ≡ noted noting_between (history pause_image config later_stage later_events) → noting_then ≡ noted start_noting (history pause_image config stage (first_events ++ later_events))
notes_then config stage later_stage first_events later_events noting middle_noting noting_then leads first_noted later_noted =
    later_noted
    ∙ ap (λ value. noted value (history pause_image config later_stage later_events)) first_noted
    ∙ ap (λ value. noted (noted noting (history pause_image config stage first_events)) (history pause_image config value later_events)) (sym leads)
    ∙ sym (noted_both noting (history pause_image config stage first_events) (history pause_image config (go (kind pause_image config) stage first_events) later_events))
    ∙ ap (noted noting) (sym (history_both config stage first_events later_events))

-- no event settles nothing
notes_none : (config : Config) (stage : Stage Actor) (noting : Noting) → noting ≡ noted noting (history pause_image config stage [])
unfolding history
notes_none config stage noting = sym (noted_none noting)

-- no event was made
nil_of : (events : List (Event Order)) → length events ≡ 0 → events ≡ []
nil_of [] no_events = refl
nil_of (x ∷ events) no_events = absurd (omega arith)

none_done : (config : Config) (scripts : Scripts) (stage later_stage : Stage Actor) (todo rest : Agenda) (left : ℕ) (has_gone : Goes config scripts stage todo left later_stage rest left) → has_gone.done ≡ []
none_done config scripts stage later_stage todo rest left has_gone = let count = has_gone.count in nil_of has_gone.done (omega arith)

-- one event was made, and it is the next one
one_of : (made_events later_events rest_events : List (Event Order)) (y : Event Order) → length made_events ≡ 1 → y ∷ later_events ≡ made_events ++ rest_events → made_events ≡ y ∷ []
one_of [] events given_rest y one_event same_events = absurd (omega arith)
one_of (made_event ∷ []) events given_rest y one_event same_events = let same_event : y ≡ made_event = cc in ap (λ z. z ∷ []) (sym same_event)
one_of (made_event ∷ second_event ∷ made_events) events given_rest y one_event same_events = absurd (omega arith)

one_done : (config : Config) (scripts : Scripts) (stage later_stage : Stage Actor) (todo rest : Agenda) (left : ℕ) (has_gone : Goes config scripts stage todo left later_stage rest (left - 1)) (next_turn : Next) → 0 < left → next config scripts stage todo ≡ Some next_turn → has_gone.done ≡ next_turn.event ∷ []
unfolding scheduled
one_done config scripts stage later_stage todo rest zero has_gone next_turn some_left next_is = absurd (omega arith)
one_done config scripts stage later_stage todo rest (suc remaining) has_gone next_turn some_left next_is =
    let count = has_gone.count in
    one_of has_gone.done (scheduled pause_image config scripts remaining next_turn.agenda (act (kind pause_image config) stage next_turn.event)) (scheduled pause_image config scripts (suc remaining - 1) rest later_stage) next_turn.event (omega arith)
    (sym (ap (λ found. and_then found (λ turned. scheduled pause_image config scripts remaining turned.agenda (act (kind pause_image config) stage turned.event))) next_is) ∙ has_gone.events)

-- where no event was made, what is noted stays
quiet : (config : Config) (scripts : Scripts) (stage later_stage : Stage Actor) (todo rest : Agenda) (left : ℕ) (has_gone : Goes config scripts stage todo left later_stage rest left) (noting noting_then : Noting) → noting_then ≡ noting → noting_then ≡ noted noting (history pause_image config stage has_gone.done)
quiet config scripts stage later_stage todo rest left has_gone noting noting_then same_noting = same_noting ∙ notes_none config stage noting ∙ ap (λ events. noted noting (history pause_image config stage events)) (sym (none_done config scripts stage later_stage todo rest left has_gone))

-- where one was, what it settles is noted
told_so : (config : Config) (scripts : Scripts) (stage later_stage : Stage Actor) (todo rest : Agenda) (left number : ℕ) (has_gone : Goes config scripts stage todo left later_stage rest (left - 1)) (next_turn : Next) (noting noting_then : Noting) → 0 < left → next config scripts stage todo ≡ Some next_turn
    → turn scripts stage number ≡ Some next_turn.event → noting_then ≡ noted noting (told_by config stage (turn scripts stage number)) → noting_then ≡ noted noting (history pause_image config stage has_gone.done)
told_so config scripts stage later_stage todo rest left number has_gone next_turn noting noting_then some_left next_is turns notes =
    notes
    ∙ ap (λ turned. noted noting (told_by config stage turned)) turns
    ∙ ap (noted noting) (sym (history_one config stage next_turn.event))
    ∙ ap (λ events. noted noting (history pause_image config stage events)) (sym (one_done config scripts stage later_stage todo rest left has_gone next_turn some_left next_is))

-- Turns.

-- a turn that notes what its event settles
pub turn_notes : (plain next_plain : Plain) (jobs : Jobs) (number : ℕ) (order : Order) → IsTurn plain jobs number true order
    → ((stage : Stage Actor) → Shows plain stage → IsEnding (config_of plain) stage → notes_of next_plain ≡ noted (notes_of plain) (told (config_of plain) stage (event number order))) → NotesTurn plain jobs number next_plain
turn_notes plain next_plain jobs number order turns notes scripts stage shows tells ends =
    notes stage shows ends ∙ ap (λ turned. noted (notes_of plain) (told_by (config_of plain) stage turned)) (sym (turns scripts stage shows tells))

-- by its order
pub turn_noted : (plain mid next_plain : Plain) (jobs : Jobs) (number : ℕ) → config_of mid ≡ config_of plain → words_of mid ≡ words_of plain → machines_of mid ≡ machines_of plain → notes_of mid ≡ notes_of plain → IsTurn plain jobs number true (order_at mid number)
    → ((stage : Stage Actor) → Shows mid stage → IsEnding (config_of mid) stage → notes_of next_plain ≡ noted (notes_of mid) (told (config_of mid) stage (event number (order_at mid number)))) → NotesTurn plain jobs number next_plain
turn_noted plain mid next_plain jobs number same_config same_words machines same_notes turns notes =
    turn_notes plain next_plain jobs number (order_at mid number) turns (λ stage shows ends.
    notes stage (record { words_are = shows.words_are ∙ sym same_words; machines_are = shows.machines_are ∙ sym machines }) (subst (λ some_config. IsEnding some_config stage) (sym same_config) ends)
    ∙ ap (λ notes_now. noted notes_now (told (config_of mid) stage (event number (order_at mid number)))) same_notes
    ∙ ap (λ some_config. noted (notes_of plain) (told some_config stage (event number (order_at mid number)))) same_config)

-- a machine without a turn
pub turn_none : (plain next_plain : Plain) (jobs : Jobs) (number : ℕ) (order : Order) → IsTurn plain jobs number false order → notes_of next_plain ≡ notes_of plain → NotesTurn plain jobs number next_plain
turn_none plain next_plain jobs number order turns same_notes scripts stage shows tells ends =
    same_notes ∙ sym (noted_none (notes_of plain)) ∙ ap (λ turned. noted (notes_of plain) (told_by (config_of plain) stage turned)) (sym (turns scripts stage shows tells))

-- what comes after a turn keeps what it has noted
pub turn_kept : (first_plain second_plain third_plain : Plain) (jobs : Jobs) (number : ℕ) → NotesTurn first_plain jobs number second_plain → notes_of third_plain ≡ notes_of second_plain → NotesTurn first_plain jobs number third_plain
turn_kept plain next_plain third_plain jobs number notes same_notes scripts stage shows tells ends = same_notes ∙ notes scripts stage shows tells ends

-- with no event memory stays
pub runs_none : (plain : Plain) (jobs : Jobs) (todo : Agenda) (left : ℕ) → RunsNoted plain jobs todo left plain jobs todo left
runs_none plain jobs todo left scripts stage shows tells =
    let went = going.runs_none plain jobs todo left scripts stage shows tells in
    record { went = went; notes = λ ends. quiet (config_of plain) scripts stage went.stage todo todo left went.goes (notes_of plain) (notes_of plain) refl }

-- without events left
pub runs_out : (plain : Plain) (jobs : Jobs) (todo rest : Agenda) (left : ℕ) → left ≡ 0 → RunsNoted plain jobs todo left plain jobs rest left
runs_out plain jobs todo rest left none_left scripts stage shows tells =
    let went = going.runs_out plain jobs todo rest left none_left scripts stage shows tells in
    record { went = went; notes = λ ends. quiet (config_of plain) scripts stage went.stage todo rest left went.goes (notes_of plain) (notes_of plain) refl }

-- two parts of a run follow each other
pub runs_then : (first_plain second_plain third_plain : Plain) (jobs later last_jobs : Jobs) (todo rest later_agenda : Agenda) (left middle remaining : ℕ) → config_of second_plain ≡ config_of first_plain → RunsNoted first_plain jobs todo left second_plain later rest middle → RunsNoted second_plain later rest middle third_plain last_jobs later_agenda remaining → RunsNoted first_plain jobs todo left third_plain last_jobs later_agenda remaining
unfolding goes_then
runs_then plain next_plain third_plain jobs later last_jobs todo rest later_agenda left middle remaining same_config first_run second_run scripts stage shows tells =
    let first_gone = first_run scripts stage shows tells in
    let went = first_gone.went in
    let second_gone = subst (λ config. HasGone config scripts went.stage rest middle next_plain third_plain last_jobs later_agenda remaining) same_config
    (second_run scripts went.stage went.shows (subst (λ config. Tells config scripts later went.stage) (sym same_config) went.tells)) in
    record {
      went = record { stage = second_gone.went.stage; goes = goes_then (config_of plain) scripts stage went.stage second_gone.went.stage todo rest later_agenda left middle remaining went.goes second_gone.went.goes; shows = second_gone.went.shows; tells = second_gone.went.tells };
      notes = λ ends. notes_then (config_of plain) stage went.stage went.goes.done second_gone.went.goes.done (notes_of plain) (notes_of next_plain) (notes_of third_plain) went.goes.leads (first_gone.notes ends)
          (second_gone.notes (ending_on (config_of plain) stage went.stage went.goes.done went.goes.leads ends));
    }

-- a task that is done
pub task_done : (plain : Plain) (jobs : Jobs) (task : Task) (left : ℕ) → ((scripts : Scripts) (stage : Stage Actor) → Shows plain stage → Tells (config_of plain) scripts jobs stage → move_of (config_of plain) scripts stage task ≡ None) → DoesNoted plain jobs task left plain jobs left
task_done plain jobs task left no_move tasks from scripts stage shows tells =
    let went = going.task_done plain jobs task left no_move tasks from scripts stage shows tells in
    record { went = went; notes = λ ends. quiet (config_of plain) scripts stage went.stage (agenda (task ∷ tasks) from) (agenda tasks from) left went.goes (notes_of plain) (notes_of plain) refl }

-- an idle machine's turn notes nothing
idle_notes : (plain next_plain : Plain) (jobs : Jobs) (number : ℕ) (scripts : Scripts) (stage : Stage Actor) → NotesTurn plain jobs number next_plain → Shows plain stage → Tells (config_of plain) scripts jobs stage → turn scripts stage number ≡ None → IsEnding (config_of plain) stage → notes_of next_plain ≡ notes_of plain
idle_notes plain next_plain jobs number scripts stage notes shows tells no_turn ends =
    notes scripts stage shows tells ends ∙ ap (λ turned. noted (notes_of plain) (told_by (config_of plain) stage turned)) no_turn ∙ noted_none (notes_of plain)

-- a turn for a task whose machine is idle
pub task_idles : (plain next_plain : Plain) (jobs later : Jobs) (number : ℕ) (result : Stepped) (task : Task) (left : ℕ) → NotesTurn plain jobs number next_plain → HasTurned plain jobs number next_plain later result → result ≡ Idle
    → ((scripts : Scripts) (stage : Stage Actor) → Shows plain stage → Tells (config_of plain) scripts jobs stage → turn scripts stage number ≡ None → move_of (config_of plain) scripts stage task ≡ None) → DoesNoted plain jobs task left next_plain later left
task_idles plain next_plain jobs later number result task left notes turned idle no_turn tasks from scripts stage shows tells =
    let passed : IsPassed (config_of plain) scripts stage number next_plain later = subst (λ reply. Turned (config_of plain) scripts stage number next_plain later reply) idle (turned scripts stage shows tells) in
    let went = going.task_idles plain next_plain jobs later number result task left turned idle no_turn tasks from scripts stage shows tells in
    record {
      went = went;
      notes = λ ends. quiet (config_of plain) scripts stage went.stage (agenda (task ∷ tasks) from) (agenda tasks from) left went.goes (notes_of plain) (notes_of next_plain)
          (idle_notes plain next_plain jobs number scripts stage notes shows tells passed.idle ends);
    }

-- a turn for a task that makes an event
pub task_moves : (plain next_plain : Plain) (jobs later : Jobs) (number : ℕ) (result : Stepped) (task : Task) (more_tasks : List Task) (left : ℕ) → NotesTurn plain jobs number next_plain → HasTurned plain jobs number next_plain later result → (result ≡ Idle → ⊥) → 0 < left
    → ((scripts : Scripts) (stage : Stage Actor) → Shows plain stage → Tells (config_of plain) scripts jobs stage → waits_then (config_of plain) stage (turn scripts stage number) ≡ waiting_of result → move_of (config_of plain) scripts stage task ≡ moves (turn scripts stage number) more_tasks)
    → (tasks : List Task) (from : ℕ) → RunsNoted plain jobs (agenda (task ∷ tasks) from) left next_plain later (agenda (more_tasks ++ tasks) from) (left - 1)
task_moves plain next_plain jobs later number result task more_tasks left notes turned turn_busy some_left move tasks from scripts stage shows tells =
    let moved_on = moved_of (config_of plain) scripts stage number next_plain later result turn_busy (turned scripts stage shows tells) in
    let went = going.task_moves plain next_plain jobs later number result task more_tasks left turned turn_busy some_left move tasks from scripts stage shows tells in
    let next_is : next (config_of plain) scripts stage (agenda (task ∷ tasks) from) ≡ Some (record { event = moved_on.event; agenda = agenda (more_tasks ++ tasks) from }) =
    ap (λ next_move. after_move next_move tasks from (next_by (config_of plain) scripts stage tasks from))
    (move scripts stage shows tells (ap (waits_then (config_of plain) stage) moved_on.is ∙ moved_on.waits_is) ∙ ap (λ some_event. moves some_event more_tasks) moved_on.is) in
    record {
      went = went;
      notes = λ ends. told_so (config_of plain) scripts stage went.stage (agenda (task ∷ tasks) from) (agenda (more_tasks ++ tasks) from) left number went.goes _ (notes_of plain) (notes_of next_plain) some_left next_is moved_on.is (notes scripts stage shows tells ends);
    }

-- Rounds.

-- a turn of the rounds, of a machine that is idle
pub round_idles : (plain next_plain : Plain) (jobs later : Jobs) (seat : ℕ) (result : Stepped) (left : ℕ) → seat < seat_count (config_of plain).mutators (config_of plain).helpers → NotesTurn plain jobs seat next_plain → HasTurned plain jobs seat next_plain later result → result ≡ Idle → RunsNoted plain jobs (agenda [] seat) left next_plain later (agenda [] (seat + 1)) left
round_idles plain next_plain jobs later seat result left seat_below notes turned idle scripts stage shows tells =
    let passed : IsPassed (config_of plain) scripts stage seat next_plain later = subst (λ reply. Turned (config_of plain) scripts stage seat next_plain later reply) idle (turned scripts stage shows tells) in
    let went = rounds.round_idles plain next_plain jobs later seat result left seat_below turned idle scripts stage shows tells in
    record {
      went = went;
      notes = λ ends. quiet (config_of plain) scripts stage went.stage (agenda [] seat) (agenda [] (seat + 1)) left went.goes (notes_of plain) (notes_of next_plain)
          (idle_notes plain next_plain jobs seat scripts stage notes shows tells passed.idle ends);
    }

-- and of one that makes an event
pub round_moves : (plain next_plain : Plain) (jobs later : Jobs) (seat : ℕ) (result : Stepped) (left : ℕ) → seat < seat_count (config_of plain).mutators (config_of plain).helpers → NotesTurn plain jobs seat next_plain → HasTurned plain jobs seat next_plain later result → (result ≡ Idle → ⊥) → 0 < left → RunsNoted plain jobs (agenda [] seat) left next_plain later (agenda [] (seat + 1)) (left - 1)
round_moves plain next_plain jobs later seat result left seat_below notes turned turn_busy some_left scripts stage shows tells =
    let moved_on = moved_of (config_of plain) scripts stage seat next_plain later result turn_busy (turned scripts stage shows tells) in
    let went = rounds.round_moves plain next_plain jobs later seat result left seat_below turned turn_busy some_left scripts stage shows tells in
    record {
      went = went;
      notes = λ ends. told_so (config_of plain) scripts stage went.stage (agenda [] seat) (agenda [] (seat + 1)) left seat went.goes _ (notes_of plain) (notes_of next_plain) some_left
          (round_move (config_of plain) scripts stage seat moved_on.event seat_below moved_on.is) moved_on.is (notes scripts stage shows tells ends);
    }

-- after the last machine the next round begins
pub round_ends : (plain : Plain) (jobs : Jobs) (left : ℕ) → RunsNoted plain jobs (agenda [] (seat_count (config_of plain).mutators (config_of plain).helpers)) left plain jobs (agenda [] 0) left
round_ends plain jobs left scripts stage shows tells =
    let went = rounds.round_ends plain jobs left scripts stage shows tells in
    record { went = went; notes = λ ends. quiet (config_of plain) scripts stage went.stage _ (agenda [] 0) left went.goes (notes_of plain) (notes_of plain) refl }

-- Whole runs.

-- the end of a run: all machines are idle
pub ends_idle : (plain : Plain) (jobs : Jobs) (left : ℕ) → AllIdle plain jobs → EndsNoted plain jobs (agenda [] 0) left plain jobs Finished
ends_idle plain jobs left idle scripts stage shows tells = record {
  ran = rounds.ends_idle plain jobs left idle scripts stage shows tells;
  notes = λ ends. notes_none (config_of plain) stage (notes_of plain)
      ∙ ap (λ events. noted (notes_of plain) (history pause_image (config_of plain) stage events)) (sym (scheduled_none (config_of plain) scripts stage (agenda [] 0) left (idle_round (config_of plain) scripts stage (idle scripts stage shows tells))));
}

-- with no event left there is none
scheduled_out : (config : Config) (scripts : Scripts) (stage : Stage Actor) (left : ℕ) → left ≡ 0 → scheduled pause_image config scripts left (agenda [] 0) stage ≡ []
unfolding scheduled
scheduled_out config scripts stage left none_left = ap (λ count. scheduled pause_image config scripts count (agenda [] 0) stage) none_left

-- or no more steps are allowed
pub ends_out : (plain : Plain) (jobs : Jobs) (left : ℕ) → left ≡ 0 → SomeBusy plain jobs → EndsNoted plain jobs (agenda [] 0) left plain jobs Unfinished
ends_out plain jobs left none_left busy scripts stage shows tells = record {
  ran = rounds.ends_out plain jobs left none_left busy scripts stage shows tells;
  notes = λ ends. notes_none (config_of plain) stage (notes_of plain) ∙ ap (λ events. noted (notes_of plain) (history pause_image (config_of plain) stage events)) (sym (scheduled_out (config_of plain) scripts stage left none_left));
}

-- a run that goes on to its end
pub ends_then : (first_plain second_plain third_plain : Plain) (jobs later last_jobs : Jobs) (todo rest : Agenda) (limit left : ℕ) (result : Ran) → config_of second_plain ≡ config_of first_plain → RunsNoted first_plain jobs todo limit second_plain later rest left → EndsNoted second_plain later rest left third_plain last_jobs result → EndsNoted first_plain jobs todo limit third_plain last_jobs result
ends_then plain next_plain third_plain jobs later last_jobs todo rest limit left result same_config runs ends scripts stage shows tells =
    let given_config = config_of plain in
    let first_gone = runs scripts stage shows tells in
    let went = first_gone.went in
    let run_end : HasRunNoted given_config scripts went.stage rest left next_plain third_plain last_jobs result = subst (λ config. HasRunNoted config scripts went.stage rest left next_plain third_plain last_jobs result) same_config
    (ends scripts went.stage went.shows (subst (λ config. Tells config scripts later went.stage) (sym same_config) went.tells)) in
    record {
      ran = rounds.ends_then plain next_plain third_plain jobs later last_jobs todo rest limit left result same_config (λ given_scripts given_stage x y. (runs given_scripts given_stage x y).went) (λ given_scripts given_stage x y. (ends given_scripts given_stage x y).ran) scripts stage shows tells;
      notes = λ ending_is.
          notes_then given_config stage went.stage went.goes.done (scheduled pause_image given_config scripts left rest went.stage) (notes_of plain) (notes_of next_plain) (notes_of third_plain) went.goes.leads (first_gone.notes ending_is)
          (run_end.notes (ending_on given_config stage went.stage went.goes.done went.goes.leads ending_is))
          ∙ ap (λ events. noted (notes_of plain) (history pause_image given_config stage events)) (sym went.goes.events);
    }

-- an item more
pub item_step : (plain next_plain : Plain) (jobs later : Jobs) (items : List Item) (index : ℕ) (item : Item) (left remaining : ℕ) → index < length items → DoesNoted plain jobs (task_of (get_or items index item)) left next_plain later remaining
    → RunsNoted plain jobs (agenda (map task_of (drop index items)) 0) left next_plain later (agenda (map task_of (drop (index + 1) items)) 0) remaining
item_step plain next_plain jobs later items index item left remaining index_below task_done =
    subst (λ given_items. RunsNoted plain jobs (agenda (map task_of given_items) 0) left next_plain later (agenda (map task_of (drop (index + 1) items)) 0) remaining)
    (sym (drop_more items index item index_below)) (task_done (map task_of (drop (index + 1) items)) 0)
