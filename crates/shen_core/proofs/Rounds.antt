-- Rounds: the machines take turns by their numbers.
use Rattle.std.proofs.Common.{◌≡◌, ◌<◌, ◌≤◌, ⊎_elim, ℕ, zero, suc, ◌+◌, ◌-◌, List, [], ◌∷◌, ◌++◌, length, map, Option, Some, None, refl, sym, ap, ◌∙◌, subst, arith, append_assoc, drop, get_or}
use Rattle.heap_machines.specs.Pause.{pause_image}
use Rattle.std.specs.List.{range_with_len}
use Rattle.std.proofs.lemmas.Bool.{cases_eq}
use Rattle.std.proofs.lemmas.List.{drop_more, length-append, append-nil}
use Rattle.heap_words.specs.declared.schedule.Item.{Item}
use Rattle.step_core.specs.Schedule.{task_of, Scripts, turn, Agenda, next, numbers_from, first_turn, or_else, round_of, and_then, scheduled}
use Rattle.shen_core.specs.Progress.{DoesTask, Jobs, Tells, Runs, agenda, Turned, HasTurned, IsPassed, AreIdle, AllIdle, SomeBusy}
use Rattle.heap_words.specs.declared.config.Config.{Config}
use Rattle.heap_words.specs.Ranges.{seat_count}
use Rattle.heap_words.specs.Steps.{Stage, Event, act, go}
use Rattle.heap_words.proofs.Runs.{go-none, go-append}
use Rattle.shen_graph.specs.declared.order.Order.{Order}
use Rattle.step_core.specs.Actor.{Actor}
use Rattle.step_core.specs.Machines.{kind}
use Rattle.shen_core.specs.declared.plain.Plain.{Plain}
use Rattle.shen_core.specs.declared.run.Ran.{Ran}
use Rattle.shen_core.specs.declared.run.Ran.TheVariants.{Finished, Unfinished}
use Rattle.heap_machines.specs.declared.stepped.Stepped.{Stepped}
use Rattle.heap_machines.specs.declared.stepped.Stepped.TheVariants.{Idle}
use Rattle.shen_core.specs.State.{config_of, Shows, IsUnchanged}
use Rattle.shen_core.specs.WholeRun.{HasEnded, HasRun, EndsRun}
use Rattle.shen_core.proofs.Going.{goes_same, goes_next, moved_of}
use Rattle.shen_core.proofs.Turns.{turn_number}
use Rattle.shen_core.proofs.Calls.{all_call, all_have_called}

-- one number more, at the end
range_more : (start count : ℕ) → range_with_len start (suc count) ≡ range_with_len start count ++ (start + count) ∷ []
range_more start zero = ap (λ last_number. last_number ∷ []) (omega arith)
range_more start (suc count) = ap (λ numbers. start ∷ numbers) (range_more (start + 1) count ∙ ap (λ last_number. range_with_len (start + 1) count ++ last_number ∷ []) (omega arith))

-- the first turn of two lists of machines
first_turn-append : (scripts : Scripts) (stage : Stage Actor) (numbers later_numbers : List ℕ) → first_turn scripts stage (numbers ++ later_numbers) ≡ or_else (first_turn scripts stage numbers) (first_turn scripts stage later_numbers)
first_turn-append scripts stage [] later_numbers = refl
first_turn-append scripts stage (number ∷ numbers) later_numbers = ap (or_else (turn scripts stage number)) (first_turn-append scripts stage numbers later_numbers) ∙ assoc (turn scripts stage number) (first_turn scripts stage numbers) (first_turn scripts stage later_numbers)
  where
    assoc : (first_event second_event third_event : Option (Event Order)) → or_else first_event (or_else second_event third_event) ≡ or_else (or_else first_event second_event) third_event
    assoc None second_event third_event = refl
    assoc (Some event) second_event third_event = refl

-- a turn or none
or_none : (found : Option (Event Order)) → or_else found None ≡ found
or_none None = refl
or_none (Some event) = refl

-- the numbers from one on: it comes first
numbers_step : (config : Config) (seat : ℕ) → seat < seat_count config.mutators config.helpers → numbers_from config seat ≡ seat ∷ (range_with_len (seat + 1) (seat_count config.mutators config.helpers - (seat + 1)) ++ range_with_len 0 seat)
numbers_step config seat seat_below =
    let count_more : seat_count config.mutators config.helpers - seat ≡ suc (seat_count config.mutators config.helpers - (seat + 1)) = omega arith in
    ap (λ count. range_with_len seat count ++ range_with_len 0 seat) count_more

-- the numbers from the next one on: it comes last
numbers_after : (config : Config) (seat : ℕ) → numbers_from config (seat + 1) ≡ (range_with_len (seat + 1) (seat_count config.mutators config.helpers - (seat + 1)) ++ range_with_len 0 seat) ++ seat ∷ []
numbers_after config seat =
    let next_number : seat + 1 ≡ suc seat = omega arith in
    let same_seat : 0 + seat ≡ seat = omega arith in
    ap (λ numbers. range_with_len (seat + 1) (seat_count config.mutators config.helpers - (seat + 1)) ++ numbers) (ap (range_with_len 0) next_number ∙ range_more 0 seat ∙ ap (λ seat_number. range_with_len 0 seat ++ seat_number ∷ []) same_seat)
    ∙ sym (append_assoc (range_with_len (seat + 1) (seat_count config.mutators config.helpers - (seat + 1))) (range_with_len 0 seat) (seat ∷ []))

-- an idle machine is passed over
pub round_pass : (config : Config) (scripts : Scripts) (stage : Stage Actor) (seat : ℕ) → seat < seat_count config.mutators config.helpers → turn scripts stage seat ≡ None → next config scripts stage (agenda [] seat) ≡ next config scripts stage (agenda [] (seat + 1))
round_pass config scripts stage seat seat_below idle =
    let later_seats = range_with_len (seat + 1) (seat_count config.mutators config.helpers - (seat + 1)) ++ range_with_len 0 seat in
    ap round_of
    (ap (first_turn scripts stage) (numbers_step config seat seat_below) ∙ ap (λ turn_found. or_else turn_found (first_turn scripts stage later_seats)) idle
    ∙ sym (ap (first_turn scripts stage) (numbers_after config seat) ∙ first_turn-append scripts stage later_seats (seat ∷ [])
    ∙ ap (λ turn_found. or_else (first_turn scripts stage later_seats) (or_else turn_found None)) idle ∙ or_none (first_turn scripts stage later_seats)))

-- a machine that is not idle makes the next event, and then the next machine has its turn
pub round_move : (config : Config) (scripts : Scripts) (stage : Stage Actor) (seat : ℕ) (event : Event Order) → seat < seat_count config.mutators config.helpers → turn scripts stage seat ≡ Some event → next config scripts stage (agenda [] seat) ≡ Some (record { event = event; agenda = agenda [] (seat + 1) })
round_move config scripts stage seat event seat_below turn_is =
    ap round_of (ap (first_turn scripts stage) (numbers_step config seat seat_below) ∙ ap (λ turn_found. or_else turn_found (first_turn scripts stage (range_with_len (seat + 1) (seat_count config.mutators config.helpers - (seat + 1)) ++ range_with_len 0 seat))) turn_is)
    ∙ ap (λ number. Some (record { event = event; agenda = agenda [] (number + 1) })) (turn_number scripts stage seat event turn_is)

-- after the last machine the first one comes
pub round_again : (config : Config) (scripts : Scripts) (stage : Stage Actor) → next config scripts stage (agenda [] (seat_count config.mutators config.helpers)) ≡ next config scripts stage (agenda [] 0)
round_again config scripts stage =
    let seats = seat_count config.mutators config.helpers in
    let none_behind : seats - seats ≡ 0 = omega arith in
    let all_seats : seats - 0 ≡ seats = omega arith in
    let last_numbers : numbers_from config seats ≡ range_with_len 0 seats = ap (λ count. range_with_len seats count ++ range_with_len 0 seats) none_behind in
    let first_numbers : numbers_from config 0 ≡ range_with_len 0 seats = ap (λ count. range_with_len 0 count ++ []) all_seats ∙ append-nil (range_with_len 0 seats) in
    ap (λ numbers. round_of (first_turn scripts stage numbers)) (last_numbers ∙ sym first_numbers)

-- among idle machines there is no turn
none_turn : (scripts : Scripts) (stage : Stage Actor) (start count : ℕ) → ((number : ℕ) → start ≤ number → number < start + count → turn scripts stage number ≡ None) → first_turn scripts stage (range_with_len start count) ≡ None
none_turn scripts stage start zero each_idle = refl
none_turn scripts stage start (suc count) each_idle = ap (λ turn_found. or_else turn_found (first_turn scripts stage (range_with_len (start + 1) count))) (each_idle start (omega arith) (omega arith)) ∙ none_turn scripts stage (start + 1) count (λ number from number_below. each_idle number (omega arith) (omega arith))

-- where all are idle there is no event
pub idle_round : (config : Config) (scripts : Scripts) (stage : Stage Actor) → AreIdle config scripts stage → next config scripts stage (agenda [] 0) ≡ None
idle_round config scripts stage idle =
    let seats = seat_count config.mutators config.helpers in
    let all_seats : seats - 0 ≡ seats = omega arith in
    let first_numbers : numbers_from config 0 ≡ range_with_len 0 seats = ap (λ count. range_with_len 0 count ++ []) all_seats ∙ append-nil (range_with_len 0 seats) in
    ap (λ numbers. round_of (first_turn scripts stage numbers)) first_numbers
    ∙ ap round_of (none_turn scripts stage 0 seats (λ number from number_below. idle number (omega arith)))

-- where there is no event, the schedule has none
pub scheduled_none : (config : Config) (scripts : Scripts) (stage : Stage Actor) (todo : Agenda) (left : ℕ) → next config scripts stage todo ≡ None → scheduled pause_image config scripts left todo stage ≡ []
unfolding scheduled
scheduled_none config scripts stage todo zero no_next = refl
scheduled_none config scripts stage todo (suc remaining) no_next = ap (λ next_found. and_then next_found (λ next_event. scheduled pause_image config scripts remaining next_event.agenda (act (kind pause_image config) stage next_event.event))) no_next

-- a turn of the rounds, of a machine that is idle
pub round_idles : (plain next_plain : Plain) (jobs later : Jobs) (seat : ℕ) (result : Stepped) (left : ℕ) → seat < seat_count (config_of plain).mutators (config_of plain).helpers → HasTurned plain jobs seat next_plain later result → result ≡ Idle → Runs plain jobs (agenda [] seat) left next_plain later (agenda [] (seat + 1)) left
round_idles plain next_plain jobs later seat result left seat_below turned idle scripts stage shows tells =
    let passed : IsPassed (config_of plain) scripts stage seat next_plain later = subst (λ outcome. Turned (config_of plain) scripts stage seat next_plain later outcome) idle (turned scripts stage shows tells) in
    record { stage = stage; goes = goes_same (config_of plain) scripts stage (agenda [] seat) (agenda [] (seat + 1)) left (round_pass (config_of plain) scripts stage seat seat_below passed.idle); shows = passed.shows; tells = passed.tells }

-- and of one that makes an event
pub round_moves : (plain next_plain : Plain) (jobs later : Jobs) (seat : ℕ) (result : Stepped) (left : ℕ) → seat < seat_count (config_of plain).mutators (config_of plain).helpers → HasTurned plain jobs seat next_plain later result → (result ≡ Idle → ⊥) → 0 < left → Runs plain jobs (agenda [] seat) left next_plain later (agenda [] (seat + 1)) (left - 1)
round_moves plain next_plain jobs later seat result left seat_below turned turn_busy some_left scripts stage shows tells =
    let moved_on = moved_of (config_of plain) scripts stage seat next_plain later result turn_busy (turned scripts stage shows tells) in
    record {
      stage = act (kind pause_image (config_of plain)) stage moved_on.event;
      goes = goes_next (config_of plain) scripts stage (agenda [] seat) (agenda [] (seat + 1)) moved_on.event left some_left (round_move (config_of plain) scripts stage seat moved_on.event seat_below moved_on.is);
      shows = moved_on.shows;
      tells = moved_on.tells;
    }

-- after the last machine the next round begins
pub round_ends : (plain : Plain) (jobs : Jobs) (left : ℕ) → Runs plain jobs (agenda [] (seat_count (config_of plain).mutators (config_of plain).helpers)) left plain jobs (agenda [] 0) left
round_ends plain jobs left scripts stage shows tells = record {
  stage = stage;
  goes = goes_same (config_of plain) scripts stage _ _ left (round_again (config_of plain) scripts stage);
  shows = shows;
  tells = tells;
}

-- what a run that has ended says besides of the calls of its mutators
has_run : (config : Config) (scripts : Scripts) (stage : Stage Actor) (todo : Agenda) (limit : ℕ) (plain : Plain) (later : Jobs) (result : Ran) → Shows plain (go (kind pause_image config) stage (scheduled pause_image config scripts limit todo stage)) → Tells config scripts later (go (kind pause_image config) stage (scheduled pause_image config scripts limit todo stage))
    → HasEnded config scripts (go (kind pause_image config) stage (scheduled pause_image config scripts limit todo stage)) (length (scheduled pause_image config scripts limit todo stage)) limit result → HasRun config scripts stage todo limit plain later result
has_run config scripts stage todo limit plain later result shows tells run_ended = record {
  shows = shows;
  tells = tells;
  ended = run_ended;
  calls = all_call config scripts limit todo stage;
  whole = λ finished calls.
      all_have_called config scripts _ (subst (λ outcome. HasEnded config scripts (go (kind pause_image config) stage (scheduled pause_image config scripts limit todo stage)) (length (scheduled pause_image config scripts limit todo stage)) limit outcome) finished run_ended) (all_call config scripts limit todo stage calls);
}

-- the end of a run: all machines are idle
pub ends_idle : (plain : Plain) (jobs : Jobs) (left : ℕ) → AllIdle plain jobs → EndsRun plain jobs (agenda [] 0) left plain jobs Finished
ends_idle plain jobs left idle scripts given_stage shows tells =
    let none_scheduled = scheduled_none (config_of plain) scripts given_stage (agenda [] 0) left (idle_round (config_of plain) scripts given_stage (idle scripts given_stage shows tells)) in
    let same_stage : go (kind pause_image (config_of plain)) given_stage (scheduled pause_image (config_of plain) scripts left (agenda [] 0) given_stage) ≡ given_stage = ap (go (kind pause_image (config_of plain)) given_stage) none_scheduled ∙ go-none (kind pause_image (config_of plain)) given_stage in
    has_run (config_of plain) scripts given_stage (agenda [] 0) left plain jobs Finished
    (subst (λ asked_stage. Shows plain asked_stage) (sym same_stage) shows)
    (subst (λ stage. Tells (config_of plain) scripts jobs stage) (sym same_stage) tells)
    (subst (λ asked_stage. AreIdle (config_of plain) scripts asked_stage) (sym same_stage) (idle scripts given_stage shows tells))

-- or no more steps are allowed
pub ends_out : (plain : Plain) (jobs : Jobs) (left : ℕ) → left ≡ 0 → SomeBusy plain jobs → EndsRun plain jobs (agenda [] 0) left plain jobs Unfinished
unfolding scheduled
ends_out plain jobs left none_left busy scripts given_stage shows tells =
    let none_scheduled : scheduled pause_image (config_of plain) scripts left (agenda [] 0) given_stage ≡ [] = ap (λ event_limit. scheduled pause_image (config_of plain) scripts event_limit (agenda [] 0) given_stage) none_left in
    let same_stage : go (kind pause_image (config_of plain)) given_stage (scheduled pause_image (config_of plain) scripts left (agenda [] 0) given_stage) ≡ given_stage = ap (go (kind pause_image (config_of plain)) given_stage) none_scheduled ∙ go-none (kind pause_image (config_of plain)) given_stage in
    has_run (config_of plain) scripts given_stage (agenda [] 0) left plain jobs Unfinished
    (subst (λ asked_stage. Shows plain asked_stage) (sym same_stage) shows)
    (subst (λ stage. Tells (config_of plain) scripts jobs stage) (sym same_stage) tells)
    (λ idle. busy scripts given_stage shows tells (subst (λ asked_stage. AreIdle (config_of plain) scripts asked_stage) same_stage idle), ap length none_scheduled ∙ sym none_left)

-- an end after more events
ended_more : (config : Config) (scripts : Scripts) (stage later_stage : Stage Actor) (steps_done more_steps left limit : ℕ) (result : Ran) → later_stage ≡ stage → steps_done + left ≡ limit → HasEnded config scripts stage more_steps left result → HasEnded config scripts later_stage (steps_done + more_steps) limit result
ended_more config scripts stage later_stage steps_done more_steps left limit Finished same_stage count more_ended = subst (λ x. AreIdle config scripts x) (sym same_stage) more_ended
ended_more config scripts stage later_stage steps_done more_steps left limit Unfinished same_stage count more_ended = (λ idle. more_ended.0 (subst (λ x. AreIdle config scripts x) same_stage idle), (let end_is = more_ended.1 in omega arith))

-- a run that goes on to its end
pub ends_then : (first_plain second_plain third_plain : Plain) (jobs later last_jobs : Jobs) (todo rest : Agenda) (limit left : ℕ) (result : Ran) → config_of second_plain ≡ config_of first_plain → Runs first_plain jobs todo limit second_plain later rest left → EndsRun second_plain later rest left third_plain last_jobs result → EndsRun first_plain jobs todo limit third_plain last_jobs result
ends_then plain next_plain third_plain jobs later last_jobs todo rest limit left result same_config runs ends scripts given_stage shows tells =
    let went = runs scripts given_stage shows tells in
    let given_config = config_of plain in
    let run_end : HasRun given_config scripts went.stage rest left third_plain last_jobs result = subst (λ config. HasRun config scripts went.stage rest left third_plain last_jobs result) same_config
    (ends scripts went.stage went.shows (subst (λ config. Tells config scripts later went.stage) (sym same_config) went.tells)) in
    let stages : go (kind pause_image given_config) given_stage (scheduled pause_image given_config scripts limit todo given_stage) ≡ go (kind pause_image given_config) went.stage (scheduled pause_image given_config scripts left rest went.stage) =
    ap (go (kind pause_image given_config) given_stage) went.goes.events ∙ go-append (kind pause_image given_config) given_stage went.goes.done _ ∙ ap (λ asked_stage. go (kind pause_image given_config) asked_stage (scheduled pause_image given_config scripts left rest went.stage)) went.goes.leads in
    let lengths : length (scheduled pause_image given_config scripts limit todo given_stage) ≡ length went.goes.done + length (scheduled pause_image given_config scripts left rest went.stage) = ap length went.goes.events ∙ length-append went.goes.done _ in
    has_run given_config scripts given_stage todo limit third_plain last_jobs result
    (subst (λ asked_stage. Shows third_plain asked_stage) (sym stages) run_end.shows)
    (subst (λ stage. Tells given_config scripts last_jobs stage) (sym stages) run_end.tells)
    (subst (λ event_count. HasEnded given_config scripts (go (kind pause_image given_config) given_stage (scheduled pause_image given_config scripts limit todo given_stage)) event_count limit result) (sym lengths)
    (ended_more given_config scripts _ _ (length went.goes.done) _ left limit result stages went.goes.count run_end.ended))

-- the idle machines so far, and one more
pub idle_more : (plain next_plain : Plain) (jobs later : Jobs) (number : ℕ) (result : Stepped) → IsUnchanged plain next_plain → later ≡ jobs → HasTurned plain jobs number next_plain later result → result ≡ Idle
    → ((scripts : Scripts) (stage : Stage Actor) → Shows plain stage → Tells (config_of plain) scripts jobs stage → (machine_number : ℕ) → machine_number < number → turn scripts stage machine_number ≡ None)
    → (scripts : Scripts) (stage : Stage Actor) → Shows next_plain stage → Tells (config_of next_plain) scripts later stage → (machine_number : ℕ) → machine_number < number + 1 → turn scripts stage machine_number ≡ None
idle_more plain next_plain jobs later number result unchanged work_is turned idle idle_before scripts stage shows tells machine_number number_below =
    let shows_before : Shows plain stage = record { words_are = shows.words_are ∙ unchanged.words; machines_are = shows.machines_are ∙ unchanged.machines } in
    let tells_before : Tells (config_of plain) scripts jobs stage = subst (λ config. Tells config scripts jobs stage) unchanged.config (subst (λ jobs. Tells (config_of next_plain) scripts jobs stage) work_is tells) in
    let passed : IsPassed (config_of plain) scripts stage number next_plain later = subst (λ outcome. Turned (config_of plain) scripts stage number next_plain later outcome) idle (turned scripts stage shows_before tells_before) in
    ⊎_elim
    (λ (same_number : machine_number ≡ number). ap (turn scripts stage) same_number ∙ passed.idle)
    (λ (numbers_differ : machine_number ≡ number → ⊥). idle_before scripts stage shows_before tells_before machine_number (omega arith))
    (cases_eq machine_number number)

-- an item more
pub item_step : (plain next_plain : Plain) (jobs later : Jobs) (items : List Item) (index : ℕ) (item : Item) (left remaining : ℕ) → index < length items → DoesTask plain jobs (task_of (get_or items index item)) left next_plain later remaining
    → Runs plain jobs (agenda (map task_of (drop index items)) 0) left next_plain later (agenda (map task_of (drop (index + 1) items)) 0) remaining
item_step plain next_plain jobs later items index item left remaining index_below task_done =
    subst (λ given_items. Runs plain jobs (agenda (map task_of given_items) 0) left next_plain later (agenda (map task_of (drop (index + 1) items)) 0) remaining)
    (sym (drop_more items index item index_below)) (task_done (map task_of (drop (index + 1) items)) 0)
