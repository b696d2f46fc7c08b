-- How a schedule goes on.
use Rattle.std.proofs.Common.{◌≡◌, ◌<◌, ℕ, zero, suc, ◌-◌, Bool, true, false, List, [], ◌∷◌, ◌++◌, length, Some, None, refl, sym, ap, ◌∙◌, subst, arith, append_assoc}
use Rattle.heap_machines.specs.Pause.{pause_image}
use Rattle.std.proofs.lemmas.List.{length-append, length-map}
use Rattle.std.specs.Prelude.{nat_le}
use Rattle.heap_words.specs.declared.config.Config.{Config}
use Rattle.heap_words.specs.declared.place.Place.{Place}
use Rattle.heap_words.specs.Steps.{Stage, Event, act, go}
use Rattle.heap_words.proofs.Runs.{go-none, go-first, go-append}
use Rattle.shen_graph.specs.declared.order.Order.{Order}
use Rattle.step_core.specs.Actor.{Actor}
use Rattle.step_core.specs.Machines.{kind}
use Rattle.step_core.specs.Schedule.{Scripts, turn, waits_then, is_at_place, given, given_of, Task, steps, until, replies, moves, move_of, control_after, Agenda, next, next_by, after_move, and_then, scheduled}
use Rattle.shen_core.specs.declared.plain.Plain.{Plain}
use Rattle.shen_core.specs.State.{config_of, words_of, machines_of, machine_at, seats_of, Shows}
use Rattle.heap_machines.specs.Shown.{shown}
use Rattle.heap_words.specs.Ranges.{seat_count}
use Rattle.shen_graph.specs.Work as work
use Rattle.shen_core.proofs.Events.{shown_actor}
use Rattle.shen_core.proofs.Turns.{machine_within}
use Rattle.shen_core.specs.Progress.{Jobs, Goes, Tells, WentOn, Runs, DoesTask, agenda, Turned, HasTurned, IsPassed, IsMovedOn}
use Rattle.heap_machines.specs.declared.stepped.Stepped.{Stepped}
use Rattle.heap_machines.specs.declared.stepped.Stepped.TheVariants.{More, Again, Done, Idle}

module _ (config : Config) (scripts : Scripts) where
  -- with no event it stays
  pub goes_none : (stage : Stage Actor) (todo : Agenda) (events_left : ℕ) → Goes config scripts stage todo events_left stage todo events_left
  goes_none stage todo events_left = record { done = []; leads = go-none (kind pause_image config) stage; events = refl; count = omega arith }

  -- two parts follow each other
  unfoldable pub goes_then : (first_stage middle_stage last_stage : Stage Actor) (todo rest last_agenda : Agenda) (events_left later left_over : ℕ) → Goes config scripts first_stage todo events_left middle_stage rest later → Goes config scripts middle_stage rest later last_stage last_agenda left_over → Goes config scripts first_stage todo events_left last_stage last_agenda left_over
  goes_then stage between_stage last_stage todo rest last_agenda events_left later left_over first_part second_part = record {
    done = first_part.done ++ second_part.done;
    leads = go-append (kind pause_image config) stage first_part.done second_part.done ∙ ap (λ stage_now. go (kind pause_image config) stage_now second_part.done) first_part.leads ∙ second_part.leads;
    events = first_part.events ∙ ap (λ some_events. first_part.done ++ some_events) second_part.events ∙ sym (append_assoc first_part.done second_part.done (scheduled pause_image config scripts left_over last_agenda last_stage));
    count = (let count = first_part.count in let second_count = second_part.count in let done_length = length-append first_part.done second_part.done in omega arith);
  }

  -- where no event is left, it does not matter what is to be done
  pub goes_out : (stage : Stage Actor) (todo rest : Agenda) → Goes config scripts stage todo 0 stage rest 0
  unfolding scheduled
  goes_out stage todo rest = record { done = []; leads = go-none (kind pause_image config) stage; events = refl; count = omega arith }

  -- where the next event is the same, it goes on the same
  pub goes_same : (stage : Stage Actor) (todo rest : Agenda) (events_left : ℕ) → next config scripts stage todo ≡ next config scripts stage rest → Goes config scripts stage todo events_left stage rest events_left
  unfolding scheduled
  goes_same stage todo rest zero same_next = goes_out stage todo rest
  goes_same stage todo rest (suc n) same_next = record {
    done = [];
    leads = go-none (kind pause_image config) stage;
    events = ap (λ found_next. and_then found_next (λ turned. scheduled pause_image config scripts n turned.agenda (act (kind pause_image config) stage turned.event))) same_next;
    count = omega arith;
  }

  -- the next event
  pub goes_next : (stage : Stage Actor) (todo rest : Agenda) (event : Event Order) (events_left : ℕ) → 0 < events_left → next config scripts stage todo ≡ Some (record { event = event; agenda = rest }) → Goes config scripts stage todo events_left (act (kind pause_image config) stage event) rest (events_left - 1)
  unfolding scheduled
  goes_next stage todo rest event zero some_left next_event = absurd (omega arith)
  goes_next stage todo rest event (suc n) some_left next_event = record {
    done = event ∷ [];
    leads = go-first (kind pause_image config) stage event [] ∙ go-none (kind pause_image config) (act (kind pause_image config) stage event);
    events = ap (λ found. and_then found (λ turned. scheduled pause_image config scripts n turned.agenda (act (kind pause_image config) stage turned.event))) next_event
        ∙ ap (λ left. event ∷ scheduled pause_image config scripts left rest (act (kind pause_image config) stage event)) (omega arith);
    count = omega arith;
  }

  -- a task that has no event
  pub goes_done : (stage : Stage Actor) (task : Task) (tasks : List Task) (from events_left : ℕ) → move_of config scripts stage task ≡ None → Goes config scripts stage (agenda (task ∷ tasks) from) events_left stage (agenda tasks from) events_left
  goes_done stage task tasks from events_left no_move = goes_same stage (agenda (task ∷ tasks) from) (agenda tasks from) events_left
      (ap (λ move. after_move move tasks from (next_by config scripts stage tasks from)) no_move)

  -- an event of a task
  pub goes_task : (stage : Stage Actor) (task : Task) (more_tasks tasks : List Task) (from : ℕ) (event : Event Order) (events_left : ℕ) → 0 < events_left → move_of config scripts stage task ≡ Some (record { event = event; tasks = more_tasks })
      → Goes config scripts stage (agenda (task ∷ tasks) from) events_left (act (kind pause_image config) stage event) (agenda (more_tasks ++ tasks) from) (events_left - 1)
  goes_task stage task more_tasks tasks from event events_left some_left move_made = goes_next stage (agenda (task ∷ tasks) from) (agenda (more_tasks ++ tasks) from) event events_left some_left
      (ap (λ move. after_move move tasks from (next_by config scripts stage tasks from)) move_made)

  -- the tasks by the turn of their machine
  pub steps_move : (stage : Stage Actor) (number wanted : ℕ) → 0 < wanted → move_of config scripts stage (steps number wanted) ≡ moves (turn scripts stage number) (steps number (wanted - 1) ∷ [])
  steps_move stage number zero some_wanted = absurd (omega arith)
  steps_move stage number (suc wanted_later) some_wanted = ap (λ count. moves (turn scripts stage number) (steps number count ∷ [])) (omega arith)

  -- a task ends where its machine has come to the place
  pub until_there : (stage : Stage Actor) (number : ℕ) (place : Place) → is_at_place scripts stage number place ≡ true → move_of config scripts stage (until number place) ≡ None
  until_there stage number place place_reached = rw place_reached refl

  -- before that its machine has a turn
  pub until_move : (stage : Stage Actor) (number : ℕ) (place : Place) → is_at_place scripts stage number place ≡ false → move_of config scripts stage (until number place) ≡ moves (turn scripts stage number) (until number place ∷ [])
  until_move stage number place away = rw away refl

  -- a task ends where the replies were given
  pub replies_given : (stage : Stage Actor) (number count : ℕ) → nat_le count (given stage number) ≡ true → move_of config scripts stage (replies number count) ≡ None
  replies_given stage number count enough = rw enough refl

  -- before that its machine has a turn
  pub replies_move : (stage : Stage Actor) (number count : ℕ) → nat_le count (given stage number) ≡ false → move_of config scripts stage (replies number count) ≡ moves (turn scripts stage number) (control_after (waits_then config stage (turn scripts stage number)) ++ replies number count ∷ [])
  replies_move stage number count few_given = rw few_given refl

-- whether a step has said that it waits
abbrev pub waiting_of : Stepped → Bool
waiting_of Again = true
waiting_of _ = false

-- a turn that is not idle makes an event
pub moved_of : (config : Config) (scripts : Scripts) (stage : Stage Actor) (number : ℕ) (plain : Plain) (later : Jobs) (result : Stepped) → (result ≡ Idle → ⊥) → Turned config scripts stage number plain later result → IsMovedOn config scripts stage number plain later (waiting_of result)
moved_of config scripts stage number plain later More turn_busy turned = turned
moved_of config scripts stage number plain later Again turn_busy turned = turned
moved_of config scripts stage number plain later Done turn_busy turned = turned
moved_of config scripts stage number plain later Idle turn_busy turned = absurd (turn_busy refl)

-- with no event memory stays
pub runs_none : (plain : Plain) (jobs : Jobs) (todo : Agenda) (events_left : ℕ) → Runs plain jobs todo events_left plain jobs todo events_left
runs_none plain jobs todo events_left scripts any_stage shows tells = record { stage = any_stage; goes = goes_none (config_of plain) scripts any_stage todo events_left; shows = shows; tells = tells }

-- two parts of a run follow each other
pub runs_then : (first_plain middle_plain last_plain : Plain) (jobs later last_jobs : Jobs) (todo rest last_agenda : Agenda) (events_left middle remaining : ℕ) → config_of middle_plain ≡ config_of first_plain → Runs first_plain jobs todo events_left middle_plain later rest middle → Runs middle_plain later rest middle last_plain last_jobs last_agenda remaining → Runs first_plain jobs todo events_left last_plain last_jobs last_agenda remaining
runs_then plain between_plain last_plain jobs later last_jobs todo rest last_agenda events_left middle remaining same_config first_part second_part scripts stage shows tells =
    let went = first_part scripts stage shows tells in
    let second_went = subst (λ config. WentOn config scripts went.stage rest middle last_plain last_jobs last_agenda remaining) same_config
    (second_part scripts went.stage went.shows (subst (λ config. Tells config scripts later went.stage) (sym same_config) went.tells)) in
    record { stage = second_went.stage; goes = goes_then (config_of plain) scripts stage went.stage second_went.stage todo rest last_agenda events_left middle remaining went.goes second_went.goes; shows = second_went.shows; tells = second_went.tells }

-- without events left
pub runs_out : (plain : Plain) (jobs : Jobs) (todo rest : Agenda) (events_left : ℕ) → events_left ≡ 0 → Runs plain jobs todo events_left plain jobs rest events_left
runs_out plain jobs todo rest events_left none_left scripts any_stage shows tells = record {
  stage = any_stage;
  goes = subst (λ later. Goes (config_of plain) scripts any_stage todo later any_stage rest later) (sym none_left) (goes_out (config_of plain) scripts any_stage todo rest);
  shows = shows;
  tells = tells;
}

-- a task that is done
pub task_done : (plain : Plain) (jobs : Jobs) (task : Task) (events_left : ℕ) → ((scripts : Scripts) (stage : Stage Actor) → Shows plain stage → Tells (config_of plain) scripts jobs stage → move_of (config_of plain) scripts stage task ≡ None) → DoesTask plain jobs task events_left plain jobs events_left
task_done plain jobs task events_left no_move tasks from scripts stage shows tells = record {
  stage = stage;
  goes = goes_done (config_of plain) scripts stage task tasks from events_left (no_move scripts stage shows tells);
  shows = shows;
  tells = tells;
}

-- a turn for a task whose machine is idle
pub task_idles : (plain next_plain : Plain) (jobs later : Jobs) (number : ℕ) (result : Stepped) (task : Task) (events_left : ℕ) → HasTurned plain jobs number next_plain later result → result ≡ Idle
    → ((scripts : Scripts) (stage : Stage Actor) → Shows plain stage → Tells (config_of plain) scripts jobs stage → turn scripts stage number ≡ None → move_of (config_of plain) scripts stage task ≡ None) → DoesTask plain jobs task events_left next_plain later events_left
task_idles plain next_plain jobs later number result task events_left turned idle no_move tasks from scripts stage shows tells =
    let passed : IsPassed (config_of plain) scripts stage number next_plain later = subst (λ reply. Turned (config_of plain) scripts stage number next_plain later reply) idle (turned scripts stage shows tells) in
    record { stage = stage; goes = goes_done (config_of plain) scripts stage task tasks from events_left (no_move scripts stage shows tells passed.idle); shows = passed.shows; tells = passed.tells }

-- a turn for a task that makes an event
pub task_moves : (plain next_plain : Plain) (jobs later : Jobs) (number : ℕ) (result : Stepped) (task : Task) (more_tasks : List Task) (events_left : ℕ) → HasTurned plain jobs number next_plain later result → (result ≡ Idle → ⊥) → 0 < events_left
    → ((scripts : Scripts) (stage : Stage Actor) → Shows plain stage → Tells (config_of plain) scripts jobs stage → waits_then (config_of plain) stage (turn scripts stage number) ≡ waiting_of result → move_of (config_of plain) scripts stage task ≡ moves (turn scripts stage number) more_tasks)
    → (tasks : List Task) (from : ℕ) → Runs plain jobs (agenda (task ∷ tasks) from) events_left next_plain later (agenda (more_tasks ++ tasks) from) (events_left - 1)
task_moves plain next_plain jobs later number result task more_tasks events_left turned turn_busy some_left move tasks from scripts stage shows tells =
    let moved_on = moved_of (config_of plain) scripts stage number next_plain later result turn_busy (turned scripts stage shows tells) in
    record {
      stage = act (kind pause_image (config_of plain)) stage moved_on.event;
      goes = goes_task (config_of plain) scripts stage task more_tasks tasks from moved_on.event events_left some_left
          (move scripts stage shows tells (ap (waits_then (config_of plain) stage) moved_on.is ∙ moved_on.waits_is) ∙ ap (λ event. moves event more_tasks) moved_on.is);
      shows = moved_on.shows;
      tells = moved_on.tells;
    }

-- a machine keeps its place
pub plain_within : (plain next_plain : Plain) (number : ℕ) → config_of next_plain ≡ config_of plain → number < seats_of plain → number < length (machines_of next_plain)
plain_within plain next_plain number same_config number_below =
    let count : length (machines_of next_plain) ≡ seats_of next_plain = length-map next_plain.machines.items shown ∙ next_plain.all_machines in
    let seats : seats_of next_plain ≡ seats_of plain = ap (λ some_config. seat_count some_config.mutators some_config.helpers) same_config in
    omega arith

-- the replies of a mutator that memory shows
pub given_told : (plain : Plain) (jobs : Jobs) (number : ℕ) (scripts : Scripts) (stage : Stage Actor) → number < length (machines_of plain) → number < (config_of plain).mutators → Shows plain stage → Tells (config_of plain) scripts jobs stage → given stage number ≡ length (work.replies_of jobs number)
given_told plain jobs number scripts stage number_within number_below shows tells =
    let found_actor = shown_actor (words_of plain) (machines_of plain) stage number (machine_at plain number) shows (machine_within (machines_of plain) number number_within) in
    ap given_of found_actor.1 ∙ sym (ap length (tells.replies number found_actor.0 number_below found_actor.1) ∙ length-map found_actor.0.calls (λ entry. entry.reply))

-- a step that does not say Again does not wait
pub waiting_not : (result : Stepped) → (result ≡ Again → ⊥) → waiting_of result ≡ false
waiting_not More not_again = refl
waiting_not Again not_again = absurd (not_again refl)
waiting_not Done not_again = refl
waiting_not Idle not_again = refl
