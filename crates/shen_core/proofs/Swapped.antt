-- A `Plain` whose history was exchanged for another.
use Rattle.std.proofs.Common.{◌≡◌, ◌<◌, ◌≤◌, ℕ, ◌+◌, List, length, get_or, All, sym, ap, ◌∙◌, subst, arith}
use Rattle.heap_machines.specs.Pause.{pause_image}
use Rattle.heap_machines.specs.Shown.{no_machine}
use Rattle.heap_words.specs.declared.schedule.Item.{Item}
use Rattle.heap_words.specs.Steps.{Stage, go}
use Rattle.shen_graph.specs.declared.order.Order.TheVariants.{Nothing}
use Rattle.shen_graph.specs.Noting.{Noting}
use Rattle.shen_graph.specs.Valid.{IsValid, most_objects}
use Rattle.shen_graph.specs.Work as work
use Rattle.step_core.specs.Actor.{Actor}
use Rattle.step_core.specs.Begins.{Run, ending}
use Rattle.step_core.specs.History.{history}
use Rattle.step_core.specs.Machines.{kind, is_resting, made_of_machine, at_hand_of}
use Rattle.step_core.specs.Schedule.{Agenda, agenda_of, schedule_events}
use Rattle.shen_core.specs.declared.plain.Plain.{Plain}
use Rattle.shen_core.specs.declared.run.Ran.{Ran}
use Rattle.shen_core.specs.State.{config_of, words_of, machines_of, orders_of, machine_at, notes_of, Shows}
use Rattle.shen_core.specs.Progress.{Jobs, Tells, CanRun}
use Rattle.shen_core.specs.WholeRun.{HasRun, EndsRun}
use Rattle.shen_core.specs.Noting.{noted, IsEnding, EndsNoted, HasRunNoted, IsHistory, NotesSchedule, commands_in}
use Rattle.shen_core.proofs.Counting.{settled_few, noted_all}

-- all but the history is the same
pub record IsSwapped (plain other_plain : Plain) : Type 0 where
  pub config : config_of other_plain ≡ config_of plain
  pub words : words_of other_plain ≡ words_of plain
  pub machines : machines_of other_plain ≡ machines_of plain
  pub orders : orders_of other_plain ≡ orders_of plain

module _ (plain swapped_plain : Plain) (is_swapped : IsSwapped plain swapped_plain) where
  machine_same : (index : ℕ) → machine_at swapped_plain index ≡ machine_at plain index
  machine_same index = ap (λ some_machines. get_or some_machines index no_machine) is_swapped.machines

  pub shows_swapped : (stage : Stage Actor) → Shows plain stage → Shows swapped_plain stage
  shows_swapped stage shows = record { words_are = shows.words_are ∙ sym is_swapped.words; machines_are = shows.machines_are ∙ sym is_swapped.machines }

  pub can_run_swapped : (jobs : Jobs) → CanRun plain jobs → CanRun swapped_plain jobs
  can_run_swapped jobs can_run = record {
    orders = subst (λ some_orders. All (λ order. order ≡ Nothing) some_orders) (sym is_swapped.orders) can_run.orders;
    jobs_are = subst (λ config. (mutator : ℕ) → mutator < config.mutators → work.HasScript jobs mutator) (sym is_swapped.config) can_run.jobs_are;
    commands = subst (λ config. (mutator : ℕ) → mutator < config.mutators → All IsValid (work.script_in jobs mutator)) (sym is_swapped.config) can_run.commands;
    busy = λ mutator mutator_below busy. can_run.busy mutator (subst (λ config. mutator < config.mutators) is_swapped.config mutator_below) (ap is_resting (sym (machine_same mutator)) ∙ busy);
    made = λ mutator mutator_below. subst (λ machine. made_of_machine machine + length (work.script_in jobs mutator) < most_objects + (length (work.replies_of jobs mutator) + at_hand_of machine)) (sym (machine_same mutator)) (can_run.made mutator (subst (λ config. mutator < config.mutators) is_swapped.config mutator_below));
  }

-- a run between two exchanges
pub ran_swapped : (plain run_start run_end swapped_end : Plain) (jobs later : Jobs) (todo : Agenda) (limit : ℕ) (result : Ran) → IsSwapped plain run_start → IsSwapped run_end swapped_end → EndsNoted run_start jobs todo limit run_end later result → EndsRun plain jobs todo limit swapped_end later result
ran_swapped plain run_start run_end swapped_end jobs later todo limit result first_swapped second ends scripts stage shows tells =
    let ran = (ends scripts stage (shows_swapped plain run_start first_swapped stage shows) (subst (λ config. Tells config scripts jobs stage) (sym first_swapped.config) tells)).ran in
    let has_run : HasRun (config_of plain) scripts stage todo limit run_end later result = subst (λ config. HasRun config scripts stage todo limit run_end later result) first_swapped.config ran in
    record {
      shows = shows_swapped run_end swapped_end second _ has_run.shows;
      tells = has_run.tells;
      ended = has_run.ended;
      calls = has_run.calls;
      whole = has_run.whole;
    }

-- and what it has noted
pub swapped_history : (plain run_start run_end : Plain) (jobs later : Jobs) (items : List Item) (limit : ℕ) (result : Ran) (old new : Noting) → IsSwapped plain run_start → notes_of run_start ≡ old → new ≡ notes_of run_end → config_of run_end ≡ config_of run_start → commands_in (config_of plain) jobs ≤ old.spare
    → CanRun run_end later → ((mutator : ℕ) → mutator < (config_of run_end).mutators → length (work.replies_of later mutator) ≤ length (work.script_in later mutator)) → EndsNoted run_start jobs (agenda_of items) limit run_end later result → NotesSchedule plain jobs items limit old new
swapped_history plain run_start run_end jobs later items limit result old new first_swapped notes_given notes_got config enough can_run within ends scripts stage shows tells is =
    let plain_config = config_of plain in
    let here : HasRunNoted plain_config scripts stage (agenda_of items) limit run_start run_end later result = subst (λ config. HasRunNoted config scripts stage (agenda_of items) limit run_start run_end later result) first_swapped.config
    (ends scripts stage (shows_swapped plain run_start first_swapped stage shows) (subst (λ config. Tells config scripts jobs stage) (sym first_swapped.config) tells)) in
    by_run is.0 stage is.1 tells here is
  where
    by_run : (run : Run (config_of plain)) (stage : Stage Actor) → ending pause_image (config_of plain) run ≡ stage → Tells (config_of plain) scripts jobs stage → HasRunNoted (config_of plain) scripts stage (agenda_of items) limit run_start run_end later result → IsEnding (config_of plain) stage
        → IsHistory (config_of plain) scripts stage items limit old new
    by_run run stage ends_at tells has_run stage_ends =
        let plain_config = config_of plain in
        let events = schedule_events pause_image plain_config scripts items limit stage in
        let same_config : config_of run_end ≡ plain_config = config ∙ first_swapped.config in
        let few : length (history pause_image plain_config stage events) ≤ commands_in plain_config jobs =
        subst (λ stage. Shows run_end (go (kind pause_image plain_config) stage events) → Tells plain_config scripts jobs stage → Tells plain_config scripts later (go (kind pause_image plain_config) stage events) → length (history pause_image plain_config stage events) ≤ commands_in plain_config jobs) ends_at
        (λ shows_end tells_start tells_end. settled_few plain_config run events scripts run_end jobs later same_config shows_end tells_start tells_end can_run (subst (λ asked_config. (mutator : ℕ) → mutator < asked_config.mutators → length (work.replies_of later mutator) ≤ length (work.script_in later mutator)) same_config within))
        has_run.ran.shows tells has_run.ran.tells in
        let notes : new ≡ noted old (history pause_image plain_config stage events) = notes_got ∙ has_run.notes stage_ends ∙ ap (λ notes_before. noted notes_before (history pause_image plain_config stage events)) notes_given in
        let all_noted = noted_all old (history pause_image plain_config stage events) (omega (arith, few, enough)) in
        record {
          entries = ap (λ (noting : Noting). noting.list) notes ∙ all_noted.list;
          spare = ap (λ (noting : Noting). noting.spare + length (history pause_image plain_config stage events)) notes ∙ all_noted.spare;
        }
