-- A heap that begins from an image, with work of which nothing was done.
use Rattle.std.proofs.Common.{◌≡◌, ◌<◌, ◌≤◌, ℕ, ◌+◌, Bool, List, [], length, get_or, map, All, Some, None, ⊎_elim, refl, sym, ap, ◌∙◌, subst, arith}
use Rattle.std.specs.Prelude.{slice_get, slice_index, nat_lt, if◌then◌else◌, IsSome, unwrap_or}
use Rattle.std.specs.List.{range_with_len}
use Rattle.std.specs.Option.{option_map}
use Rattle.std.proofs.lemmas.List.{get_or_past}
use Rattle.std.proofs.lemmas.List.Elements.{All-get_or}
use Rattle.std.proofs.lemmas.List.FromFn.{get_or-map-range_with_len, length-map-range_with_len}
use Rattle.std.proofs.lemmas.Option.{slice_get-get_or, get_or_from_slice_get}
use Rattle.std.proofs.lemmas.Bool.{false≢true, lt-ltb, cases_lt}
use Rattle.std.proofs.lemmas.Simd.{map-map}
use Rattle.heap_words.specs.declared.config.Config.{Config}
use Rattle.heap_words.specs.declared.schedule.Item.{Item}
use Rattle.heap_words.specs.Ranges.{seat_count}
use Rattle.heap_words.specs.Words.{view}
use Rattle.heap_words.specs.Steps.{Stage}
use Rattle.shen_graph.specs.Valid.{IsValid}
use Rattle.shen_graph.specs.Work as work
use Rattle.shen_graph.specs.declared.order.Order.TheVariants.{Nothing}
use Rattle.mutator.specs.Rows.{mutator_after}
use Rattle.heap_machines.specs.Shown.{no_machine}
use Rattle.heap_machines.specs.Roles.{is_mutating}
use Rattle.step_core.specs.Actor.{Machine, mutating, fresh_helper, Actor}
use Rattle.step_core.specs.Machines.{is_resting, may_begin, made_of_machine}
use Rattle.step_core.specs.Schedule.{Scripts, nth_script, agenda_of}
use Rattle.shen_core.specs.declared.plain.Plain.{Plain}
use Rattle.shen_core.specs.declared.run.Ran.{Ran}
use Rattle.shen_core.specs.declared.run.Ran.TheVariants.{Finished, Unfinished}
use Rattle.shen_core.specs.State.{config_of, orders_of, machines_of, Shows}
use Rattle.shen_core.specs.Progress.{Jobs, CanRun, Tells}
use Rattle.shen_core.specs.Calls.{AllCall}
use Rattle.heap_machines.specs.FromImage.{control_from, machine_from, actor_from, stage_from}
use Rattle.shen_core.specs.WholeRun.{HasRun, RunsSchedule}
use Rattle.heap_dump.specs.Dumped.{most_made}
use Rattle.heap_dump.specs.Resumed.{IsRunnableAfter, IsLeftBusy}
use Rattle.heap_dump.specs.RunFromStage.{HasEndedFrom}

-- nothing was done of a script
progress_first : (scripts : Scripts) (index : ℕ) → index < length scripts → length scripts ≤ 8 → work.progress_of (work.opened scripts) index ≡ Some (work.begun (nth_script scripts index))
progress_first scripts index index_below at_most =
    get_or-map-range_with_len (λ index. option_map work.begun (slice_get scripts index)) 0 8 index index None (omega arith) (omega arith)
    ∙ ap (option_map work.begun) (slice_get-get_or scripts index [] index_below)

module _ (config : Config) (words counts : List ℕ) where
  abbrev start : Stage Actor
  start = stage_from config words counts

  -- the actor of a number
  actor_at : (seat : ℕ) → seat < seat_count config.mutators config.helpers → slice_get start.machines seat ≡ Some (actor_from config counts (view config words) seat)
  unfolding stage_from
  actor_at seat seat_below =
      let actor_made = actor_from config counts (view config words) in
      let made_length = length-map-range_with_len actor_made 0 (seat_count config.mutators config.helpers) in
      slice_get-get_or start.machines seat (actor_made seat) (omega (arith, made_length, seat_below))
      ∙ ap (λ (actor : Actor). Some actor) (get_or-map-range_with_len actor_made 0 (seat_count config.mutators config.helpers) seat seat (actor_made seat) seat_below (omega arith))

  actor_is : (seat : ℕ) (actor : Actor) → slice_get start.machines seat ≡ Some actor → seat < seat_count config.mutators config.helpers → actor_from config counts (view config words) seat ≡ actor
  actor_is seat actor actor_there seat_below = sym (get_or_from_slice_get start.machines seat (actor_from config counts (view config words) seat) actor (actor_at seat seat_below)) ∙ get_or_from_slice_get start.machines seat actor actor actor_there

  -- the mutators come first
  mutator_is : (mutator : ℕ) → mutator < config.mutators → machine_from config counts (view config words) mutator ≡ mutating (mutator_after mutator (slice_index counts mutator))
  mutator_is mutator mutator_below =
      ap (λ (holds : Bool). if holds then mutating (mutator_after mutator (slice_index counts mutator)) else (if nat_lt mutator (config.mutators + config.helpers) then fresh_helper mutator else control_from (view config words))) (lt-ltb mutator config.mutators mutator_below)

  -- a mutator in memory
  shown_is : (machines : List Machine) (mutator : ℕ) → map (λ actor. actor.machine) start.machines ≡ machines → mutator < config.mutators → get_or machines mutator no_machine ≡ mutating (mutator_after mutator (slice_index counts mutator))
  unfolding stage_from
  shown_is machines mutator machines_are mutator_below =
      let machine_made = machine_from config counts (view config words) in
      ap (λ machine_list. get_or machine_list mutator no_machine) (sym machines_are ∙ map-map (λ actor. actor.machine) (actor_from config counts (view config words)) (range_with_len 0 (seat_count config.mutators config.helpers)))
      ∙ get_or-map-range_with_len machine_made 0 (seat_count config.mutators config.helpers) mutator mutator no_machine (omega (arith, mutator_below)) (omega arith)
      ∙ mutator_is mutator mutator_below

  -- such a heap can run scripts of commands that can be given
  pub can_run_from : (plain : Plain) (scripts : Scripts) → config_of plain ≡ config → Shows plain start → All (λ order. order ≡ Nothing) (orders_of plain) → length scripts ≡ config.mutators → All (λ made_count. made_count ≤ most_made) counts → All IsRunnableAfter scripts
      → CanRun plain (work.opened scripts)
  can_run_from plain scripts same_config shows orders count few_made runnable =
      let mutators : (config_of plain).mutators ≡ config.mutators = ap (λ (config : Config). config.mutators) same_config in
      let few_scripts : length scripts ≤ 8 = omega (arith, count) in
      record {
        orders = orders;
        jobs_are = λ any_index mutator_below. subst (λ progress. IsSome progress) (sym (progress_first scripts any_index (omega (arith, mutator_below, mutators, count)) few_scripts)) refl;
        commands = λ any_index mutator_below. subst (λ progress. All IsValid (unwrap_or progress (work.begun [])).script) (sym (progress_first scripts any_index (omega (arith, mutator_below, mutators, count)) few_scripts)) (runnable any_index [] (omega (arith, mutator_below, mutators, count))).0;
        busy = λ any_index mutator_below mutator_busy. absurd (false≢true (sym mutator_busy ∙ ap is_resting (shown_is (machines_of plain) any_index shows.machines_are (omega (arith, mutator_below, mutators)))));
        made = λ any_index mutator_below.
            let index_within : any_index < length scripts = omega (arith, mutator_below, mutators, count) in
            let same_made : made_of_machine (get_or (machines_of plain) any_index no_machine) ≡ slice_index counts any_index = ap made_of_machine (shown_is (machines_of plain) any_index shows.machines_are (omega (arith, mutator_below, mutators))) in
            let few_commands = (runnable any_index [] index_within).1 in
            let script_is : work.script_in (work.opened scripts) any_index ≡ nth_script scripts any_index = ap (λ progress. (unwrap_or progress (work.begun [])).script) (progress_first scripts any_index index_within few_scripts) in
            let script_length = ap length script_is in
            omega (arith, same_made, few_commands, script_length, few_of counts any_index few_made);
      }
    where
      few_of : (xs : List ℕ) (any_index : ℕ) → All (λ count. count ≤ most_made) xs → get_or xs any_index 0 ≤ most_made
      few_of xs any_index all_few = ⊎_elim
          (λ (index_below : any_index < length xs). All-get_or (λ (count : ℕ). count ≤ most_made) xs any_index 0 index_below all_few)
          (λ (index_past : length xs ≤ any_index). let past_end = get_or_past xs any_index 0 index_past in omega (arith, past_end))
          (cases_lt any_index (length xs))

  -- and the work tells the replies of its calls: there is none
  pub tells_from : (scripts : Scripts) → length scripts ≡ config.mutators → Tells config scripts (work.opened scripts) start
  tells_from scripts count =
      let few_scripts : length scripts ≤ 8 = omega (arith, count) in
      record {
        scripts_are = λ index index_below. ap (λ progress. (unwrap_or progress (work.begun [])).script) (progress_first scripts index (omega (arith, index_below, count)) few_scripts);
        replies = λ thread actor index_below actor_there.
            ap (λ progress. (unwrap_or progress (work.begun [])).replies) (progress_first scripts thread (omega (arith, index_below, count)) few_scripts) ∙ ap (λ known_actor. map (λ entry. entry.reply) known_actor.calls) (actor_is thread actor actor_there (omega (arith, index_below)));
      }

  -- no command was called
  pub all_call_from : (scripts : Scripts) → AllCall config scripts start
  all_call_from scripts mutator mutator_below = record {
    actor = actor_from config counts (view config words) mutator;
    here = actor_at mutator (omega (arith, mutator_below));
    role = ap is_mutating (mutator_is mutator mutator_below);
    calls = record {
      done = refl;
      doing = λ mutator_busy. absurd (false≢true (sym mutator_busy ∙ ap is_resting (mutator_is mutator mutator_below)));
      ended = λ later_commands begins_not. absurd (false≢true (sym begins_not ∙ ap may_begin (mutator_is mutator mutator_below)));
    };
  }

  -- the events of a schedule were made
  has_run : (plain later_plain : Plain) (scripts : Scripts) (items : List Item) (limit : ℕ) (jobs later : Jobs) (result : Ran) → config_of plain ≡ config → Shows plain start → length scripts ≡ config.mutators → jobs ≡ work.opened scripts
      → RunsSchedule plain jobs items limit later_plain later result → HasRun config scripts start (agenda_of items) limit later_plain later result
  has_run plain later_plain scripts items limit jobs later result same_config shows count jobs_opened runs =
      subst (λ (config : Config). HasRun config scripts start (agenda_of items) limit later_plain later result) same_config
      (runs scripts start shows (subst (λ (config : Config). Tells config scripts jobs start) (sym same_config) (subst (λ (any_jobs : Jobs). Tells config scripts any_jobs start) (sym jobs_opened) (tells_from scripts count))))

  pub ended : (plain later_plain : Plain) (scripts : Scripts) (items : List Item) (limit : ℕ) (jobs later : Jobs) → config_of plain ≡ config → Shows plain start → length scripts ≡ config.mutators → jobs ≡ work.opened scripts
      → RunsSchedule plain jobs items limit later_plain later Finished → config_of later_plain ≡ config_of plain → CanRun later_plain later → HasEndedFrom config start scripts items limit later later_plain
  ended plain later_plain scripts items limit jobs later same_config shows count jobs_opened runs kept_config can_run =
      let ran = has_run plain later_plain scripts items limit jobs later Finished same_config shows count jobs_opened runs in
      record {
        config = kept_config ∙ same_config;
        idle = ran.ended;
        called = ran.whole refl (all_call_from scripts);
        shows = ran.shows;
        tells = ran.tells;
        jobs_are = λ any_thread mutator_below. can_run.jobs_are any_thread (subst (λ (config : Config). any_thread < config.mutators) (sym (kept_config ∙ same_config)) mutator_below);
      }

  pub cut : (plain later_plain : Plain) (scripts : Scripts) (items : List Item) (limit : ℕ) (jobs later : Jobs) → config_of plain ≡ config → Shows plain start → length scripts ≡ config.mutators → jobs ≡ work.opened scripts
      → RunsSchedule plain jobs items limit later_plain later Unfinished → IsLeftBusy config start scripts items limit
  cut plain later_plain scripts items limit jobs later same_config shows count jobs_opened runs =
      let ran = has_run plain later_plain scripts items limit jobs later Unfinished same_config shows count jobs_opened runs in
      record { busy = ran.ended.0; count = ran.ended.1 }
