-- A heap that was just opened, with work of which nothing was done.
use Rattle.std.proofs.Common.{◌≡◌, ◌<◌, ◌≤◌, ℕ, true, List, [], length, get_or, map, All, Some, None, refl, sym, ap, ◌∙◌, subst, arith}
use Rattle.std.specs.Prelude.{slice_get, IsSome, unwrap_or}
use Rattle.std.specs.Option.{option_map}
use Rattle.std.proofs.lemmas.List.FromFn.{get_or-map-range_with_len}
use Rattle.std.proofs.lemmas.Option.{slice_get-get_or}
use Rattle.std.proofs.lemmas.Bool.{false≢true}
use Rattle.heap_words.specs.declared.config.Config.{Config}
use Rattle.heap_words.specs.Ranges.{seat_count}
use Rattle.shen_graph.specs.Valid.{IsValid, most_objects}
use Rattle.shen_graph.specs.Work as work
use Rattle.shen_graph.specs.declared.order.Order.TheVariants.{Nothing}
use Rattle.heap_machines.proofs.Openings.{first_is, first_machines, first_made, first_rests}
use Rattle.step_core.specs.Actor.{Machine}
use Rattle.heap_machines.specs.Shown.{no_machine}
use Rattle.step_core.specs.Opening.{opening_machine, opening}
use Rattle.step_core.specs.Schedule.{Scripts, nth_script}
use Rattle.shen_core.specs.declared.plain.Plain.{Plain}
use Rattle.shen_core.specs.State.{config_of, orders_of, machines_of, Shows}
use Rattle.step_core.specs.Machines.{is_resting, made_of_machine}
use Rattle.shen_core.specs.Progress.{CanRun, Tells, IsRunnable}

-- nothing was done of a script
progress_first : (scripts : Scripts) (index : ℕ) → index < length scripts → length scripts ≤ 8 → work.progress_of (work.opened scripts) index ≡ Some (work.begun (nth_script scripts index))
progress_first scripts index index_below at_most =
    get_or-map-range_with_len (λ index. option_map work.begun (slice_get scripts index)) 0 8 index index None (omega arith) (omega arith)
    ∙ ap (option_map work.begun) (slice_get-get_or scripts index [] index_below)

-- a machine is that of the opening
machine_first : (config : Config) (machines : List Machine) (seat : ℕ) → map (λ actor. actor.machine) (opening config).machines ≡ machines → seat < seat_count config.mutators config.helpers → get_or machines seat no_machine ≡ opening_machine config seat
machine_first config machines seat machines_told seat_below = ap (λ some_machines. get_or some_machines seat no_machine) (sym machines_told ∙ first_machines config) ∙ get_or-map-range_with_len (opening_machine config) 0 (seat_count config.mutators config.helpers) seat seat no_machine seat_below (omega arith)

-- it has made no object
pub made_first : (config : Config) (machines : List Machine) (mutator : ℕ) → map (λ actor. actor.machine) (opening config).machines ≡ machines → mutator < config.mutators → made_of_machine (get_or machines mutator no_machine) ≡ 0
made_first config machines mutator machines_told mutator_below = ap made_of_machine (machine_first config machines mutator machines_told (omega arith)) ∙ first_made config mutator

-- a mutator rests
rests_first : (config : Config) (machines : List Machine) (mutator : ℕ) → map (λ actor. actor.machine) (opening config).machines ≡ machines → mutator < config.mutators → is_resting (get_or machines mutator no_machine) ≡ true
rests_first config machines mutator machines_told mutator_below = ap is_resting (machine_first config machines mutator machines_told (omega arith)) ∙ first_rests config mutator mutator_below

-- a heap that was just opened can run scripts of commands that can be given
pub can_run_first : (plain : Plain) (scripts : Scripts) → Shows plain (opening (config_of plain)) → All (λ order. order ≡ Nothing) (orders_of plain) → (config_of plain).mutators ≡ length scripts → length scripts ≤ 8 → All IsRunnable scripts → CanRun plain (work.opened scripts)
can_run_first plain scripts shows orders count at_most scripts_served = record {
  orders = orders;
  jobs_are = λ index index_below. subst (λ progress. IsSome progress) (sym (progress_first scripts index (omega arith) at_most)) refl;
  commands = λ index index_below. subst (λ progress. All IsValid (unwrap_or progress (work.begun [])).script) (sym (progress_first scripts index (omega arith) at_most)) (scripts_served index [] (omega arith)).0;
  busy = λ mutator index_below mutator_busy. absurd (false≢true (sym mutator_busy ∙ rests_first (config_of plain) (machines_of plain) mutator shows.machines_are index_below));
  made = λ thread index_below.
      let none_made = made_first (config_of plain) (machines_of plain) thread shows.machines_are index_below in
      let few_commands : length (nth_script scripts thread) < most_objects = (scripts_served thread [] (omega arith)).1 in
      let same_script : work.script_in (work.opened scripts) thread ≡ nth_script scripts thread = ap (λ progress. (unwrap_or progress (work.begun [])).script) (progress_first scripts thread (omega arith) at_most) in
      let same_length = ap length same_script in
      omega (arith, none_made, few_commands, same_length);
}

-- and the work tells the replies of its calls: there is none
pub tells_first : (config : Config) (scripts : Scripts) → config.mutators ≡ length scripts → length scripts ≤ 8 → Tells config scripts (work.opened scripts) (opening config)
tells_first config scripts count at_most = record {
  scripts_are = λ index number_below. ap (λ progress. (unwrap_or progress (work.begun [])).script) (progress_first scripts index (omega arith) at_most);
  replies = λ thread actor number_below actor_there.
      ap (λ progress. (unwrap_or progress (work.begun [])).replies) (progress_first scripts thread (omega arith) at_most) ∙ ap (λ known_actor. map (λ entry. entry.reply) known_actor.calls) (first_is config thread actor actor_there).1;
}

-- scripts that are put together one after the other
pub served_none : (scripts : Scripts) → scripts ≡ [] → All IsRunnable scripts
served_none scripts no_scripts = subst (λ xs. All IsRunnable xs) (sym no_scripts) (λ index default index_below. absurd (omega arith))
