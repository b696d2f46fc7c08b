-- The turn of a machine, in each stage that memory shows.
use Rattle.std.proofs.Common.{◌≡◌, ◌<◌, ℕ, Bool, true, false, List, length, Option, Some, None, refl, sym, ap, ◌∙◌, subst}
use Rattle.heap_machines.proofs.Pauses.{heap_pauses}
use Rattle.heap_machines.specs.Pause.{pause_image}
use Rattle.std.specs.Prelude.{nat_lt, slice_get, slice_index, slice_index_or, IfSome, is_some, if◌then◌else◌}
use Rattle.heap_words.specs.Access.{table_index}
use Rattle.std.specs.Option.{option_map}
use Rattle.std.proofs.Math.Logic.{∥∥₁_elim}
use Rattle.std.proofs.Math.Bool.{Bool-set}
use Rattle.std.proofs.lemmas.List.{length-map}
use Rattle.std.proofs.lemmas.Option.{same_Some, slice_get-get_or}
use Rattle.std.proofs.lemmas.Bool.{ltb-true}
use Rattle.heap_words.specs.declared.config.Config.{Config}
use Rattle.heap_words.specs.Steps.{Stage, Event, Finds}
use Rattle.shen_graph.specs.declared.command.Command.{Command}
use Rattle.shen_graph.specs.Work as work
use Rattle.shen_graph.specs.Valid.{IsValid, most_objects}
use Rattle.shen_graph.specs.declared.order.Order.{Order}
use Rattle.heap_machines.proofs.Turns.{order_alike, rest_is_mutating, begins_at_rest, order_of_script}
use Rattle.step_core.proofs.Machines.Roles.{role_of, fit_is_prop}
use Rattle.heap_machines.proofs.Names.{command_fits}
use Rattle.step_core.specs.Actor.{Machine, Actor}
use Rattle.heap_machines.specs.Shown.{no_machine}
use Rattle.step_core.specs.Machines.{takes_of, plan_of, order_by, is_machine_at, is_resting, may_begin, made_of_machine, kind, IsFitFor}
use Rattle.heap_machines.specs.Roles.{is_mutating}
use Rattle.heap_machines.specs.Turn.{order_for}
use Rattle.step_core.specs.Begins.{ending}
use Rattle.step_core.specs.Schedule.{Scripts, nth_script, turn, turn_of, is_at_place, is_actor_at}
use Rattle.heap_words.specs.declared.place.Place.{Place}
use Rattle.step_core.proofs.Theorem.EveryList.{run_sound, found_fit}
use Rattle.shen_core.specs.declared.plain.Plain.{Plain}
use Rattle.shen_core.specs.State.{config_of, words_of, machines_of, machine_at, Shows}
use Rattle.shen_core.specs.Runs.{IsShownBySomeRun, event}
use Rattle.shen_core.specs.Progress.{Jobs, Tells, CanRun, IsTurn, IsNextTurn, event_if, next_for}
use Rattle.shen_core.proofs.Events.{shown_actor}

-- the machine of a number is a mutator where the number is one of a mutator
pub role_shown : (config : Config) (words : List ℕ) (machines : List Machine) (number : ℕ) (machine : Machine) → ∥ IsShownBySomeRun config words machines ∥₁ → slice_get machines number ≡ Some machine → is_mutating machine ≡ nat_lt number config.mutators
role_shown config words machines number machine some_shown machine_there = ∥∥₁_elim some_shown (hlevel (Bool-set)) (λ shown.
    let found = shown_actor words machines (ending pause_image config shown.run) number machine shown.shows machine_there in
    ap is_mutating (sym found.2) ∙ role_of config number found.0.machine ((run_sound pause_image heap_pauses config shown.run).of_heap.roles number found.0 found.1))

-- the word that a machine finds is fit
pub fit_shown : (config : Config) (words : List ℕ) (machines : List Machine) (number : ℕ) (machine : Machine) (order : Order) → ∥ IsShownBySomeRun config words machines ∥₁ → slice_get machines number ≡ Some machine → takes_of machine order ≡ true
    → IsFitFor config order (slice_index words (table_index (plan_of config order machine))) machine
unfolding kind
fit_shown config words machines number machine order some_shown machine_there takes = ∥∥₁_elim some_shown (fit_is_prop config order (slice_index words (table_index (plan_of config order machine))) machine) (λ shown.
    let found = shown_actor words machines (ending pause_image config shown.run) number machine shown.shows machine_there in
    let finds : Finds (kind pause_image config) shown.run.start number found.0 order (slice_index words (table_index (plan_of config order machine))) = record {
      stage = ending pause_image config shown.run;
      reached = record { events = shown.run.events; ends = refl };
      here = found.1;
      takes = ap (λ asked_machine. takes_of asked_machine order) found.2 ∙ takes;
      found = ap (λ some_words. slice_index some_words (table_index (plan_of config order machine))) (sym shown.shows.words_are) ∙ ap (λ asked_machine. slice_index (ending pause_image config shown.run).words (table_index (plan_of config order asked_machine))) (sym found.2);
    } in
    subst (λ asked_machine. IsFitFor config order (slice_index words (table_index (plan_of config order machine))) asked_machine) found.2
    (found_fit pause_image heap_pauses config shown.run.start shown.run.graph shown.run.begins number found.0 order (slice_index words (table_index (plan_of config order machine))) finds))

-- the turn of an actor, by its machine
pub actor_turn : (scripts : Scripts) (stage : Stage Actor) (number : ℕ) (actor : Actor) → slice_get stage.machines number ≡ Some actor → turn scripts stage number ≡ option_map (λ order. event number order) (order_for (slice_get (nth_script scripts number) (length actor.calls)) actor.machine)
actor_turn scripts stage number actor actor_there = ap (turn_of scripts number) actor_there ∙ ap (option_map (λ order. event number order)) (order_of_script (nth_script scripts number) actor.calls actor.machine)

-- the event of a turn is of the machine whose turn it is
pub turn_number : (scripts : Scripts) (stage : Stage Actor) (number : ℕ) (turn_event : Event Order) → turn scripts stage number ≡ Some turn_event → turn_event.number ≡ number
turn_number scripts stage number turn_event turn_is = by_actor (slice_get stage.machines number) turn_is
  where
    by_order : (found_order : Option Order) → option_map (λ order. event number order) found_order ≡ Some turn_event → turn_event.number ≡ number
    by_order None event_made = cc
    by_order (Some order) event_made = sym (ap (λ x. x.number) (same_Some _ _ event_made))

    by_actor : (found : Option Actor) → turn_of scripts number found ≡ Some turn_event → turn_event.number ≡ number
    by_actor None event_made = cc
    by_actor (Some found) event_made = by_order (order_by (nth_script scripts number) found.calls found.machine) event_made

-- there is a machine at each number
pub machine_within : (machines : List Machine) (number : ℕ) → number < length machines → slice_get machines number ≡ Some (slice_index_or machines number no_machine)
machine_within machines number number_below = slice_get-get_or machines number no_machine number_below

-- so a machine of memory is a mutator by its number
pub role_within : (plain : Plain) (number : ℕ) → number < length (machines_of plain) → is_mutating (machine_at plain number) ≡ nat_lt number (config_of plain).mutators
role_within plain number within = role_shown plain.config plain.words.items (machines_of plain) number (machine_at plain number) plain.reached (machine_within (machines_of plain) number within)

-- what follows in its script, and so what it does
order_now : (plain : Plain) (jobs : Jobs) (number : ℕ) → is_mutating (machine_at plain number) ≡ nat_lt number (config_of plain).mutators → (scripts : Scripts) (stage : Stage Actor) → Tells (config_of plain) scripts jobs stage
    → (actor : Actor) → slice_get stage.machines number ≡ Some actor
    → order_for (slice_get (nth_script scripts number) (length actor.calls)) (machine_at plain number) ≡ order_for (next_for (config_of plain) jobs number) (machine_at plain number)
order_now plain jobs number role scripts stage tells actor actor_there = by_role (nat_lt number (config_of plain).mutators) refl
  where
    by_role : (holds : Bool) → nat_lt number (config_of plain).mutators ≡ holds
        → order_for (slice_get (nth_script scripts number) (length actor.calls)) (machine_at plain number) ≡ order_for (if nat_lt number (config_of plain).mutators then work.next_of jobs number else None) (machine_at plain number)
    by_role true role_test =
        let mutator_number : number < (config_of plain).mutators = ltb-true number (config_of plain).mutators role_test in
        ap (λ script. order_for (slice_get script (length actor.calls)) (machine_at plain number)) (sym (tells.scripts_are number mutator_number))
        ∙ ap (λ index. order_for (slice_get (work.script_in jobs number) index) (machine_at plain number)) (sym (ap length (tells.replies number actor mutator_number actor_there) ∙ length-map actor.calls (λ entry. entry.reply)))
        ∙ ap (λ holds. order_for (if holds then work.next_of jobs number else None) (machine_at plain number)) (sym role_test)
    by_role false role_test = order_alike (machine_at plain number) _ _ (role ∙ role_test)

-- what a machine does on its turn, in a stage that memory shows
pub turn_shown : (plain : Plain) (jobs : Jobs) (number : ℕ) → number < length (machines_of plain) → is_mutating (machine_at plain number) ≡ nat_lt number (config_of plain).mutators
    → (scripts : Scripts) (stage : Stage Actor) → Shows plain stage → Tells (config_of plain) scripts jobs stage → turn scripts stage number ≡ option_map (λ order. event number order) (order_for (next_for (config_of plain) jobs number) (machine_at plain number))
turn_shown plain jobs number within role scripts stage shows tells =
    let found = shown_actor (words_of plain) (machines_of plain) stage number (machine_at plain number) shows (machine_within (machines_of plain) number within) in
    let found_actor = found.0 in
    actor_turn scripts stage number found_actor found.1
    ∙ ap (λ machine. option_map (λ order. event number order) (order_for (slice_get (nth_script scripts number) (length found_actor.calls)) machine)) found.2
    ∙ ap (option_map (λ order. event number order)) (order_now plain jobs number role scripts stage tells found_actor found.1)

-- so the event is that of its order
pub is_turn : (plain : Plain) (jobs : Jobs) (number : ℕ) (turn_there : Bool) (order : Order) → number < length (machines_of plain) → is_mutating (machine_at plain number) ≡ nat_lt number (config_of plain).mutators → IsNextTurn plain jobs number turn_there order → IsTurn plain jobs number turn_there order
is_turn plain jobs number turn_there order within role next_turn scripts stage shows tells = turn_shown plain jobs number within role scripts stage shows tells ∙ ap (option_map (λ x. event number x)) next_turn ∙ by_has turn_there
  where
    by_has : (holds : Bool) → option_map (λ x. event number x) (if holds then Some order else None) ≡ event_if holds number order
    by_has true = refl
    by_has false = refl

-- whether there is a turn, whatever commands would follow
pub some_turn : (plain : Plain) (number : ℕ) (turn_there : Bool) → number < length (machines_of plain) → ((next_command : Option Command) → is_some (order_for next_command (machine_at plain number)) ≡ turn_there)
    → (scripts : Scripts) (stage : Stage Actor) → Shows plain stage → is_some (turn scripts stage number) ≡ turn_there
some_turn plain number turn_there within order_there scripts stage shows =
    let found = shown_actor (words_of plain) (machines_of plain) stage number (machine_at plain number) shows (machine_within (machines_of plain) number within) in
    let found_actor = found.0 in
    ap is_some (actor_turn scripts stage number found_actor found.1)
    ∙ by_some (order_for (slice_get (nth_script scripts number) (length found_actor.calls)) found_actor.machine)
    ∙ ap (λ machine. is_some (order_for (slice_get (nth_script scripts number) (length found_actor.calls)) machine)) found.2
    ∙ order_there (slice_get (nth_script scripts number) (length found_actor.calls))
  where
    by_some : (found_order : Option Order) → is_some (option_map (λ order. event number order) found_order) ≡ is_some found_order
    by_some None = refl
    by_some (Some order) = refl

-- where the next access of a machine stands on its turn, in a stage that memory shows
pub stands_shown : (plain : Plain) (jobs : Jobs) (number : ℕ) (place : Place) → number < length (machines_of plain)
    → (scripts : Scripts) (stage : Stage Actor) → Shows plain stage → Tells (config_of plain) scripts jobs stage → is_at_place scripts stage number place ≡ is_machine_at place (machine_at plain number) (order_for (next_for (config_of plain) jobs number) (machine_at plain number))
stands_shown plain jobs number place within scripts stage shows tells =
    let found = shown_actor (words_of plain) (machines_of plain) stage number (machine_at plain number) shows (machine_within (machines_of plain) number within) in
    let found_actor = found.0 in
    ap (is_actor_at scripts number place) found.1
    ∙ ap (is_machine_at place found_actor.machine) (order_of_script (nth_script scripts number) found_actor.calls found_actor.machine)
    ∙ ap (λ machine. is_machine_at place machine (order_for (slice_get (nth_script scripts number) (length found_actor.calls)) machine)) found.2
    ∙ ap (is_machine_at place (machine_at plain number)) (order_now plain jobs number (role_within plain number within) scripts stage tells found_actor found.1)

-- the command that follows can be given
pub next_fits : (plain : Plain) (jobs : Jobs) (number : ℕ) → CanRun plain jobs → number < length (machines_of plain) → is_mutating (machine_at plain number) ≡ nat_lt number (config_of plain).mutators
    → may_begin (machine_at plain number) ≡ true → IfSome (next_for (config_of plain) jobs number) (λ command. IsValid command × (made_of_machine (machine_at plain number) < most_objects))
next_fits plain jobs number can_run within role may_begin_next =
    let rest : is_resting (machine_at plain number) ≡ true = begins_at_rest (machine_at plain number) may_begin_next in
    let role_test : nat_lt number (config_of plain).mutators ≡ true = sym role ∙ rest_is_mutating (machine_at plain number) rest in
    let mutator_number : number < (config_of plain).mutators = ltb-true number (config_of plain).mutators role_test in
    subst (λ is_mutator. IfSome (if is_mutator then work.next_of jobs number else None) (λ command. IsValid command × (made_of_machine (machine_at plain number) < most_objects))) (sym role_test)
    (command_fits (machine_at plain number) (work.script_in jobs number) (length (work.replies_of jobs number)) (can_run.commands number mutator_number) (can_run.made number mutator_number) may_begin_next)
