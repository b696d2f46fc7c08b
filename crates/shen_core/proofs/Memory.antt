-- The step of a machine in memory.
use Rattle.std.proofs.Common.{◌≡◌, ◌<◌, ℕ, true, List, [], ◌∷◌, ◌++◌, length, get_or, map, All, Some, refl, sym, ap, ◌∙◌, subst}
use Rattle.heap_machines.specs.Pause.{pause_image}
use Rattle.std.specs.Prelude.{slice_get, slice_set, slice_index, slice_index_or, ◌↔◌}
use Rattle.std.specs.Option.{option_map}
use Rattle.std.specs.List.{range_with_len}
use Rattle.std.proofs.lemmas.Option.{slice_get-map, slice_get_read, slice_get_within, get_or_from_slice_get}
use Rattle.std.proofs.lemmas.List.{set-get_or, map-set, length-map}
use Rattle.std.proofs.lemmas.List.Elements.{All-set}
use Rattle.heap_words.proofs.Lists.{slice_get-set_same}
use Rattle.heap_words.specs.declared.config.Config.{Config}
use Rattle.heap_words.specs.declared.access.Access.{Access}
use Rattle.heap_words.specs.declared.access.Took.{Took}
use Rattle.heap_words.specs.declared.access.Took.TheVariants as took
use Rattle.heap_words.specs.declared.place.Place.TheVariants.{LV}
use Rattle.heap_words.specs.Access.{table_index}
use Rattle.heap_words.specs.Ranges.{seat_count}
use Rattle.shen_graph.specs.declared.order.Order.{Order}
use Rattle.shen_graph.specs.declared.order.Order.TheVariants.{Nothing}
use Rattle.heap_machines.specs.declared.machine.Machine.{Machine}
use Rattle.heap_machines.specs.Shown.{shown, order_of, config_of, has_turn, no_machine}
use Rattle.heap_machines.specs.declared.stepped.Stepped.{Stepped}
use Rattle.heap_machines.specs.declared.stepped.Stepped.TheVariants as stepped
use Rattle.heap_machines.specs.Answer.{stepped_of, stepped_by, says}
use Rattle.heap_machines.specs.Roles.{is_mutating}
use Rattle.heap_machines.proofs.Openings.{first_machines, first_count}
use Rattle.step_core.specs.Actor as actors
use Rattle.step_core.specs.Machines.{takes_of, plan_of, place_in, answer_of, machine_after, kind, WaitsIn}
use Rattle.step_core.specs.Opening.{opening_words, opening_machine, opening}
use Rattle.step_core.proofs.Theorem.FirstFacts.{opening_run}
use Rattle.heap_words.specs.Steps.{accessed}
use Rattle.heap_words.proofs.Runs.{go-none}
use Rattle.shen_core.specs.Runs.{WordsShow, event, IsShownBySomeRun, IsOneEvent, machine_next}
use Rattle.shen_core.proofs.Events.{one_event}

-- a machine of these has made its access, and has taken its word
pub record IsMade (config : Config) (words new_words : List ℕ) (machines : List Machine) (number : ℕ) (machine other_machine : Machine) : Type 0 where
  pub here : slice_get machines number ≡ Some machine
  pub heap : config_of machine ≡ config
  pub takes : has_turn machine ≡ true
  pub words_are : new_words ≡ accessed (plan_of (config_of machine) (order_of machine) (shown machine)) words
  pub shown_is : shown other_machine ≡ machine_after pause_image (config_of machine) (order_of machine) (slice_index words (table_index (plan_of (config_of machine) (order_of machine) (shown machine)))) (shown machine)

-- a machine that was read is there
pub from_read : (machines : List Machine) (number : ℕ) (machine : Machine) → number < length machines → machine ≡ get_or machines number machine → slice_get machines number ≡ Some machine
from_read machines number machine number_below value = slice_get_read machines (length machines) number machine refl number_below value

-- where it is put back, nothing has changed
pub put_back : (machines : List Machine) (number : ℕ) (machine : Machine) → machine ≡ get_or machines number machine → slice_set machines number machine ≡ machines
put_back machines number machine value = ap (λ x. slice_set machines number x) value ∙ set-get_or machines number machine

-- its heap is that of all
pub heap_here : (config : Config) (machines : List Machine) (number : ℕ) (machine : Machine) → All (λ x. config_of x ≡ config) machines → slice_get machines number ≡ Some machine → config_of machine ≡ config
heap_here config machines number machine one_heap machine_there =
    sym (ap config_of (get_or_from_slice_get machines number machine machine machine_there)) ∙ one_heap number machine (slice_get_within machines number machine machine_there)

-- it is shown
pub shown_here : (machines : List Machine) (number : ℕ) (machine : Machine) → slice_get machines number ≡ Some machine → slice_get (map shown machines) number ≡ Some (shown machine)
shown_here machines number machine machine_there = slice_get-map shown machines number ∙ ap (λ found. option_map shown found) machine_there

-- so is its order
pub order_here : (machines : List Machine) (number : ℕ) (machine : Machine) → slice_get machines number ≡ Some machine → slice_index_or (map order_of machines) number Nothing ≡ order_of machine
order_here machines number machine machine_there =
    get_or_from_slice_get (map order_of machines) number (order_of machine) Nothing
    (slice_get-map order_of machines number ∙ ap (λ found. option_map order_of found) machine_there)

-- where no order is pending, it has none
pub none_here : (machines : List Machine) (number : ℕ) (machine : Machine) → All (λ order. order ≡ Nothing) (map order_of machines) → slice_get machines number ≡ Some machine → order_of machine ≡ Nothing
none_here machines number machine no_orders machine_there =
    let order_there : slice_get (map order_of machines) number ≡ Some (order_of machine) = slice_get-map order_of machines number ∙ ap (λ found. option_map order_of found) machine_there in
    sym (order_here machines number machine machine_there) ∙ no_orders number Nothing (slice_get_within (map order_of machines) number (order_of machine) order_there)

-- the machine of a number, in memory
pub machine_here : (machines : List Machine) (number : ℕ) (machine : Machine) → slice_get machines number ≡ Some machine → slice_index_or (map shown machines) number no_machine ≡ shown machine
machine_here machines number machine machine_there = get_or_from_slice_get (map shown machines) number (shown machine) no_machine (shown_here machines number machine machine_there)

-- whether it makes a step
pub turn_here : (machines : List Machine) (number : ℕ) (machine : Machine) → slice_get machines number ≡ Some machine → takes_of (slice_index_or (map shown machines) number no_machine) (slice_index_or (map order_of machines) number Nothing) ≡ has_turn machine
turn_here machines number machine machine_there =
    ap (λ some_machine. takes_of some_machine (slice_index_or (map order_of machines) number Nothing)) (machine_here machines number machine machine_there)
    ∙ ap (λ order. takes_of (shown machine) order) (order_here machines number machine machine_there)

-- the place of its next access
pub place_here : (machines : List Machine) (number : ℕ) (machine : Machine) → slice_get machines number ≡ Some machine → place_in (slice_index_or (map order_of machines) number Nothing) (slice_index_or (map shown machines) number no_machine) ≡ place_in (order_of machine) (shown machine)
place_here machines number machine machine_there =
    ap (λ some_machine. place_in (slice_index_or (map order_of machines) number Nothing) some_machine) (machine_here machines number machine machine_there)
    ∙ ap (λ order. place_in order (shown machine)) (order_here machines number machine machine_there)

-- no step says that there was none
pub never_idle : (said : Took) → stepped_of said ≡ stepped.Idle → ⊥
never_idle took.More says_idle = absurd cc
never_idle took.Again says_idle = absurd cc
never_idle took.Done says_idle = absurd cc

-- what was said of the step says that its call has ended
pub done_only : (said : Took) → stepped_of said ≡ stepped.Done → said ≡ took.Done
done_only took.More says_done = absurd cc
done_only took.Again says_done = absurd cc
done_only took.Done says_done = refl

-- or that it waits
pub again_only : (said : Took) → stepped_of said ≡ stepped.Again → said ≡ took.Again
again_only took.More says_again = absurd cc
again_only took.Again says_again = refl
again_only took.Done says_again = absurd cc

-- by what the code has read and done
pub made_from : (config : Config) (words new_words : List ℕ) (machines : List Machine) (number : ℕ) (machine new_machine : Machine) (access : Access) (found : ℕ)
    → number < length machines → machine ≡ get_or machines number machine → All (λ part. config_of part ≡ config) machines → has_turn machine ≡ true → access ≡ plan_of (config_of machine) (order_of machine) (shown machine)
    → new_words ≡ accessed access words → found ≡ slice_index words (table_index access) → shown new_machine ≡ machine_after pause_image (config_of machine) (order_of machine) found (shown machine) → IsMade config words new_words machines number machine new_machine
made_from config words new_words machines number machine new_machine access found number_below value one_heap takes row words_are found_is shown_is =
    let machine_there = from_read machines number machine number_below value in
    record {
      here = machine_there;
      heap = heap_here config machines number machine one_heap machine_there;
      takes = takes;
      words_are = words_are ∙ ap (λ part. accessed part words) row;
      shown_is = shown_is ∙ ap (λ got. machine_after pause_image (config_of machine) (order_of machine) got (shown machine)) (found_is ∙ ap (λ part. slice_index words (table_index part)) row);
    }

module _ (config : Config) (words new_words : List ℕ) (machines : List Machine) (number : ℕ) (machine new_machine : Machine) (step_made : IsMade config words new_words machines number machine new_machine) where
  -- the machines after its step
  new_machines_are : map shown (slice_set machines number new_machine) ≡ slice_set (map shown machines) number (machine_after pause_image (config_of machine) (order_of machine) (slice_index words (table_index (plan_of (config_of machine) (order_of machine) (shown machine)))) (shown machine))
  new_machines_are = map-set shown machines number new_machine ∙ ap (λ some_machine. slice_set (map shown machines) number some_machine) step_made.shown_is

  -- the step is one event
  pub made_event : IsOneEvent config words (map shown machines) new_words (map shown (slice_set machines number new_machine)) number (order_of machine)
  made_event =
      subst (λ config. IsOneEvent config words (map shown machines) new_words (map shown (slice_set machines number new_machine)) number (order_of machine)) step_made.heap
      (rw (new_machines_are, step_made.words_are)
      (one_event (config_of machine) words (map shown machines) number (shown machine) (order_of machine) (shown_here machines number machine step_made.here) step_made.takes))

  -- so memory shows a stage again
  pub made_shown : IsShownBySomeRun config words (map shown machines) → IsShownBySomeRun config new_words (map shown (slice_set machines number new_machine))
  made_shown shown_by_some_run = record {
    run = record { start = shown_by_some_run.run.start; graph = shown_by_some_run.run.graph; begins = shown_by_some_run.run.begins; events = shown_by_some_run.run.events ++ event number (order_of machine) ∷ [] };
    shows = made_event.goes_on shown_by_some_run.run.start shown_by_some_run.run.events shown_by_some_run.shows;
  }

  -- its order is done
  pub made_orders : order_of new_machine ≡ Nothing → map order_of (slice_set machines number new_machine) ≡ slice_set (map order_of machines) number Nothing
  made_orders no_order = map-set order_of machines number new_machine ∙ ap (λ some_order. slice_set (map order_of machines) number some_order) no_order

  -- under the order that memory has
  pub made_step : IsOneEvent config words (map shown machines) new_words (map shown (slice_set machines number new_machine)) number (slice_index_or (map order_of machines) number Nothing)
  made_step = subst (λ order. IsOneEvent config words (map shown machines) new_words (map shown (slice_set machines number new_machine)) number order)
      (sym (order_here machines number machine step_made.here)) made_event

  -- all machines are still of one heap
  pub made_heap : config_of new_machine ≡ config_of machine → All (λ y. config_of y ≡ config) machines → All (λ y. config_of y ≡ config) (slice_set machines number new_machine)
  made_heap same_heap one_heap = All-set (λ y. config_of y ≡ config) machines number new_machine (same_heap ∙ step_made.heap) one_heap

  -- all that holds of the machines after the step
  pub made_machines : map shown (slice_set machines number new_machine) ≡ slice_set (map shown machines) number (machine_next config words (slice_index_or (map order_of machines) number Nothing) (slice_index_or (map shown machines) number no_machine))
  made_machines =
      map-set shown machines number new_machine
      ∙ ap (λ some_machine. slice_set (map shown machines) number some_machine)
      (step_made.shown_is
      ∙ ap (λ some_config. machine_next some_config words (order_of machine) (shown machine)) step_made.heap
      ∙ ap (λ order. machine_next config words order (shown machine)) (sym (order_here machines number machine step_made.here))
      ∙ ap (λ some_machine. machine_next config words (slice_index_or (map order_of machines) number Nothing) some_machine) (sym (machine_here machines number machine step_made.here)))

-- a list after a change of an element that does not show
set_alike : {A B : Type 0} (f : A → B) (xs : List A) (number : ℕ) (old_element new_element : A) → slice_get xs number ≡ Some old_element → f new_element ≡ f old_element → map f (slice_set xs number new_element) ≡ map f xs
set_alike f xs number old_element new_element old_there shows_same =
    let image_there : slice_get (map f xs) number ≡ Some (f old_element) = slice_get-map f xs number ∙ ap (λ found. option_map f found) old_there in
    map-set f xs number new_element
    ∙ ap (λ z. slice_set (map f xs) number z) shows_same
    ∙ ap (λ z. slice_set (map f xs) number z) (sym (get_or_from_slice_get (map f xs) number (f old_element) (f old_element) image_there))
    ∙ set-get_or (map f xs) number (f old_element)

-- an order for a machine changes none
pub ordered_machines : (machines : List Machine) (number : ℕ) (machine new_machine : Machine) → slice_get machines number ≡ Some machine → shown new_machine ≡ shown machine → map shown (slice_set machines number new_machine) ≡ map shown machines
ordered_machines machines number machine new_machine machine_there same_shown = set_alike shown machines number machine new_machine machine_there same_shown

-- nor does no order
pub ordered_none : (machines : List Machine) (number : ℕ) (machine new_machine : Machine) → slice_get machines number ≡ Some machine → order_of new_machine ≡ order_of machine → map order_of (slice_set machines number new_machine) ≡ map order_of machines
ordered_none machines number machine new_machine machine_there same_order = set_alike order_of machines number machine new_machine machine_there same_order

-- a machine that was put there, and its order
pub machine_now : (machines : List Machine) (number : ℕ) (machine new_machine : Machine) → slice_get machines number ≡ Some machine → slice_index_or (map shown (slice_set machines number new_machine)) number no_machine ≡ shown new_machine
machine_now machines number machine new_machine machine_there = machine_here (slice_set machines number new_machine) number new_machine (slice_get-set_same machines number machine new_machine machine_there)

pub order_now : (machines : List Machine) (number : ℕ) (machine new_machine : Machine) → slice_get machines number ≡ Some machine → slice_index_or (map order_of (slice_set machines number new_machine)) number Nothing ≡ order_of new_machine
order_now machines number machine new_machine machine_there = order_here (slice_set machines number new_machine) number new_machine (slice_get-set_same machines number machine new_machine machine_there)

-- the orders after a new one
pub ordered_orders : (machines : List Machine) (number : ℕ) (machine : Machine) (order : Order) → order_of machine ≡ order → map order_of (slice_set machines number machine) ≡ slice_set (map order_of machines) number order
ordered_orders machines number machine order its_order = map-set order_of machines number machine ∙ ap (λ some_order. slice_set (map order_of machines) number some_order) its_order

-- all machines are still of one heap
pub ordered_heap : (config : Config) (machines : List Machine) (number : ℕ) (machine new_machine : Machine) → slice_get machines number ≡ Some machine → config_of new_machine ≡ config_of machine → All (λ y. config_of y ≡ config) machines → All (λ y. config_of y ≡ config) (slice_set machines number new_machine)
ordered_heap config machines number machine new_machine machine_there same_heap one_heap =
    All-set (λ y. config_of y ≡ config) machines number new_machine (same_heap ∙ heap_here config machines number machine one_heap machine_there) one_heap

-- memory shows the opening
pub shows_opening : (config : Config) (words : List ℕ) (machines : List Machine) → words ≡ opening_words config → map shown machines ≡ map (opening_machine config) (range_with_len 0 (seat_count config.mutators config.helpers)) → WordsShow words (map shown machines) (opening config)
unfolding opening
shows_opening config words machines words_are machines_are = record { words_are = sym words_are; machines_are = first_machines config ∙ sym machines_are }

-- so no event led to it
pub shown_by_none : (config : Config) (words : List ℕ) (machines : List actors.Machine) → WordsShow words machines (opening config) → IsShownBySomeRun config words machines
shown_by_none config words machines shows = record { run = opening_run config []; shows = subst (λ stage. WordsShow words machines stage) (sym (go-none (kind pause_image config) (opening config))) shows }

-- there is a machine for each seat
pub machines_count : (config : Config) (machines : List Machine) → map shown machines ≡ map (opening_machine config) (range_with_len 0 (seat_count config.mutators config.helpers)) → length machines ≡ seat_count config.mutators config.helpers
machines_count config machines machines_are =
    sym (length-map machines shown) ∙ ap length machines_are ∙ sym (ap length (first_machines config)) ∙ length-map (opening config).machines (λ actor. actor.machine) ∙ first_count config

-- what its step says, by what the code has read
module _ (config : Config) (words : List ℕ) (machines : List Machine) (number : ℕ) (read_machine : Machine) (access : Access) (found : ℕ) (said : Took) (result : Stepped)
    (machine_there : slice_get machines number ≡ Some read_machine) (heap : config_of read_machine ≡ config) (takes : has_turn read_machine ≡ true) (row : access ≡ plan_of (config_of read_machine) (order_of read_machine) (shown read_machine))
    (found_is : found ≡ slice_index words (table_index access)) (result_said : result ≡ stepped_of said) where
  -- the word that it finds
  found_here : found ≡ slice_index words (table_index (plan_of config (slice_index_or (map order_of machines) number Nothing) (slice_index_or (map shown machines) number no_machine)))
  found_here =
      found_is
      ∙ ap (λ value. slice_index words (table_index value))
      (row
      ∙ ap (λ some_config. plan_of some_config (order_of read_machine) (shown read_machine)) heap
      ∙ ap (λ order. plan_of config order (shown read_machine)) (sym (order_here machines number read_machine machine_there))
      ∙ ap (λ value. plan_of config (slice_index_or (map order_of machines) number Nothing) value) (sym (machine_here machines number read_machine machine_there)))

  pub says_here : answer_of (config_of read_machine) (order_of read_machine) (shown read_machine) found ≡ Some said
      → result ≡ says config (slice_index_or (map order_of machines) number Nothing) (slice_index_or (map shown machines) number no_machine) (slice_index words (table_index (plan_of config (slice_index_or (map order_of machines) number Nothing) (slice_index_or (map shown machines) number no_machine))))
  says_here answer =
      result_said
      ∙ sym (ap stepped_by answer)
      ∙ ap (λ some_config. says some_config (order_of read_machine) (shown read_machine) found) heap
      ∙ ap (λ order. says config order (shown read_machine) found) (sym (order_here machines number read_machine machine_there))
      ∙ ap (λ some_machine. says config (slice_index_or (map order_of machines) number Nothing) some_machine found) (sym (machine_here machines number read_machine machine_there))
      ∙ ap (λ got. says config (slice_index_or (map order_of machines) number Nothing) (slice_index_or (map shown machines) number no_machine) got) found_here

  pub done_here : (said ≡ took.Done) ↔ ((is_mutating (shown read_machine) ≡ true) × (place_in (order_of read_machine) (shown read_machine) ≡ LV))
      → (result ≡ stepped.Done) ↔ ((takes_of (slice_index_or (map shown machines) number no_machine) (slice_index_or (map order_of machines) number Nothing) ≡ true) × (is_mutating (slice_index_or (map shown machines) number no_machine) ≡ true) × (place_in (slice_index_or (map order_of machines) number Nothing) (slice_index_or (map shown machines) number no_machine) ≡ LV))
  done_here done_exactly =
      let machine = machine_here machines number read_machine machine_there in
      let machine_place = place_here machines number read_machine machine_there in (
        λ ends.
            let both_told = done_exactly.0 (done_only said (sym result_said ∙ ends)) in
            (turn_here machines number read_machine machine_there ∙ takes, ap is_mutating machine ∙ both_told.0, machine_place ∙ both_told.1),
        λ all_hold. result_said ∙ ap stepped_of (done_exactly.1 (sym (ap is_mutating machine) ∙ all_hold.1, sym machine_place ∙ all_hold.2)),
      )

  pub again_here : (said ≡ took.Again) ↔ WaitsIn (config_of read_machine) (order_of read_machine) (shown read_machine) found
      → (result ≡ stepped.Again) ↔ ((takes_of (slice_index_or (map shown machines) number no_machine) (slice_index_or (map order_of machines) number Nothing) ≡ true) × WaitsIn config (slice_index_or (map order_of machines) number Nothing) (slice_index_or (map shown machines) number no_machine) (slice_index words (table_index (plan_of config (slice_index_or (map order_of machines) number Nothing) (slice_index_or (map shown machines) number no_machine)))))
  again_here again_exactly =
      let order = order_here machines number read_machine machine_there in
      let machine = machine_here machines number read_machine machine_there in (
        λ waits. (
          turn_here machines number read_machine machine_there ∙ takes,
          subst (λ got. WaitsIn config (slice_index_or (map order_of machines) number Nothing) (slice_index_or (map shown machines) number no_machine) got) found_here
              (subst (λ some_machine. WaitsIn config (slice_index_or (map order_of machines) number Nothing) some_machine found) (sym machine)
              (subst (λ given_order. WaitsIn config given_order (shown read_machine) found) (sym order)
              (subst (λ some_config. WaitsIn some_config (order_of read_machine) (shown read_machine) found) heap (again_exactly.0 (again_only said (sym result_said ∙ waits)))))),
        ),
        λ all_hold.
            result_said
            ∙ ap stepped_of
            (again_exactly.1
            (subst (λ some_config. WaitsIn some_config (order_of read_machine) (shown read_machine) found) (sym heap)
            (subst (λ given_order. WaitsIn config given_order (shown read_machine) found) order
            (subst (λ some_machine. WaitsIn config (slice_index_or (map order_of machines) number Nothing) some_machine found) machine
            (subst (λ got. WaitsIn config (slice_index_or (map order_of machines) number Nothing) (slice_index_or (map shown machines) number no_machine) got) (sym found_here) all_hold.1))))),
      )
