-- Seats of one heap whose machines are joined.
use Rattle.std.proofs.lemmas.Option.{same_Some}
use Rattle.std.proofs.Common.{◌≡◌, ◌<◌, ◌⊎◌, inl, inr, ℕ, zero, suc, Bool, true, false, not, ◌&&◌, List, [], ◌∷◌, ◌++◌, length, Option, Some, None, refl, sym, ap, ◌∙◌, subst, arith}
use Rattle.std.specs.Prelude.{slice_get, unwrap_or, nat_lt}
use Rattle.std.specs.Arc.{arc_value}
use Rattle.std.specs.Option.{is_some}
use Rattle.std.proofs.lemmas.Bool.Decides.{nat_tests}
use Rattle.heap_words.specs.declared.config.Config.{Config}
use Rattle.heap_words.specs.Ranges.{seat_count}
use Rattle.heap_words.specs.Steps.{Stage, Event, IsReached}
use Rattle.shen_graph.specs.declared.order.Order.{Order}
use Rattle.shen_graph.specs.declared.order.Order.TheVariants.{Nothing}
use Rattle.shen_graph.specs.Order.{is_nothing, hinting}
use Rattle.mutator.specs.Orders.{is_between_calls}
use Rattle.shared_table.specs.Views.{View, machine_of, whole, merged, whichever_is_there}
use Rattle.std.proofs.lemmas.List.{length-map}
use Rattle.shen_graph.proofs.Options.{none_if_never}
use Rattle.shen_graph.proofs.Lists.{element_before, last_element}
use Rattle.heap_words.proofs.Lists.{element_at}
use Rattle.shared_table.proofs.Kept.{kept_here, length-kept}
use Rattle.shared_table.proofs.ViewsShow.{machine_of-merged, machine_of-whole}
use Rattle.heap_machines.specs.Pause.{pause_image}
use Rattle.heap_machines.proofs.Pauses.{heap_pauses}
use Rattle.heap_machines.proofs.Turns.{turn_idle}
use Rattle.heap_machines.proofs.RestedGraph.{entries_at_rest}
use Rattle.step_core.specs.Actor.{Actor}
use Rattle.step_core.specs.Begins.{Run}
use Rattle.step_core.specs.Machines.{is_resting, is_for_working, takes_of, may_begin}
use Rattle.step_core.specs.Settled.{control_number}
use Rattle.step_core.proofs.Theorem.EveryList.{run_sound}
use Rattle.table_heap.specs.declared.heap.Heap.{Heap}
use Rattle.table_heap.specs.declared.bundle.Bundle.{Bundle}
use Rattle.table_heap.specs.declared.closed.Closed.{Closed}
use Rattle.table_heap.specs.Closed as closed
use Rattle.table_heap.specs.Core.{heap_kind, start_of_key, nobody, machine_in}
use Rattle.table_heap.specs.State.{start_of_heap, start_in, view_of, IsBundleOf, has_turn, order_at}
use Rattle.heap_machines.specs.Shown.{shown, order_of}
use Rattle.heap_machines.specs.Roles.{is_mutating}
use Rattle.heap_machines.specs.declared.machine.Machine as memory
use Rattle.heap_machines.specs.declared.machine.Machine.TheVariants as memories
use Rattle.heap_machines.proofs.ComeToRest.{HasComeToRest}
use Rattle.table_heap.proofs.Core.{run_from}
use Rattle.table_heap.proofs.MachineUnder.{shows_as}
use Rattle.table_heap.proofs.Running.{at_number, in_view, in_memory, role_at}
use Rattle.heap_seats.specs.declared.progress.State.TheVariants.{Ended}
use Rattle.heap_seats.specs.declared.seat.Seat.{Seat}
use Rattle.heap_seats.specs.Seats.{actor_in, machine_of_seat, state_in, state_by}
use Rattle.heap_seats.specs.GivenUp.{AreMachinesOf, AreJoined, AreAllSeats, AreOver, HaveNot, IsHistoryOf, HaveOneHistory, AreMachinesLeft}
use Rattle.heap_seats.specs.Histories.{BeginsRenewable, led, OfEachBegun}
use Rattle.heap_seats.proofs.Histories.{run_is_legal}
use Rattle.heap_seats.proofs.Known.{has_seen}

-- the machine of a seat
seat_there : (seat : Seat) → machine_of (view_of seat.bundle) seat.number ≡ Some (actor_in seat)
seat_there seat = let viewed = in_view seat.bundle seat.number seat.here in viewed.1 ∙ ap (λ (actor : Actor). Some actor) (sym (ap (λ actor_found. unwrap_or actor_found nobody) viewed.1))

seat_only : (seat : Seat) (number : ℕ) (actor : Actor) → machine_of (view_of seat.bundle) number ≡ Some actor → number ≡ seat.number
seat_only seat number actor actor_there = seat.only number (has_seen seat.bundle number ∙ ap is_some actor_there)

one_of : {A : Type 0} (only_one : A) (index : ℕ) (element : A) → slice_get (only_one ∷ []) index ≡ Some element → only_one ≡ element
one_of only_one zero element element_there = same_Some only_one element element_there
one_of only_one (suc index) element element_there = absurd cc

-- one seat alone
pub machines_one : (seat : Seat) → AreMachinesOf (seat ∷ []) (view_of seat.bundle)
machines_one other_seat = record {
  each = λ index asked_seat seat_found. let seat = one_of other_seat index asked_seat seat_found in subst (λ (seat : Seat). machine_of (view_of other_seat.bundle) seat.number ≡ Some (actor_in seat)) seat (seat_there other_seat);
  only = λ number absent. none_if_never (machine_of (view_of other_seat.bundle) number) (λ actor actor_there. absent 0 other_seat refl (sym (seat_only other_seat number actor actor_there)));
}

pub joined_one : (seat : Seat) → AreJoined (arc_value seat.heap) (seat ∷ []) seat.bundle
joined_one seat = record { of = seat.fits; machines = machines_one seat }

-- what is under a number where two are joined
first_there : {A : Type 0} (found other_found : Option A) (element : A) → found ≡ Some element → whichever_is_there found other_found ≡ Some element
first_there found other_found element first_found = ap (λ first_option. whichever_is_there first_option other_found) first_found

second_there : {A : Type 0} (found other_found : Option A) (element : A) → found ≡ None → other_found ≡ Some element → whichever_is_there found other_found ≡ Some element
second_there found other_found element no_first second_found = ap (λ first_option. whichever_is_there first_option other_found) no_first ∙ second_found

-- a seat of two lists, one behind the other
in_both : {A : Type 0} (xs ys : List A) (other_index : ℕ) (element : A) → slice_get (xs ++ ys) other_index ≡ Some element → (slice_get xs other_index ≡ Some element) ⊎ ((index : ℕ) × (slice_get ys index ≡ Some element))
in_both [] ys index element element_there = inr (index, element_there)
in_both (head ∷ xs) ys zero element element_there = inl element_there
in_both (head ∷ xs) ys (suc index) element element_there = in_both xs ys index element element_there

-- and one more behind it
module _ (before : List Seat) (seat : Seat) (old new : View Actor) (theirs : AreMachinesOf before old) (absent : HaveNot before seat.number) (view : new ≡ merged old (view_of seat.bundle)) where
  under : (number : ℕ) → machine_of new number ≡ whichever_is_there (machine_of old number) (machine_of (view_of seat.bundle) number)
  under number = ap (λ asked_view. machine_of asked_view number) view ∙ machine_of-merged old (view_of seat.bundle) number

  new_there : machine_of old seat.number ≡ None
  new_there = theirs.only seat.number absent

  mine : machine_of new seat.number ≡ Some (actor_in seat)
  mine = under seat.number ∙ second_there (machine_of old seat.number) (machine_of (view_of seat.bundle) seat.number) (actor_in seat) new_there (seat_there seat)

  each_there : (asked_index : ℕ) (asked_seat : Seat) → (slice_get before asked_index ≡ Some asked_seat) ⊎ ((index : ℕ) × (slice_get (seat ∷ []) index ≡ Some asked_seat)) → machine_of new asked_seat.number ≡ Some (actor_in asked_seat)
  each_there index asked_seat (inl seat_found) = under asked_seat.number ∙ first_there (machine_of old asked_seat.number) (machine_of (view_of seat.bundle) asked_seat.number) (actor_in asked_seat) (theirs.each index asked_seat seat_found)
  each_there index asked_seat (inr seat_found) = subst (λ (seat : Seat). machine_of new seat.number ≡ Some (actor_in seat)) (one_of seat seat_found.0 asked_seat seat_found.1) mine

  none_there : (found other_found : Option Actor) → found ≡ None → other_found ≡ None → whichever_is_there found other_found ≡ None
  none_there found other_found no_first no_second = ap (λ first_option. whichever_is_there first_option other_found) no_first ∙ no_second

  only_these : (number : ℕ) → HaveNot (before ++ seat ∷ []) number → machine_of new number ≡ None
  only_these number none_has =
      under number ∙ none_there (machine_of old number) (machine_of (view_of seat.bundle) number) (theirs.only number (λ index asked_seat is_there. none_has index asked_seat (element_before before (seat ∷ []) index asked_seat is_there)))
      (none_if_never (machine_of (view_of seat.bundle) number) (λ actor is_there. none_has (length before) seat (last_element before seat) (sym (seat_only seat number actor is_there))))

  pub machines_more : AreMachinesOf (before ++ seat ∷ []) new
  machines_more = record { each = λ index found_seat seat_found. each_there index found_seat (in_both before (seat ∷ []) index found_seat seat_found); only = only_these }

pub joined_more : (heap : Heap) (before : List Seat) (seat : Seat) (old new : Bundle) → AreJoined heap before old → HaveNot before seat.number → IsBundleOf new heap → view_of new ≡ merged (view_of old) (view_of seat.bundle)
    → AreJoined heap (before ++ seat ∷ []) new
joined_more heap before seat old new joined absent bundle_of view = record { of = bundle_of; machines = machines_more before seat (view_of old) (view_of new) joined.machines absent view }

-- ---- all of them

-- A machine that is no mutator and makes no step has ended, also where it was given a hint: a hint stands only where it is taken.
no_hint_left : (hints : Bool) (hint : Option ℕ) (takes_step : Bool) → ((address : ℕ) → hint ≡ Some address → hints ≡ true) → (is_for_working hints (hinting hint) && takes_step) ≡ false → takes_step ≡ false
no_hint_left hints None takes_step given_hint takes_none = takes_none
no_hint_left hints (Some address) takes_step given_hint takes_none = subst (λ has_hint. (has_hint && takes_step) ≡ false) (given_hint address refl) takes_none

no_turn_ended : (machine : memory.Machine) → is_mutating (shown machine) ≡ false → takes_of (shown machine) (order_of machine) ≡ false → takes_of (shown machine) Nothing ≡ false
no_turn_ended (memories.Mutator machine) not_mutating no_turn = absurd cc
no_turn_ended (memories.Helper helper) not_mutating no_turn = no_hint_left _ helper.hint _ (λ address hint_given. (helper.given address hint_given).1) no_turn
no_turn_ended (memories.Control control) not_mutating no_turn = no_hint_left _ control.hint _ (λ address hint_given. (control.given address hint_given).1) no_turn

-- a mutator that makes no step is between two calls
both_rest : (rest no_order : Bool) → not (rest && no_order) ≡ false → rest ≡ true
both_rest true no_order test_false = refl
both_rest false no_order test_false = absurd cc

no_turn_rests : (machine : memory.Machine) → is_mutating (shown machine) ≡ true → takes_of (shown machine) (order_of machine) ≡ false → is_resting (shown machine) ≡ true
no_turn_rests (memories.Mutator machine) role no_turn = both_rest (is_between_calls machine.spot) (is_nothing machine.order) (sym (turn_idle machine.spot machine.made machine.order machine.allowed) ∙ no_turn)
no_turn_rests _ role no_turn = absurd cc

turn_ended : (turn can_begin : Bool) → state_by turn can_begin ≡ Ended → turn ≡ false
turn_ended true can_begin has_ended = absurd cc
turn_ended false can_begin has_ended = refl

-- what memory has of a seat that has ended
module _ (seat : Seat) (has_ended : state_in seat ≡ Ended) where
  there : machine_of (view_of seat.bundle) seat.number ≡ Some (actor_in seat)
  there = seat_there seat

  machine : machine_of_seat seat ≡ (actor_in seat).machine
  machine = at_number seat.bundle seat.number (actor_in seat) there

  found : (machine : memory.Machine) × (machine_of seat.bundle.machines.items seat.number ≡ Some machine) × (shown machine ≡ (actor_in seat).machine)
  found = kept_here shown seat.bundle.machines.items seat.number (actor_in seat).machine (in_memory seat.bundle seat.number (actor_in seat) there)

  role : is_mutating (shown found.0) ≡ nat_lt seat.number seat.config.mutators
  role = ap is_mutating found.2 ∙ role_at seat.bundle seat.number (actor_in seat) there ∙ ap (λ (config : Config). nat_lt seat.number config.mutators) seat.same_config

  order : order_at seat.bundle seat.number ≡ order_of found.0
  order = shows_as order_of seat.bundle.machines.items seat.number found.0 Nothing found.1

  takes_none : takes_of (shown found.0) (order_of found.0) ≡ false
  takes_none =
      ap (takes_of (shown found.0)) (sym order) ∙ ap (λ asked_machine. takes_of asked_machine (order_at seat.bundle seat.number)) (found.2 ∙ sym machine)
      ∙ turn_ended (has_turn seat.bundle seat.number) (may_begin (machine_of_seat seat)) has_ended

  -- where it is no mutator's, it takes no order
  seat_idle : nat_lt seat.number seat.config.mutators ≡ false → takes_of (actor_in seat).machine Nothing ≡ false
  seat_idle not_of_mutator = ap (λ asked_machine. takes_of asked_machine Nothing) (sym found.2) ∙ no_turn_ended found.0 (role ∙ not_of_mutator) takes_none

  -- where it is, no call is in progress
  seat_rests : nat_lt seat.number seat.config.mutators ≡ true → is_resting (actor_in seat).machine ≡ true
  seat_rests of_mutator = subst (λ asked_machine. is_resting asked_machine ≡ true) found.2 (no_turn_rests found.0 (role ∙ of_mutator) takes_none)

  -- so its machine has come to rest
  pub seat_has_rested : HasComeToRest (actor_in seat).machine
  seat_has_rested = by_role (nat_lt seat.number seat.config.mutators) refl
    where
      by_role : (holds : Bool) → nat_lt seat.number seat.config.mutators ≡ holds → HasComeToRest (actor_in seat).machine
      by_role true tested_number = inl (seat_rests tested_number)
      by_role false tested_number = inr (sym (ap is_mutating found.2) ∙ role ∙ tested_number, seat_idle tested_number)

module _ (config : Config) (heap : Heap) (all_seats : List Seat) (view : View Actor) (seats : AreAllSeats config heap all_seats) (theirs : AreMachinesOf all_seats view) where
  each_is : (index : ℕ) (seat : Seat) → slice_get all_seats index ≡ Some seat → machine_of view index ≡ Some (actor_in seat)
  each_is index seat seat_found = ap (machine_of view) (sym (seats.number index seat seat_found)) ∙ theirs.each index seat seat_found

  -- the seat of each number
  seat_under : (seat_number : ℕ) → seat_number < seat_count config.mutators config.helpers → (seat : Seat) × (slice_get all_seats seat_number ≡ Some seat)
  seat_under seat seat_below = element_at all_seats seat (let count = seats.count in omega (arith, seat_below, count))

  -- the heap has these sizes
  heap_is : (index : ℕ) (seat : Seat) → slice_get all_seats index ≡ Some seat → heap.config ≡ config
  heap_is index seat seat_found = ap (λ (heap : Heap). heap.config) (sym (seats.heap index seat seat_found)) ∙ sym seat.fits.config ∙ seat.same_config ∙ seats.config index seat seat_found

  pub config_is : heap.config ≡ config
  config_is = let first_seat = seat_under 0 (omega arith) in heap_is 0 first_seat.0 first_seat.1

  -- it began with a graph that can be renewed
  pub heap_begins : ∥ BeginsRenewable config (start_of_heap heap) ∥₁
  heap_begins =
      let first_seat = seat_under 0 (omega arith) in
      let seat_first = first_seat.0 in
      let start : start_in seat_first.bundle ≡ start_of_heap heap = ap start_of_key seat_first.fits.key ∙ ap (λ (heap : Heap). start_of_heap heap) (seats.heap 0 seat_first first_seat.1) in
      subst (λ (stage : Stage Actor). ∥ BeginsRenewable config stage ∥₁) start (subst (λ (config : Config). ∥ BeginsRenewable config (start_in seat_first.bundle) ∥₁) (seats.config 0 seat_first first_seat.1) seat_first.renewable)

  -- each machine is there
  pub each_here : (seat : ℕ) → seat < seat_count config.mutators config.helpers → is_some (machine_of view seat) ≡ true
  each_here seat seat_below = let found_seat = seat_under seat seat_below in ap is_some (each_is seat found_seat.0 found_seat.1)

  -- a mutator's seat has no call in progress
  rests : AreOver config all_seats → (mutator : ℕ) (seat : Seat) → slice_get all_seats mutator ≡ Some seat → mutator < config.mutators → is_resting (actor_in seat).machine ≡ true
  rests all_over mutator seat seat_found mutator_below =
      let number = seats.number mutator seat seat_found in
      let mutators : seat.config.mutators ≡ config.mutators = ap (λ (config : Config). config.mutators) (seats.config mutator seat seat_found) in
      let of_mutator : nat_lt seat.number seat.config.mutators ≡ true = grind (arith, nat_tests, number, mutators, mutator_below) in
      seat_rests seat (all_over mutator seat seat_found (inl mutator_below)) of_mutator

  -- where these are all machines of a stage
  module _ (stage : Stage Actor) (is_whole : view ≡ whole stage.machines) where
    stage_there : (number : ℕ) → slice_get stage.machines number ≡ machine_of view number
    stage_there number = sym (machine_of-whole stage.machines number) ∙ ap (λ asked_view. machine_of asked_view number) (sym is_whole)

    pub stage_rests : AreOver config all_seats → (mutator : ℕ) (actor : Actor) → mutator < config.mutators → slice_get stage.machines mutator ≡ Some actor → is_resting actor.machine ≡ true
    stage_rests all_over mutator actor mutator_below actor_there =
        let found_seat = seat_under mutator (omega (arith, mutator_below)) in
        let same_actor : actor_in found_seat.0 ≡ actor = same_Some (actor_in found_seat.0) actor (sym (each_is mutator found_seat.0 found_seat.1) ∙ sym (stage_there mutator) ∙ actor_there) in
        subst (λ (actor : Actor). is_resting actor.machine ≡ true) same_actor (rests all_over mutator found_seat.0 found_seat.1 mutator_below)

    -- the machine of each seat is there
    pub seat_at : (index : ℕ) (seat : Seat) → slice_get all_seats index ≡ Some seat → slice_get stage.machines index ≡ Some (actor_in seat)
    seat_at index seat seat_found = stage_there index ∙ each_is index seat seat_found

    -- one history, of the events that lead there
    pub history_there : AreOver config all_seats → IsReached (heap_kind heap.config) (start_of_heap heap) stage → (events : List (Event Order)) × (led config (start_of_heap heap) events ≡ stage) × OfEachBegun config (start_of_heap heap) (IsHistoryOf config (start_of_heap heap) all_seats events)
    history_there all_over reached_h =
        let led_there : IsReached (heap_kind config) (start_of_heap heap) stage = subst (λ (config : Config). IsReached (heap_kind config) (start_of_heap heap) stage) config_is reached_h in (
          led_there.events,
          led_there.ends,
          record {
            some = heap_begins;
            each = λ first_graph begins.
                let run : Run config = run_from config (start_of_heap heap) first_graph begins led_there.events in
                record {
                  legal = run_is_legal config (start_of_heap heap) first_graph begins led_there.events;
                  entries = (run_sound pause_image heap_pauses config run).entries;
                  parts = λ index seat seat_found mutator_below.
                      entries_at_rest config run index (actor_in seat) (ap (λ st. slice_get st.machines index) led_there.ends ∙ seat_at index seat seat_found) (rests all_over index seat seat_found mutator_below);
                };
          },
        )

module _ (config : Config) (heap : Heap) (all_seats : List Seat) (bundle : Bundle) (seats : AreAllSeats config heap all_seats) (joined : AreJoined heap all_seats bundle) where
  sizes : bundle.config ≡ config
  sizes = joined.of.config ∙ config_is config heap all_seats (view_of bundle) seats joined.machines

  pub has_all : closed.HasAll bundle
  has_all number number_below =
      let number_inside : number < seat_count config.mutators config.helpers = subst (λ (config : Config). number < seat_count config.mutators config.helpers) sizes number_below in
      has_seen bundle number ∙ each_here config heap all_seats (view_of bundle) seats joined.machines number number_inside

  pub control_idle : AreOver config all_seats → closed.IsControlIdle bundle
  control_idle all_over control_actor actor_there =
      let control_place = control_number config in
      let found_seat = element_at all_seats control_place (let count = seats.count in omega (arith, count)) in
      let machine_here : machine_of (view_of bundle) control_place ≡ Some control_actor = ap (λ (config : Config). machine_of (view_of bundle) (control_number config)) (sym sizes) ∙ actor_there in
      let same_actor : actor_in found_seat.0 ≡ control_actor = same_Some (actor_in found_seat.0) control_actor (sym (each_is config heap all_seats (view_of bundle) seats joined.machines control_place found_seat.0 found_seat.1) ∙ machine_here) in
      let number = seats.number control_place found_seat.0 found_seat.1 in
      let mutators : found_seat.0.config.mutators ≡ config.mutators = ap (λ (config : Config). config.mutators) (seats.config control_place found_seat.0 found_seat.1) in
      let not_of_mutator : nat_lt found_seat.0.number found_seat.0.config.mutators ≡ false = grind (arith, nat_tests, number, mutators) in
      subst (λ (actor : Actor). takes_of actor.machine Nothing ≡ false) same_actor (seat_idle found_seat.0 (all_over control_place found_seat.0 found_seat.1 (inr refl)) not_of_mutator)

  -- what is left of the machines
  module _ (left_machines : Closed) (view : view_of bundle ≡ whole (closed.machines_of left_machines)) where
    pub all_rest : closed.config_of left_machines ≡ config → AreOver config all_seats → closed.AllRest left_machines
    all_rest same_config all_over number actor number_below actor_there =
        let mutators : (closed.config_of left_machines).mutators ≡ config.mutators = ap (λ (config : Config). config.mutators) same_config in
        stage_rests config heap all_seats (view_of bundle) seats joined.machines (closed.stage_of left_machines) view all_over number actor (omega (arith, number_below, mutators)) actor_there

    pub one_history : AreOver config all_seats → IsReached (heap_kind heap.config) (start_of_heap heap) (closed.stage_of left_machines) → HaveOneHistory config (start_of_heap heap) all_seats left_machines
    one_history all_over reached_h =
        let history_found = history_there config heap all_seats (view_of bundle) seats joined.machines (closed.stage_of left_machines) view all_over reached_h in
        record { events = history_found.0; ends = history_found.1; history = history_found.2 }

    pub machines_left : AreMachinesLeft all_seats left_machines
    machines_left =
        let seats_there = seats.count in
        let counted : length (view_of bundle) ≡ seat_count config.mutators config.helpers =
        sym (length-kept machine_in (view_of bundle)) ∙ ap length bundle.kept ∙ length-kept shown bundle.machines.items ∙ bundle.seats ∙ ap (λ (config : Config). seat_count config.mutators config.helpers) sizes in
        let whole_count : length (view_of bundle) ≡ length (closed.machines_of left_machines) = ap length view ∙ length-map (closed.machines_of left_machines) (λ (actor : Actor). Some actor) in
        record { count = sym whole_count ∙ counted ∙ sym seats_there; each = seat_at config heap all_seats (view_of bundle) seats joined.machines (closed.stage_of left_machines) view }
