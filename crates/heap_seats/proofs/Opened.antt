-- Seats of a heap before its first event.
use Rattle.std.proofs.Common.{◌≡◌, ◌<◌, ℕ, ◌+◌, ◌-◌, Bool, true, false, List, [], ◌∷◌, ◌++◌, length, Option, Some, None, refl, sym, ap, ◌∙◌, subst, arith}
use Rattle.std.specs.Prelude.{slice_get, unwrap_or, ◌%◌, if◌then◌else◌}
use mathlib.Core.List.{reverse}
use Rattle.std.specs.Option.{is_some}
use Rattle.std.proofs.lemmas.Bool.Decides.{nat_tests}
use Rattle.std.proofs.Math.Logic.{∥∥₁_elim, ∥∥₁_map}
use Rattle.std.proofs.Math.Nat.{mod-eq_of_lt, ℕ_set}
use Rattle.std.proofs.lemmas.List.{get_or-reverse, length-reverse}
use Rattle.std.proofs.lemmas.Option.{slice_get_within, slice_get-get_or, get_or_from_slice_get}
use Rattle.shen_graph.proofs.Options.{some_if_is_some}
use Rattle.shen_graph.proofs.Lists.{element_before, last_element, each_with}
use Rattle.heap_words.specs.declared.config.Config.{Config}
use Rattle.heap_words.specs.Ranges.{seat_count}
use Rattle.heap_words.specs.Steps.{Stage, HasReached}
use Rattle.shared_table.specs.Views.{View, machine_of, whole, dealt_to, is_dealt_to}
use Rattle.shared_table.proofs.Reached.{reached_opens, reached_picked}
use Rattle.shared_table.proofs.ViewsShow.{machine_of-whole, machine_of-picked}
use Rattle.step_core.specs.Actor.{Actor}
use Rattle.shen_graph.specs.declared.order.Order.TheVariants.{Nothing}
use Rattle.table_heap.specs.declared.heap.Heap.{Heap}
use Rattle.table_heap.specs.declared.bundle.Bundle.{Bundle}
use Rattle.table_heap.specs.Core.{heap_kind, start_of_key, nobody}
use Rattle.table_heap.specs.State.{config_in, start_of_heap, start_in, view_of, machine_at, order_at, steps_at, orders_of, steps_of, HasMachine, IsFresh}
use Rattle.table_heap.proofs.Running.{at_number}
use Rattle.heap_seats.specs.declared.seat.Seat.{Seat}
use Rattle.heap_seats.specs.FreshSeats.{first_machine, IsFreshSeat}
use Rattle.heap_seats.specs.Histories.{BeginsRenewable}
use Rattle.heap_seats.specs.Known.{HaveRun, HasOnly}
use Rattle.heap_seats.proofs.Known.{has_seen}

abbrev pub seats_in : Config → ℕ
seats_in config = seat_count config.mutators config.helpers

abbrev pub dealt_in : Config → Stage Actor → ℕ → View Actor
dealt_in config start number = dealt_to (seats_in config) number (whole start.machines)

default_or : {A : Type 0} (found : Option A) (default : A) → ((value : A) → found ≡ Some value → value ≡ default) → unwrap_or found default ≡ default
default_or None default each_default = refl
default_or (Some value) default each_default = each_default value refl

-- a list that is empty for any cause is empty
empty_merely : {A : Type 0} (xs : List A) → ∥ xs ≡ [] ∥₁ → xs ≡ []
empty_merely [] empty_by_cause = refl
empty_merely (x ∷ xs) empty_by_cause = absurd (∥∥₁_elim empty_by_cause (hlevel) (λ said_empty. cc))

-- of a heap that begins so, with a graph that can be renewed
module _ (config : Config) (start : Stage Actor) (begins : ∥ BeginsRenewable config start ∥₁) where
  start_long : length start.machines ≡ seats_in config
  start_long = ∥∥₁_elim begins (hlevel ℕ_set) (λ some_begin. some_begin.begins.seats)

  -- the actor of a number
  start_there : (number : ℕ) → number < seats_in config → slice_get start.machines number ≡ Some (unwrap_or (slice_get start.machines number) nobody)
  start_there number number_below =
      let seats_counted = start_long in
      let actor_there = slice_get-get_or start.machines number nobody (omega (arith, number_below, seats_counted)) in
      actor_there ∙ ap (λ (found : Option Actor). Some (unwrap_or found nobody)) (sym actor_there)

  start_calls : (number : ℕ) → number < seats_in config → (unwrap_or (slice_get start.machines number) nobody).calls ≡ []
  start_calls number number_below = empty_merely (unwrap_or (slice_get start.machines number) nobody).calls (∥∥₁_map begins (λ some_begin. (some_begin.begins.machines number (unwrap_or (slice_get start.machines number) nobody) (start_there number number_below)).calls))

  -- is dealt to the bundle of that number
  dealt_there : (number : ℕ) → number < seats_in config → machine_of (dealt_in config start number) number ≡ Some (unwrap_or (slice_get start.machines number) nobody)
  dealt_there number number_below =
      let same_number : number % seats_in config ≡ number = mod-eq_of_lt number_below in
      let dealt_here : is_dealt_to (seats_in config) number number ≡ true = grind (arith, nat_tests, same_number) in
      machine_of-picked (is_dealt_to (seats_in config) number) (whole start.machines) number
      ∙ ap (λ (holds : Bool). if holds then machine_of (whole start.machines) number else None) dealt_here
      ∙ machine_of-whole start.machines number ∙ start_there number number_below

  -- and no other one
  dealt_only : (number index : ℕ) (actor : Actor) → machine_of (dealt_in config start number) index ≡ Some actor → index ≡ number
  dealt_only number index actor machine_there = by_test (is_dealt_to (seats_in config) number index) refl (sym (machine_of-picked (is_dealt_to (seats_in config) number) (whole start.machines) index) ∙ machine_there)
    where
      by_test : (outcome : Bool) → is_dealt_to (seats_in config) number index ≡ outcome → (if outcome then machine_of (whole start.machines) index else None) ≡ Some actor → index ≡ number
      by_test true test_is actor_there =
          let index_within = slice_get_within start.machines index actor (sym (machine_of-whole start.machines index) ∙ actor_there) in
          let seats_counted = start_long in
          let index_below : index < seats_in config = omega (arith, index_within, seats_counted) in
          let same_number : index % seats_in config ≡ index = mod-eq_of_lt index_below in
          grind (arith, nat_tests, same_number, test_is)
      by_test false test_is actor_there = absurd cc

  module _ (heap : Heap) (bundle : Bundle) (number : ℕ) (fresh : IsFresh heap bundle (dealt_in config start number)) where
    pub fresh_only : HasOnly bundle number
    fresh_only index machine_here =
        let some_machine = some_if_is_some (machine_of (view_of bundle) index) (sym (has_seen bundle index) ∙ machine_here) in
        dealt_only number index some_machine.0 (ap (λ asked_view. machine_of asked_view index) (sym fresh.machines) ∙ some_machine.1)

    module _ (number_below : number < seats_in config) where
      there : machine_of (view_of bundle) number ≡ Some (unwrap_or (slice_get start.machines number) nobody)
      there = ap (λ asked_view. machine_of asked_view number) fresh.machines ∙ dealt_there number number_below

      pub fresh_here : HasMachine bundle number
      fresh_here = has_seen bundle number ∙ ap is_some there

      pub fresh_machine : machine_at bundle number ≡ first_machine start number
      fresh_machine = at_number bundle number (unwrap_or (slice_get start.machines number) nobody) there

      pub fresh_order : order_at bundle number ≡ Nothing
      fresh_order = default_or (machine_of (orders_of bundle) number) Nothing (λ order order_is. fresh.orders number order order_is)

      pub fresh_steps : steps_at bundle number ≡ 0
      fresh_steps = default_or (machine_of (steps_of bundle) number) 0 (λ made count_is. fresh.steps number made count_is)

      pub fresh_calls : (unwrap_or (machine_of (view_of bundle) number) nobody).calls ≡ []
      fresh_calls = ap (λ actor_found. (unwrap_or actor_found nobody).calls) there ∙ start_calls number number_below

-- its machines stand as in a run of no event
pub fresh_run : (config : Config) (heap : Heap) (bundle : Bundle) (number : ℕ) → IsFresh heap bundle (dealt_in config (start_of_heap heap) number) → HaveRun bundle
fresh_run config heap bundle number fresh index actor actor_there =
    let kind = heap_kind (config_in bundle) in
    let start : start_in bundle ≡ start_of_heap heap = ap start_of_key fresh.of.key in
    subst (λ (stage : Stage Actor). ∥ HasReached kind stage index actor ∥₁) (sym start)
    (reached_picked kind (start_of_heap heap) (is_dealt_to (seats_in config) number) (whole (start_of_heap heap).machines) (reached_opens kind (start_of_heap heap)) index actor (ap (λ asked_view. machine_of asked_view index) (sym fresh.machines) ∙ actor_there))

-- ---- lists

pub get_reversed : {A : Type 0} (xs : List A) (index : ℕ) (element : A) → slice_get (reverse xs) index ≡ Some element → slice_get xs (length xs - 1 - index) ≡ Some element
get_reversed {A = A} xs index element there =
    let index_within = slice_get_within (reverse xs) index element there in
    let index_below : index < length xs = omega (arith, index_within, length-reverse xs) in
    slice_get-get_or xs (length xs - 1 - index) element (omega (arith, index_below)) ∙ ap (λ (given_element : A). Some given_element) (sym (get_or-reverse xs index element index_below) ∙ get_or_from_slice_get (reverse xs) index element element there)

-- the bundles that are left, the last one for the next seat, and the seats so far
pub record Opens (config : Config) (heap : Heap) (bundles : List Bundle) (seats : List Seat) (number : ℕ) : Type 0 where
  pub count : length bundles + number ≡ seats_in config
  pub left : (index : ℕ) (bundle : Bundle) → slice_get bundles index ≡ Some bundle → IsFresh heap bundle (dealt_in config (start_of_heap heap) (seats_in config - 1 - index))
  pub long : length seats ≡ number
  pub each : (index : ℕ) (seat : Seat) → slice_get seats index ≡ Some seat → IsFreshSeat config heap index seat

pub opens_first : (config : Config) (heap : Heap) (bundles : List Bundle) → length bundles ≡ seats_in config → ((index : ℕ) (bundle : Bundle) → slice_get bundles index ≡ Some bundle → IsFresh heap bundle (dealt_in config (start_of_heap heap) index)) → Opens config heap (reverse bundles) [] 0
opens_first config heap bundles count each_fresh = record {
  count = omega (arith, count, length-reverse bundles);
  left = λ index bundle bundle_there. subst (λ seat_total. IsFresh heap bundle (dealt_in config (start_of_heap heap) (seat_total - 1 - index))) count (each_fresh (length bundles - 1 - index) bundle (get_reversed bundles index bundle bundle_there));
  long = refl;
  each = λ index seat bundle_there. absurd cc;
}

pub last_fresh : (config : Config) (heap : Heap) (before after : List Bundle) (bundle : Bundle) (seats : List Seat) (number : ℕ) → Opens config heap before seats number → before ≡ after ++ bundle ∷ [] → IsFresh heap bundle (dealt_in config (start_of_heap heap) number)
last_fresh config heap before after bundle seats number opens before_is =
    let one_longer : length before ≡ length after + 1 = ap length before_is ∙ Rattle.std.proofs.lemmas.List.length-append after (bundle ∷ []) in
    let number_is : seats_in config - 1 - length after ≡ number = omega (arith, one_longer, opens.count) in
    subst (λ dealt_number. IsFresh heap bundle (dealt_in config (start_of_heap heap) dealt_number)) number_is (opens.left (length after) bundle (ap (λ bundles. slice_get bundles (length after)) before_is ∙ last_element after bundle))

pub opens_next : (config : Config) (heap : Heap) (before after : List Bundle) (bundle : Bundle) (seats : List Seat) (seat : Seat) (number : ℕ) → Opens config heap before seats number → before ≡ after ++ bundle ∷ [] → IsFreshSeat config heap number seat → Opens config heap after (seats ++ seat ∷ []) (number + 1)
opens_next config heap before after bundle seats seat number opens before_is fresh =
    let one_longer : length before ≡ length after + 1 = ap length before_is ∙ Rattle.std.proofs.lemmas.List.length-append after (bundle ∷ []) in
    let seats_longer : length (seats ++ seat ∷ []) ≡ length seats + 1 = Rattle.std.proofs.lemmas.List.length-append seats (seat ∷ []) in
    record {
      count = omega (arith, one_longer, opens.count);
      left = λ index left_bundle bundle_there. opens.left index left_bundle (ap (λ bundles. slice_get bundles index) before_is ∙ element_before after (bundle ∷ []) index left_bundle bundle_there);
      long = omega (arith, seats_longer, opens.long);
      each = each_with (λ place seat. IsFreshSeat config heap place seat) seats seat number opens.long opens.each fresh;
    }
