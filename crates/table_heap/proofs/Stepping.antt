-- The step of a machine of a bundle.
use Rattle.std.proofs.Common.{◌≡◌, ℕ, Bool, true, false, Option, Some, None, refl, sym, ap, ◌∙◌, subst, arith}
use Rattle.std.specs.Prelude.{slice_set, unwrap_or, ◌+◌, ◌==◌, if◌then◌else◌}
use Rattle.std.proofs.lemmas.Bool.Decides.{nat_tests}
use Rattle.atomic_table.specs.Table.{Me}
use Rattle.heap_words.specs.declared.access.Access.{Access}
use Rattle.heap_words.specs.declared.config.Config.{Config}
use Rattle.shen_graph.specs.declared.order.Order.{Order}
use Rattle.heap_words.specs.Steps.{Finds}
use Rattle.shared_table.specs.Rule.{Took}
use Rattle.shared_table.specs.Counted.{Counted, steps_in_view, uncounted_seat}
use Rattle.shared_table.specs.Views.{View, machine_of, kept_in_view, machines_picked, merged, whichever_is_there, SameNumbers}
use Rattle.shared_table.proofs.Counted.{took_uncounted, took_counts}
use Rattle.shared_table.proofs.Kept.{kept_can, kept_finds, kept_step, kept-set}
use Rattle.shared_table.proofs.Numbers.{same_step}
use Rattle.shared_table.proofs.ViewsShow.{machine_of-set, machine_of-picked, machine_of-merged}
use Rattle.heap_machines.specs.declared.machine.Machine.{Machine}
use Rattle.heap_machines.specs.Shown.{shown, order_of, config_of, has_turn}
use Rattle.heap_machines.proofs.Turns.{role_stays}
use Rattle.step_core.specs.Actor.{Actor}
use Rattle.heap_machines.specs.Roles.{is_mutating}
use Rattle.heap_machines.specs.Pause.{pause_image}
use Rattle.step_core.specs.Machines.{takes_of, plan_of, machine_after, IsFitFor}
use Rattle.table_heap.specs.declared.key.HeapKey.{HeapKey}
use Rattle.table_heap.specs.Core.{heap_kind, start_of_key, table_kind, table_start, machine_in}
use Rattle.table_heap.specs.Known.{IsMachineOfHeap, AreOfHeap}
use Rattle.table_heap.proofs.Core.{kind_takes, kind_plan, kind_took, found_fits}
use Rattle.table_heap.proofs.MachineUnder.{shows_here}

module _ {S : Type 0} (config : Config) (key : HeapKey) (sizes : key.config ≡ config) (items : View Machine) (before : Me S (View Actor)) (kept_alike : kept_in_view machine_in before.0 ≡ kept_in_view shown items) (number : ℕ) (machine : Machine) (machine_there : machine_of items number ≡ Some machine) where
  -- memory has the machine of the view
  seen_here : machine_of (kept_in_view machine_in before.0) number ≡ Some (shown machine)
  seen_here = ap (λ asked_view. machine_of asked_view number) kept_alike ∙ shows_here shown items number machine machine_there

  -- it can make its access
  pub can : (access : Access) → config_of machine ≡ config → has_turn machine ≡ true → access ≡ plan_of (config_of machine) (order_of machine) (shown machine)
      → (actor : Actor) × (machine_of before.0 number ≡ Some actor) × ((heap_kind config).takes actor (order_of machine) ≡ true) × ((heap_kind config).plan actor (order_of machine) ≡ access)
  can access heap takes row =
      kept_can (heap_kind config) (start_of_key key) machine_in before.0 number (order_of machine) (shown machine) access seen_here
      (λ actor actor_there. (
        kind_takes config actor (order_of machine) ∙ ap (λ x. takes_of x (order_of machine)) actor_there ∙ takes,
        kind_plan config actor (order_of machine) ∙ ap (plan_of config (order_of machine)) actor_there ∙ ap (λ asked_config. plan_of asked_config (order_of machine) (shown machine)) (sym heap) ∙ sym row,
      ))

  module _ (got : ℕ) (after : Me S (View Actor)) (took : Took (heap_kind config) (start_of_key key) number (order_of machine) before got after) where
    -- the word that it found is fit
    pub fits : config_of machine ≡ config → IsFitFor (config_of machine) (order_of machine) got (shown machine)
    fits heap =
        let state_found = kept_finds (heap_kind config) (start_of_key key) machine_in number (order_of machine) before after got (shown machine) took seen_here in
        subst (λ asked_config. IsFitFor asked_config (order_of machine) got (shown machine)) (sym heap)
        (subst (λ asked_machine. IsFitFor config (order_of machine) got asked_machine) state_found.1
        (subst (λ (config : Config). IsFitFor config (order_of machine) got state_found.0.machine) sizes
        (found_fits key number state_found.0 (order_of machine) got (subst (λ (config : Config). Finds (heap_kind config) (start_of_key key) number state_found.0 (order_of machine) got) (sym sizes) state_found.2))))

    -- the bundle has the same numbers
    pub numbers_stay : SameNumbers before.0 after.0
    numbers_stay = subst (λ (view : View Actor). SameNumbers before.0 view) (sym took.view) (same_step before.0 number took.machine _ took.here)

    module _ (next_machine : Machine) (shown_is : shown next_machine ≡ machine_after pause_image (config_of machine) (order_of machine) got (shown machine)) (heap : config_of machine ≡ config) where
      -- memory keeps what the view has
      pub kept_after : kept_in_view machine_in after.0 ≡ kept_in_view shown (slice_set items number (Some next_machine))
      kept_after =
          kept_step (heap_kind config) (start_of_key key) machine_in number (order_of machine) before after got (shown machine) (shown next_machine) took seen_here
          (λ actor actor_there. ap machine_in (kind_took config actor (order_of machine) got) ∙ ap (machine_after pause_image config (order_of machine) got) actor_there ∙ ap (λ asked_config. machine_after pause_image asked_config (order_of machine) got (shown machine)) (sym heap) ∙ sym shown_is)
          ∙ ap (λ asked_view. slice_set asked_view number (Some (shown next_machine))) kept_alike
          ∙ sym (kept-set shown items number (Some next_machine))

      -- its machines are still of the heap
      pub role_after : is_mutating (shown next_machine) ≡ is_mutating (shown machine)
      role_after = ap is_mutating shown_is ∙ role_stays pause_image (config_of machine) (order_of machine) got (shown machine)

-- the same step, with other names for key and order
pub took_as : {S : Type 0} (key other_key : HeapKey) (number : ℕ) (order other_order : Order) (before : Me S (View (Counted Actor))) (got : ℕ) (after : Me S (View (Counted Actor))) → key ≡ other_key → order ≡ other_order
    → Took (table_kind key) (table_start key) number order before got after → Took (table_kind other_key) (table_start other_key) number other_order before got after
took_as key other_key number other_order second_order before got after same_key order took =
    subst (λ (key : HeapKey). Took (table_kind key) (table_start key) number second_order before got after) same_key
    (subst (λ (order : Order). Took (table_kind key) (table_start key) number order before got after) order took)

-- and without the numbers of steps
pub took_in : {S : Type 0} (key other_key : HeapKey) (config : Config) (number : ℕ) (order other_order : Order) (before : Me S (View (Counted Actor))) (got : ℕ) (after : Me S (View (Counted Actor))) → key ≡ other_key → other_key.config ≡ config → order ≡ other_order
    → Took (table_kind key) (table_start key) number order before got after → Took (heap_kind config) (start_of_key other_key) number other_order (uncounted_seat before) got (uncounted_seat after)
took_in key other_key config number first_order second_order before got after same_key sizes order took =
    subst (λ (config : Config). Took (heap_kind config) (start_of_key other_key) number second_order (uncounted_seat before) got (uncounted_seat after)) sizes
    (took_uncounted (heap_kind other_key.config) (start_of_key other_key) number second_order before after got (took_as key other_key number first_order second_order before got after same_key order took))

-- it is counted once
pub step_counted : {S : Type 0} (key : HeapKey) (number : ℕ) (order : Order) (before after : Me S (View (Counted Actor))) (got : ℕ) → Took (table_kind key) (table_start key) number order before got after
    → steps_in_view after.0 ≡ slice_set (steps_in_view before.0) number (Some (unwrap_or (machine_of (steps_in_view before.0) number) 0 + 1))
step_counted key number order before after got took =
    let counts = took_counts (heap_kind key.config) (start_of_key key) number order before after got took in
    counts.2 ∙ ap (λ count_found. slice_set (steps_in_view before.0) number (Some (unwrap_or count_found 0 + 1))) (sym counts.1)

pub can_as : (config other_config : Config) (view : View Actor) (number : ℕ) (order other_order : Order) (access : Access) → config ≡ other_config → order ≡ other_order
    → (actor : Actor) × (machine_of view number ≡ Some actor) × ((heap_kind other_config).takes actor other_order ≡ true) × ((heap_kind other_config).plan actor other_order ≡ access)
    → (actor : Actor) × (machine_of view number ≡ Some actor) × ((heap_kind config).takes actor order ≡ true) × ((heap_kind config).plan actor order ≡ access)
can_as config other_config view number other_order second_order access same_config order can_it =
    subst (λ (config : Config). (actor : Actor) × (machine_of view number ≡ Some actor) × ((heap_kind config).takes actor other_order ≡ true) × ((heap_kind config).plan actor other_order ≡ access)) (sym same_config)
    (subst (λ (order : Order). (actor : Actor) × (machine_of view number ≡ Some actor) × ((heap_kind other_config).takes actor order ≡ true) × ((heap_kind other_config).plan actor order ≡ access)) (sym order) can_it)

-- a machine that is put in the place of another of the same heap and role
pub heap_put : (config : Config) (items : View Machine) (number : ℕ) (machine next_machine : Machine) → machine_of items number ≡ Some machine → config_of next_machine ≡ config_of machine → is_mutating (shown next_machine) ≡ is_mutating (shown machine) → AreOfHeap config items → AreOfHeap config (slice_set items number (Some next_machine))
heap_put config items number machine next_machine machine_there heap role all_of_heap asked_number asked_machine asked_there = by_number (asked_number == number) refl (sym (machine_of-set items number machine (Some next_machine) machine_there asked_number) ∙ asked_there)
  where
    by_number : (holds : Bool) → (asked_number == number) ≡ holds → (if asked_number == number then Some next_machine else machine_of items asked_number) ≡ Some asked_machine → IsMachineOfHeap config asked_number asked_machine
    by_number true number_test machine_found =
        let same_number : asked_number ≡ number = grind (arith, nat_tests) in
        let new : next_machine ≡ asked_machine = cc (rw number_test at machine_found) in
        let old = all_of_heap number machine machine_there in
        subst (λ machine. IsMachineOfHeap config asked_number machine) new (subst (λ number. IsMachineOfHeap config number next_machine) (sym same_number) (record { heap = heap ∙ old.heap; role = role ∙ old.role }))
    by_number false number_test machine_found = all_of_heap asked_number asked_machine (rw number_test at machine_found)

-- so are some of its machines
pub heap_picked : (config : Config) (test : ℕ → Bool) (view : View Machine) → AreOfHeap config view → AreOfHeap config (machines_picked test view)
heap_picked config test view all_of_heap number machine machine_there = by_test (test number) (sym (machine_of-picked test view number) ∙ machine_there)
  where
    by_test : (holds : Bool) → (if holds then machine_of view number else None) ≡ Some machine → IsMachineOfHeap config number machine
    by_test true machine_found = all_of_heap number machine machine_found
    by_test false machine_found = absurd cc

-- what holds of each machine of two bundles holds of each where they are joined
pub each_merged : {R : Type 0} (P : ℕ → R → Type 0) (view other_view : View R) → ((number : ℕ) (r : R) → machine_of view number ≡ Some r → P number r) → ((number : ℕ) (r : R) → machine_of other_view number ≡ Some r → P number r)
    → (number : ℕ) (r : R) → machine_of (merged view other_view) number ≡ Some r → P number r
each_merged {R} P view second_view each_first each_second number r merged_there = by_first (machine_of view number) refl (sym (machine_of-merged view second_view number) ∙ merged_there)
  where
    by_first : (first_found : Option R) → machine_of view number ≡ first_found → whichever_is_there (machine_of view number) (machine_of second_view number) ≡ Some r → P number r
    by_first None found_told machine_found = each_second number r (sym (ap (λ first_option. whichever_is_there first_option (machine_of second_view number)) found_told) ∙ machine_found)
    by_first (Some found_thing) found_told machine_found = each_first number r (found_told ∙ sym (ap (λ first_option. whichever_is_there first_option (machine_of second_view number)) found_told) ∙ machine_found)

-- the machines of two bundles of a heap are of it
pub heap_merged : (config : Config) (view second_view : View Machine) → AreOfHeap config view → AreOfHeap config second_view → AreOfHeap config (merged view second_view)
heap_merged config view second_view first_of_heap second_of_heap = each_merged (IsMachineOfHeap config) view second_view first_of_heap second_of_heap
