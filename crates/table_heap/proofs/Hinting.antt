-- A machine with its order, or with a hint in place of none.
use Rattle.std.proofs.Common.{◌≡◌, inl, inr, ⊎_elim, ℕ, zero, suc, true, [], ◌∷◌, Option, Some, None, refl, sym, ap, ◌∙◌, subst}
use Rattle.std.specs.Prelude.{slice_set, unwrap_or}
use Rattle.std.specs.Option.{is_some}
use Rattle.std.proofs.lemmas.List.{set-set}
use Rattle.shen_graph.specs.declared.command.Command.{Command}
use Rattle.shen_graph.specs.declared.order.Order.{Order}
use Rattle.shen_graph.specs.declared.order.Order.TheVariants.{Nothing, Hint}
use Rattle.shared_table.specs.Views.{View, machine_of, kept_in_view}
use Rattle.shared_table.specs.Counted.{uncounted_seat}
use Rattle.shared_table.proofs.Kept.{kept_some}
use Rattle.shared_table.proofs.Numbers.{same_none}
use Rattle.heap_machines.specs.Turn.{order_for}
use Rattle.heap_machines.specs.declared.stepped.Stepped.{Stepped}
use Rattle.heap_machines.specs.Shown.{no_machine}
use Rattle.step_core.specs.Actor.{Machine, mutating, helping, controlling}
use Rattle.step_core.specs.Machines.{takes_hint, takes_of}
use Rattle.table_heap.specs.Core.{machine_in}
use Rattle.table_heap.specs.declared.bundle.Bundle.{Bundle}
use Rattle.table_heap.specs.State.{config_in, start_in, view_of, orders_of, machine_at, order_at, has_turn, HasMachine, IsSameBundle, IsUnmoved, IsBundleStep}
use Rattle.table_heap.specs.Turning.{IsOrderFor, IsHinted, OnlyHintsDiffer}
use Rattle.table_heap.proofs.Running.{same_bundle_more}
use Rattle.heap_words.specs.Words.{Heap, IsWord}
use Rattle.heap_machines.specs.declared.machine.Machine as memory
use Rattle.heap_machines.specs.Shown.{shown, order_of}
use Rattle.shared_table.specs.Rule.{Took}
use Rattle.shared_table.specs.Views.{SameNumbers}
use Rattle.shared_table.specs.Counted.{uncounted_view, steps_in_view}
use Rattle.table_heap.specs.Core.{heap_kind}
use Rattle.std.proofs.lemmas.Bool.{and_parts}

-- what stands under a number after it was put there
put_here : {R : Type 0} (view : View R) (number : ℕ) (x y : R) → is_some (machine_of view number) ≡ true → unwrap_or (machine_of (slice_set view number (Some x)) number) y ≡ x
put_here [] number x y place_there = absurd cc
put_here (z ∷ zs) zero x y place_there = refl
put_here (z ∷ zs) (suc number) x y place_there = put_here zs number x y place_there

-- the machines in memory are those that the events see
same_machine : (old new : Bundle) (number : ℕ) → IsUnmoved old new → machine_at new number ≡ machine_at old number
same_machine old new number unmoved =
    ap (λ asked_view. unwrap_or (machine_of asked_view number) no_machine) (sym new.kept) ∙ ap (λ asked_view. unwrap_or (machine_of (kept_in_view machine_in asked_view) number) no_machine) unmoved.view
    ∙ ap (λ asked_view. unwrap_or (machine_of asked_view number) no_machine) old.kept

unmoved_more : (first_bundle second_bundle third_bundle : Bundle) → IsUnmoved first_bundle second_bundle → IsUnmoved second_bundle third_bundle → IsUnmoved first_bundle third_bundle
unmoved_more bundle middle_bundle third_bundle first_unmoved second_unmoved = record {
  same = same_bundle_more bundle middle_bundle third_bundle first_unmoved.same second_unmoved.same;
  view = second_unmoved.view ∙ first_unmoved.view;
  steps = second_unmoved.steps ∙ first_unmoved.steps;
  greyed = second_unmoved.greyed ∙ first_unmoved.greyed;
}

-- who takes hints takes each
takes_any : (machine : Machine) (address : ℕ) → takes_hint machine ≡ true → takes_of machine Nothing ≡ true → takes_of machine (Hint address) ≡ true
takes_any (mutating mutator) address hints takes_nothing = absurd (cc (hints))
takes_any (helping helper) address hints takes_nothing = rw hints takes_nothing
takes_any (controlling control) address hints takes_nothing = rw hints takes_nothing

-- The machine with its order, or with a hint: it has a turn, by an order that it may have then.
pub record HasHinted (old new : Bundle) (next : Option Command) (number : ℕ) : Type 0 where
  pub unmoved : IsUnmoved old new
  pub turn : IsOrderFor (config_in old) next (machine_at old number) (order_at new number)
  pub orders : orders_of new ≡ slice_set (orders_of old) number (Some (order_at new number))
  pub has : has_turn new number ≡ true

-- a machine of a bundle has an order there
pub order_there : (bundle : Bundle) (number : ℕ) → HasMachine bundle number → is_some (machine_of (orders_of bundle) number) ≡ true
order_there bundle number has_machine = by_items bundle.machines.items number has_machine
  where
    by_items : (items : View memory.Machine) (number : ℕ) → is_some (machine_of (kept_in_view shown items) number) ≡ true → is_some (machine_of (kept_in_view order_of items) number) ≡ true
    by_items [] number machine_there = absurd cc
    by_items (None ∷ machines) zero machine_there = absurd cc
    by_items (Some machine ∷ machines) zero machine_there = refl
    by_items (first_machine ∷ machines) (suc number) machine_there = by_items machines number machine_there

pub after_hint : (old mid new : Bundle) (next_command : Option Command) (number : ℕ) → HasMachine old number → IsUnmoved old mid → IsUnmoved mid new → order_for next_command (machine_at old number) ≡ Some (order_at mid number)
    → orders_of mid ≡ slice_set (orders_of old) number (Some (order_at mid number)) → has_turn mid number ≡ true → IsHinted mid new number → HasHinted old new next_command number
after_hint old mid new next_command number machine_there first_unmoved second_unmoved turn orders turn_there hinted = ⊎_elim
    (λ (same_orders : orders_of new ≡ orders_of mid).
    let order_known : order_at new number ≡ order_at mid number = ap (λ view. unwrap_or (machine_of view number) Nothing) same_orders in
    record {
      unmoved = unmoved_more old mid new first_unmoved second_unmoved;
      turn = inl (turn ∙ ap Some (sym order_known));
      orders = same_orders ∙ orders ∙ ap (λ asked_order. slice_set (orders_of old) number (Some asked_order)) (sym order_known);
      has = ap (λ asked_machine. takes_of asked_machine (order_at new number)) (same_machine mid new number second_unmoved) ∙ ap (takes_of (machine_at mid number)) order_known ∙ turn_there;
    })
    (λ (hint : (takes_hint (machine_at mid number) ≡ true) × ((address : ℕ) × IsWord (config_in mid) (Heap address) × (orders_of new ≡ slice_set (orders_of mid) number (Some (Hint address))))).
    let order_known : order_at new number ≡ Hint hint.1.0 = ap (λ view. unwrap_or (machine_of view number) Nothing) hint.1.2
    ∙ put_here (orders_of mid) number (Hint hint.1.0) Nothing (ap (λ view. is_some (machine_of view number)) orders ∙ put_there (orders_of old) number (order_at mid number) (order_there old number machine_there)) in
    let machine_kept : machine_at mid number ≡ machine_at old number = same_machine old mid number first_unmoved in
    record {
      unmoved = unmoved_more old mid new first_unmoved second_unmoved;
      turn = inr (ap takes_hint (sym machine_kept) ∙ hint.0, (hint.1.0, subst (λ asked_config. IsWord asked_config (Heap hint.1.0)) first_unmoved.same.config hint.1.1, order_known));
      orders = hint.1.2 ∙ ap (λ view. slice_set view number (Some (Hint hint.1.0))) orders ∙ set-set (orders_of old) number _ _ ∙ ap (λ asked_order. slice_set (orders_of old) number (Some asked_order)) (sym order_known);
      has = ap (λ asked_machine. takes_of asked_machine (order_at new number)) (same_machine mid new number second_unmoved) ∙ ap (takes_of (machine_at mid number)) order_known
          ∙ takes_any (machine_at mid number) hint.1.0 hint.0 (worked (machine_at mid number) (order_at mid number) hint.0 turn_there);
    })
    hinted
  where
    put_there : {R : Type 0} (view : View R) (number : ℕ) (x : R) → is_some (machine_of view number) ≡ true → is_some (machine_of (slice_set view number (Some x)) number) ≡ true
    put_there [] number x place_there = absurd cc
    put_there (z ∷ zs) zero x place_there = refl
    put_there (z ∷ zs) (suc number) x place_there = put_there zs number x place_there

    worked : (machine : Machine) (order_known : Order) → takes_hint machine ≡ true → takes_of machine order_known ≡ true → takes_of machine Nothing ≡ true
    worked (mutating mutator) order_known hints takes_order = absurd (cc (hints))
    worked (helping helper) order_known hints takes_order = (and_parts _ _ takes_order).1
    worked (controlling control) order_known hints takes_order = (and_parts _ _ takes_order).1

-- a machine that the bundle has it has still
pub here_still : (old new : Bundle) (number : ℕ) → IsSameBundle old new → HasMachine old number → HasMachine new number
here_still old new number same_bundle machine_there =
    ap (λ asked_view. is_some (machine_of asked_view number)) (sym new.kept) ∙ kept_some machine_in (view_of new) number ∙ same_bundle.numbers.here number ∙ sym (kept_some machine_in (view_of old) number)
    ∙ ap (λ asked_view. is_some (machine_of asked_view number)) old.kept ∙ machine_there

-- where nothing but hints differs a bundle is the same
pub same_after : (old new : Bundle) → OnlyHintsDiffer old new → IsSameBundle old new
same_after old new only_hints = record {
  table = ap (λ seat. seat.table_id) only_hints.seat;
  config = only_hints.config;
  key = only_hints.key;
  numbers = subst (λ seat. SameNumbers (view_of old) (uncounted_view seat.me.0)) (sym only_hints.seat) (same_none (view_of old));
}

-- and a step to it one to the other
pub stepped_after : (old mid new : Bundle) (number : ℕ) (step_outcome : Stepped) → OnlyHintsDiffer mid new → IsBundleStep old mid number step_outcome → IsBundleStep old new number step_outcome
stepped_after old mid new number step_outcome only_hints step = record {
  got = step.got;
  took = subst (λ asked_seat. Took (heap_kind old.config) (start_in old) number (order_at old number) (uncounted_seat old.seat.me) step.got (uncounted_seat asked_seat.me)) (sym only_hints.seat) step.took;
  steps = ap (λ asked_seat. steps_in_view asked_seat.me.0) only_hints.seat ∙ step.steps;
  said_is = step.said_is;
  greyed = ap (λ greyed_view. greyed_view.items) only_hints.greyed ∙ step.greyed;
  orders = ap (λ machines. kept_in_view order_of machines.items) only_hints.machines ∙ step.orders;
}
