-- What stays of a bundle of one seat: it is of its heap, it has its machine, and its machines stand as in some run.
use Rattle.std.proofs.Common.{◌≡◌, ℕ, zero, suc, [], ◌∷◌, Bool, true, false, refl, sym, ap, ◌∙◌, subst}
use Rattle.std.specs.Prelude.{Some, slice_set, unwrap_or}
use Rattle.std.specs.Option.{is_some}
use Rattle.shen_graph.specs.declared.order.Order.{Order}
use Rattle.shen_graph.specs.declared.order.Order.TheVariants.{Nothing}
use Rattle.heap_machines.specs.Shown.{shown, order_of, no_machine}
use Rattle.step_core.specs.Actor.{Actor}
use Rattle.step_core.specs.Machines.{takes_of}
use Rattle.heap_words.specs.Steps.{Stage}
use Rattle.heap_words.specs.declared.config.Config.{Config}
use Rattle.shared_table.specs.Views.{View, machine_of, kept_in_view}
use Rattle.shared_table.specs.Counted.{uncounted_seat}
use Rattle.shared_table.specs.Rule.{AreReached}
use Rattle.shared_table.proofs.Kept.{kept_some}
use Rattle.shared_table.proofs.Reached.{reached_step}
use Rattle.heap_machines.specs.declared.stepped.Stepped.{Stepped}
use Rattle.table_heap.specs.declared.heap.Heap.{Heap}
use Rattle.table_heap.specs.declared.bundle.Bundle.{Bundle}
use Rattle.table_heap.specs.Core.{heap_kind, start_of_key, machine_in}
use Rattle.table_heap.specs.State.{config_in, start_in, view_of, machines_of, orders_of, machine_at, order_at, has_turn, IsBundleOf, HasMachine, IsSameBundle, IsUnmoved, IsUnchanged, IsBundleStep}
use Rattle.heap_seats.specs.Histories.{BeginsRenewable}
use Rattle.heap_seats.specs.Known.{HaveRun, HasOnly}

pub stays_of : (heap : Heap) (old new : Bundle) → IsSameBundle old new → IsBundleOf old heap → IsBundleOf new heap
stays_of heap old new same_bundle bundle_of = record { table = same_bundle.table ∙ bundle_of.table; config = same_bundle.config ∙ bundle_of.config; key = ap (λ heap_key. heap_key.value) same_bundle.key ∙ bundle_of.key }

-- memory has the machines of the view
pub has_seen : (bundle : Bundle) (number : ℕ) → is_some (machine_of (machines_of bundle) number) ≡ is_some (machine_of (view_of bundle) number)
has_seen bundle number = ap (λ asked_view. is_some (machine_of asked_view number)) (sym bundle.kept) ∙ kept_some machine_in (view_of bundle) number

pub stays_here : (old new : Bundle) (number : ℕ) → IsSameBundle old new → HasMachine old number → HasMachine new number
stays_here old new number same_bundle machine_here = has_seen new number ∙ same_bundle.numbers.here number ∙ sym (has_seen old number) ∙ machine_here

pub stays_only : (old new : Bundle) (number : ℕ) → IsSameBundle old new → HasOnly old number → HasOnly new number
stays_only old new number same_bundle only_machine other_number machine_here = only_machine other_number (has_seen old other_number ∙ sym (same_bundle.numbers.here other_number) ∙ sym (has_seen new other_number) ∙ machine_here)

-- it is of a heap that began where the other's did
pub same_start : (old new : Bundle) → IsSameBundle old new → start_in new ≡ start_in old
same_start old new same_bundle = ap (λ heap_key. start_of_key heap_key.value) same_bundle.key

pub stays_renewable : (config : Config) (old new : Bundle) → IsSameBundle old new → ∥ BeginsRenewable config (start_in old) ∥₁ → ∥ BeginsRenewable config (start_in new) ∥₁
stays_renewable config old new same_bundle some_beginning = subst (λ (stage : Stage Actor). ∥ BeginsRenewable config stage ∥₁) (sym (same_start old new same_bundle)) some_beginning

moved_run : (old new : Bundle) → IsSameBundle old new → AreReached (heap_kind (config_in old)) (start_in old) (view_of new) → HaveRun new
moved_run old new same_bundle run =
    subst (λ (stage : Stage Actor). AreReached (heap_kind (config_in new)) stage (view_of new)) (sym (same_start old new same_bundle))
    (subst (λ (config : Config). AreReached (heap_kind config) (start_in old) (view_of new)) (sym same_bundle.config) run)

pub unmoved_run : (old new : Bundle) → IsUnmoved old new → HaveRun old → HaveRun new
unmoved_run old new unmoved run = moved_run old new unmoved.same (λ number actor actor_there. run number actor (ap (λ asked_view. machine_of asked_view number) (sym unmoved.view) ∙ actor_there))

stepped_run : (old new : Bundle) (number : ℕ) (said : Stepped) → IsSameBundle old new → IsBundleStep old new number said → HaveRun old → HaveRun new
stepped_run old new number said same_bundle step run =
    moved_run old new same_bundle (reached_step (heap_kind (config_in old)) (start_in old) number (order_at old number) (uncounted_seat old.seat.me) (uncounted_seat new.seat.me) step.got step.took run)

-- so they do after what `Bundle::step` promises
pub goes_run : (old new : Bundle) (number : ℕ) (said : Stepped) → IsSameBundle old new → (has_turn old number ≡ false → IsUnchanged old new) → (has_turn old number ≡ true → IsBundleStep old new number said) → HaveRun old → HaveRun new
goes_run old new number said same_bundle without_turn with_turn run = by_turn (has_turn old number) without_turn with_turn
  where
    by_turn : (turn : Bool) → (turn ≡ false → IsUnchanged old new) → (turn ≡ true → IsBundleStep old new number said) → HaveRun new
    by_turn false if_idle if_turn = unmoved_run old new (if_idle refl).unmoved run
    by_turn true if_idle if_turn = stepped_run old new number said same_bundle (if_turn refl) run

-- what is put where there is a machine
set_here : {T S U : Type 0} (f : T → S) (g : T → U) (items : View T) (number : ℕ) (new_element : U) → is_some (machine_of (kept_in_view f items) number) ≡ true → machine_of (slice_set (kept_in_view g items) number (Some new_element)) number ≡ Some new_element
set_here f g [] number new_element is_there = absurd cc
set_here f g (head ∷ rest) zero new_element is_there = refl
set_here f g (head ∷ rest) (suc number) new_element is_there = set_here f g rest number new_element is_there

same_machines : (old new : Bundle) → view_of new ≡ view_of old → machines_of new ≡ machines_of old
same_machines old new view = sym new.kept ∙ ap (kept_in_view machine_in) view ∙ old.kept

-- a machine that was given an order that it takes
module _ (old new : Bundle) (number : ℕ) (order : Order) (unmoved : IsUnmoved old new) (orders : orders_of new ≡ slice_set (orders_of old) number (Some order)) (machine_here : HasMachine old number) where
  pub given_order : order_at new number ≡ order
  given_order = ap (λ asked_view. unwrap_or (machine_of asked_view number) Nothing) orders ∙ ap (λ order_found. unwrap_or order_found Nothing) (set_here shown order_of old.machines.items number order machine_here)

  same_machine : machine_at new number ≡ machine_at old number
  same_machine = ap (λ asked_view. unwrap_or (machine_of asked_view number) no_machine) (same_machines old new unmoved.view)

  pub takes_turn : takes_of (machine_at old number) order ≡ true → has_turn new number ≡ true
  takes_turn takes = ap (λ machine. takes_of machine (order_at new number)) same_machine ∙ ap (takes_of (machine_at old number)) given_order ∙ takes
