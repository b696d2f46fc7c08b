-- The turn of the control that goes from a word of the image to the next one.
use Rattle.std.proofs.Common.{◌≡◌, ℕ, zero, suc, true, inl, List, [], ◌∷◌, Option, Some, None, refl, sym, ap, ◌∙◌, subst}
use Rattle.std.specs.Prelude.{slice_set, unwrap_or}
use Rattle.std.specs.Option.{is_some}
use Rattle.shared_table.specs.Views.{View, machine_of}
use Rattle.shen_graph.specs.declared.command.Command.{Command}
use Rattle.shen_graph.specs.declared.command.Reply.{Reply}
use Rattle.shen_graph.specs.declared.order.Order.{Order}
use Rattle.shen_graph.specs.declared.order.Order.TheVariants.{Nothing}
use Rattle.heap_machines.specs.Inside.{is_inside_image}
use Rattle.heap_machines.specs.declared.stepped.Stepped.TheVariants as stepped
use Rattle.heap_machines.proofs.Inside.{goes_inside}
use Rattle.table_heap.specs.declared.bundle.Bundle.{Bundle}
use Rattle.table_heap.specs.Driving.{next_driven, AreDriving}
use Rattle.table_heap.specs.Running.{Jobs, HasNoOrder, AreAtWork, next_for}
use Rattle.table_heap.specs.State.{config_in, orders_of, machine_at, order_at, HasMachine, IsSameBundle, IsBundleStep}
use Rattle.table_heap.specs.Turning.{IsTurn, HasHadTurns}
use Rattle.table_heap.proofs.Driving.{driven_on}
use Rattle.table_heap.proofs.Hinting.{order_there}
use Rattle.table_heap.proofs.Running.{same_bundle, same_bundle_more}
use Rattle.table_heap.proofs.Turning.{no_order, turned_on}

-- where no order is pending it has none
pub none_at : (bundle : Bundle) (number : ℕ) → HasNoOrder bundle → order_at bundle number ≡ Nothing
none_at bundle number no_orders = by_order (machine_of (orders_of bundle) number) refl
  where
    by_order : (found : Option Order) → machine_of (orders_of bundle) number ≡ found → unwrap_or (machine_of (orders_of bundle) number) Nothing ≡ Nothing
    by_order None order_is = ap (λ x. unwrap_or x Nothing) order_is
    by_order (Some order) order_is = ap (λ x. unwrap_or x Nothing) order_is ∙ no_orders number order order_is

-- an order that is put where it stands
put_itself : (view : View Order) (number : ℕ) → is_some (machine_of view number) ≡ true → slice_set view number (Some (unwrap_or (machine_of view number) Nothing)) ≡ view
put_itself [] number place_there = refl
put_itself (None ∷ xs) zero place_there = absurd cc
put_itself (Some order ∷ xs) zero place_there = refl
put_itself (first_order ∷ xs) (suc number) place_there = ap (λ (ys : View Order). first_order ∷ ys) (put_itself xs number place_there)

-- Its step is its turn, whatever command would follow
pub turn_inside : (old new : Bundle) (number : ℕ) (next_command : Option Command) → HasMachine old number → HasNoOrder old → is_inside_image (config_in old) (machine_at old number) ≡ true
    → IsBundleStep old new number stepped.More → IsTurn old new next_command number stepped.More
turn_inside old new number next_command machine_there no_orders machine_inside step = record {
  ordered = old;
  unmoved = record { same = same_bundle old; view = refl; steps = refl; greyed = refl };
  turn = inl ((goes_inside (config_in old) (machine_at old number) machine_inside).goes_on next_command ∙ ap Some (sym (none_at old number no_orders)));
  orders = sym (put_itself (orders_of old) number (order_there old number machine_there));
  step = step;
}

-- What stays through so many turns of a machine that goes on.
module _ (number : ℕ) where
  pub gone_same : (count : ℕ) (old new : Bundle) → HasHadTurns count old new number → IsSameBundle old new
  gone_same zero old new had_turns = subst (λ bundle. IsSameBundle old bundle) (sym had_turns) (same_bundle old)
  gone_same (suc count) old new turns_had = same_bundle_more old turns_had.0 new (gone_same count old turns_had.0 turns_had.1) turns_had.2

  pub gone_orders : (count : ℕ) (old new : Bundle) → HasHadTurns count old new number → HasNoOrder old → HasNoOrder new
  gone_orders zero old new had_turns no_orders = subst HasNoOrder (sym had_turns) no_orders
  gone_orders (suc count) old new turns_had no_orders = no_order turns_had.0 new None number stepped.More (turns_had.3 None) (gone_orders count old turns_had.0 turns_had.1 no_orders)

  -- the work of all mutators
  pub gone_work : (count : ℕ) (old new : Bundle) → HasHadTurns count old new number → (jobs : Jobs) → AreAtWork old jobs → AreAtWork new jobs
  gone_work zero old new had_turns jobs work_before = subst (λ bundle. AreAtWork bundle jobs) (sym had_turns) work_before
  gone_work (suc count) old new turns_had jobs work_before =
      let next_command = next_for (config_in turns_had.0) jobs number in
      turned_on turns_had.0 new next_command number stepped.More (turns_had.3 next_command) jobs refl (gone_work count old turns_had.0 turns_had.1 jobs work_before) (λ is_done. absurd cc)

  -- and their drivers
  module _ {D : Type 0} (next_of : D → Option Command) (replied : D → Reply → D) (to_come : D → ℕ) (firsts drivers : List D) where
    pub gone_driving : (count : ℕ) (old new : Bundle) → HasHadTurns count old new number → AreDriving next_of replied to_come old firsts drivers → AreDriving next_of replied to_come new firsts drivers
    gone_driving zero old new had_turns driving_before = subst (λ bundle. AreDriving next_of replied to_come bundle firsts drivers) (sym had_turns) driving_before
    gone_driving (suc count) old new turns_had driving_before =
        let next_command = next_driven next_of turns_had.0 drivers number in
        driven_on next_of replied to_come turns_had.0 new next_command number stepped.More (turns_had.3 next_command) turns_had.2 firsts drivers refl (gone_driving count old turns_had.0 turns_had.1 driving_before) (λ is_done. absurd cc)

  -- turns behind others
  pub gone_more : (more_turns count : ℕ) (old mid new : Bundle) → HasHadTurns count old mid number → HasHadTurns more_turns mid new number → (all_turns : ℕ) × HasHadTurns all_turns old new number
  gone_more zero count old mid new first_turns later_turns = (count, subst (λ bundle. HasHadTurns count old bundle number) (sym later_turns) first_turns)
  gone_more (suc more_turns) count old mid new first_turns turns_had =
      let turns_before = gone_more more_turns count old mid turns_had.0 first_turns turns_had.1 in
      (suc turns_before.0, (turns_had.0, turns_before.1, turns_had.2, turns_had.3))
