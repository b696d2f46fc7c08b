use Rattle.std.proofs.Common.{◌≡◌, ℕ, ◌<◌, length, Some}
use Rattle.std.specs.Prelude.{slice_get}
use Rattle.shared_table.specs.Views.{machine_of, whole, machines_left, is_dealt_below, dealt_to}
use Rattle.shen_graph.specs.declared.order.Order.{Order}
use Rattle.shen_graph.specs.declared.order.Order.TheVariants.{Nothing}
use Rattle.table_heap.specs.declared.bundle.Bundle.{Bundle}
use Rattle.table_heap.specs.State.{start_of_heap, view_of, orders_of, steps_of, greyed_of, IsBundleOf, IsFresh}
use Rattle.table_heap.specs.Sharing.{AllShareMore, StealFrom}
use Rattle.table_heap.proofs.heap.Heap.dealt.Given as goal

abbrev pub invariant-loop-bundle : goal.invariant-loop-bundle
invariant-loop-bundle locals = record {
  of : IsBundleOf locals.all locals.heap;
  view : view_of locals.all ≡ machines_left (is_dealt_below locals.workers locals.bundle) (whole (start_of_heap locals.heap).machines);
  orders : (number : ℕ) (order : Order) → machine_of (orders_of locals.all) number ≡ Some order → order ≡ Nothing;
  steps : (number made : ℕ) → machine_of (steps_of locals.all) number ≡ Some made → made ≡ 0;
  greyed : (number address : ℕ) → machine_of (greyed_of locals.all) number ≡ Some address → ⊥;
  count : length locals.bundles.items ≡ locals.bundle;
  each : (worker : ℕ) (bundle : Bundle) → slice_get locals.bundles.items worker ≡ Some bundle → IsFresh locals.heap bundle (dealt_to locals.workers worker (whole (start_of_heap locals.heap).machines));
}

-- when the bundles share their hints they are as they were, and the hints of the first ones are shared
abbrev pub invariant-loop-bundle-2 : goal.invariant-loop-bundle-2
invariant-loop-bundle-2 locals = record {
  more : AllShareMore locals.initial.bundles.items locals.bundles.items;
  steal : (number : ℕ) → number < locals.bundle → StealFrom (length locals.bundles.items) locals.bundles.items number;
}
