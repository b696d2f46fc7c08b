use Rattle.std.proofs.Common.{length, refl, sym, ap, ◌∙◌, subst}
use Rattle.shared_table.specs.Views.{machine_of, kept_in_view}
use Rattle.shared_table.specs.Counted.{uncounted_view, steps_in_view}
use Rattle.shared_table.proofs.Counted.{first_view}
use Rattle.heap_machines.specs.Shown.{shown, order_of}
use Rattle.table_heap.specs.declared.key.HeapKey.{HeapKey}
use Rattle.table_heap.specs.Core.{start_of_key, machine_in}
use Rattle.table_heap.specs.Known.{AreOfHeap}
use Rattle.table_heap.proofs.Opened.{opened_count, opened_kept, opened_of_heap, opened_orders, opened_steps}
use Rattle.table_heap.proofs.Greyed.{greys_as, greys_none, none_greyed}
use Rattle.table_heap.proofs.heap.Heap.open_whole.Goals as goal

pub invariant_of-bundle-clause-same_sizes : goal.invariant_of-bundle-clause-same_sizes
invariant_of-bundle-clause-same_sizes c = ap (λ (key : HeapKey). key.config) c.of.ensures

pub invariant_of-bundle-clause-seats : goal.invariant_of-bundle-clause-seats
invariant_of-bundle-clause-seats c = ap length c.in_ok-machines.ensures ∙ opened_count c.args.key c.args.machines.items c.requires.machines

pub invariant_of-bundle-clause-kept : goal.invariant_of-bundle-clause-kept
invariant_of-bundle-clause-kept c =
    ap (λ me. kept_in_view machine_in (uncounted_view me.0)) c.in_ok-table.ensures.seat.1 ∙ ap (kept_in_view machine_in) (first_view (start_of_key c.args.key))
    ∙ opened_kept c.args.key c.args.machines.items c.requires.machines ∙ ap (kept_in_view shown) (sym c.in_ok-machines.ensures)

pub invariant_of-bundle-clause-slots : goal.invariant_of-bundle-clause-slots
invariant_of-bundle-clause-slots c = ap (λ me. me.1) c.in_ok-table.ensures.seat.1

pub invariant_of-bundle-clause-of_heap : goal.invariant_of-bundle-clause-of_heap
invariant_of-bundle-clause-of_heap c = subst (AreOfHeap c.args.key.config) (sym c.in_ok-machines.ensures) (opened_of_heap c.args.key c.args.machines.items c.requires.machines)

pub invariant_of-bundle-clause-greys : goal.invariant_of-bundle-clause-greys
invariant_of-bundle-clause-greys c =
    let count = ap length c.in_ok-machines.ensures ∙ opened_count c.args.key c.args.machines.items c.requires.machines in
    greys_as c.args.key.config _ _ _ _ refl c.in_ok-greyed.ensures (greys_none c.args.key.config c.in_ok-machines.machines.items _ count)

pub returns-clause-bundle : goal.returns-clause-bundle
returns-clause-bundle c =
    record {
      of = record { table = c.in_ok-table.ensures.seat.0; config = refl; key = c.of.ensures };
      machines = ap (λ me. uncounted_view me.0) c.in_ok-table.ensures.seat.1 ∙ first_view (start_of_key c.args.key);
      orders = λ number order found_there. opened_orders c.args.machines.items c.requires.machines.orders number order (ap (λ view. machine_of (kept_in_view order_of view) number) (sym c.in_ok-machines.ensures) ∙ found_there);
      steps = λ number made found_there. opened_steps (start_of_key c.args.key).machines number made (ap (λ me. machine_of (steps_in_view me.0) number) (sym c.in_ok-table.ensures.seat.1) ∙ found_there);
      greyed = λ number address found_there. none_greyed _ number address (ap (λ view. machine_of view number) (sym c.in_ok-greyed.ensures) ∙ found_there);
    }
