use Rattle.std.proofs.Common.{◌≡◌, length, sym, ap, ◌∙◌, subst}
use Rattle.heap_words.specs.Ranges.{seat_count}
use Rattle.shared_table.specs.Views.{merged, kept_in_view}
use Rattle.shared_table.specs.Counted.{uncounted_machine, steps_made, uncounted_view, steps_in_view}
use Rattle.shared_table.proofs.Dealing.{length-merged}
use Rattle.shared_table.proofs.Kept.{kept-merged}
use Rattle.heap_machines.specs.Shown.{shown, order_of}
use Rattle.table_heap.specs.Core.{machine_in}
use Rattle.table_heap.specs.State.{view_of}
use Rattle.table_heap.specs.Known.{AreOfHeap, AreGreyedBy}
use Rattle.table_heap.proofs.Stepping.{heap_merged}
use Rattle.table_heap.proofs.Greyed.{greys_as, greys_merged}
use Rattle.table_heap.proofs.bundle.Bundle.join.Goals as goal

pub join_machines-requires : goal.join_machines-requires
join_machines-requires c =
    c.args.self.seats ∙ ap (λ config. seat_count config.mutators config.helpers) (c.requires.this.config ∙ sym c.requires.other.config) ∙ sym c.args.other.seats

pub join_machines-requires-2 : goal.join_machines-requires-2
join_machines-requires-2 c =
    c.args.self.greys.numbers ∙ c.args.self.seats ∙ ap (λ config. seat_count config.mutators config.helpers) (c.requires.this.config ∙ sym c.requires.other.config)
    ∙ sym (c.args.other.greys.numbers ∙ c.args.other.seats)

pub invariant_of-self : goal.invariant_of-self
invariant_of-self c =
    let bundle = c.args.self in
    let joined_bundle = c.args.other in
    let same_length : length bundle.machines.items ≡ length joined_bundle.machines.items =
    bundle.seats ∙ ap (λ asked_config. seat_count asked_config.mutators asked_config.helpers) (c.requires.this.config ∙ sym c.requires.other.config) ∙ sym joined_bundle.seats in
    record {
      same_sizes = bundle.same_sizes;
      seats = ap length c.join_machines.ensures ∙ length-merged bundle.machines.items joined_bundle.machines.items same_length ∙ bundle.seats;
      kept = ap (λ me. kept_in_view machine_in (uncounted_view me.0)) c.join_bundle.ensures.1 ∙ ap (kept_in_view machine_in) (kept-merged uncounted_machine bundle.seat.me.0 joined_bundle.seat.me.0)
          ∙ kept-merged machine_in (view_of bundle) (view_of joined_bundle) ∙ ap (λ view. merged view (kept_in_view machine_in (view_of joined_bundle))) bundle.kept ∙ ap (merged (kept_in_view shown bundle.machines.items)) joined_bundle.kept
          ∙ sym (ap (kept_in_view shown) c.join_machines.ensures ∙ kept-merged shown bundle.machines.items joined_bundle.machines.items);
      slots = ap (λ me. me.1) c.join_bundle.ensures.1 ∙ bundle.slots;
      of_heap = subst (AreOfHeap bundle.config) (sym c.join_machines.ensures)
          (heap_merged bundle.config bundle.machines.items joined_bundle.machines.items bundle.of_heap (subst (λ asked_config. AreOfHeap asked_config joined_bundle.machines.items) (c.requires.other.config ∙ sym c.requires.this.config) joined_bundle.of_heap));
      greys = greys_as bundle.config _ _ _ _ c.join_machines.ensures c.join_machines-2.ensures
          (greys_merged bundle.config bundle.machines.items joined_bundle.machines.items bundle.greyed.items joined_bundle.greyed.items same_length bundle.greys
          (subst (λ config. AreGreyedBy config joined_bundle.machines.items joined_bundle.greyed.items) (c.requires.other.config ∙ sym c.requires.this.config) joined_bundle.greys));
      hints_of_heap = bundle.hints_of_heap;
      thieves_of_heap = bundle.thieves_of_heap;
    }

pub returns-clause-view : goal.returns-clause-view
returns-clause-view c = ap (λ me. uncounted_view me.0) c.join_bundle.ensures.1 ∙ kept-merged uncounted_machine c.args.self.seat.me.0 c.args.other.seat.me.0

pub returns-clause-steps : goal.returns-clause-steps
returns-clause-steps c = ap (λ me. steps_in_view me.0) c.join_bundle.ensures.1 ∙ kept-merged steps_made c.args.self.seat.me.0 c.args.other.seat.me.0

pub returns-clause-orders : goal.returns-clause-orders
returns-clause-orders c = ap (kept_in_view order_of) c.join_machines.ensures ∙ kept-merged order_of c.args.self.machines.items c.args.other.machines.items
