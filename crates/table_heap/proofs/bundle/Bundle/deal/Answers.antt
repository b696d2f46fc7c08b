use Rattle.std.proofs.Common.{length, not, refl, sym, ap, ◌∙◌, subst}
use Rattle.shared_table.specs.Views.{is_dealt_to, dealt_to, machines_left, kept_in_view}
use Rattle.shared_table.specs.Counted.{uncounted_machine, steps_made, uncounted_view, steps_in_view}
use Rattle.shared_table.proofs.Dealing.{length-picked}
use Rattle.shared_table.proofs.Kept.{kept-picked}
use Rattle.heap_machines.specs.Shown.{shown, order_of}
use Rattle.table_heap.specs.Core.{machine_in}
use Rattle.table_heap.specs.State.{view_of}
use Rattle.table_heap.specs.Known.{AreOfHeap}
use Rattle.table_heap.proofs.Stepping.{heap_picked}
use Rattle.table_heap.proofs.Greyed.{greys_as, greys_fewer, greys_picked}
use Rattle.table_heap.proofs.bundle.Bundle.deal.Goals as goal

-- no memory for what was made grey: all is as it was
pub invariant_of-self : goal.invariant_of-self
invariant_of-self c =
    let bundle = c.args.self.now in
    record {
      same_sizes = bundle.same_sizes;
      seats = bundle.seats;
      kept = bundle.kept;
      slots = bundle.slots;
      of_heap = bundle.of_heap;
      greys = greys_as bundle.config bundle.machines.items bundle.machines.items _ bundle.greyed.items refl (ap (λ greyed_view. greyed_view.items) c.in_default.ensures.refused) bundle.greys;
      hints_of_heap = bundle.hints_of_heap;
      thieves_of_heap = bundle.thieves_of_heap;
    }

-- none for the machines: these are as they were
pub invariant_of-self-in_default-deal_machines : goal.invariant_of-self-in_default-deal_machines
invariant_of-self-in_default-deal_machines c =
    let bundle = c.args.self.now in
    let same_machines = ap (λ machine_view. machine_view.items) c.in_default-deal_machines.ensures.refused in
    record {
      same_sizes = bundle.same_sizes;
      seats = ap length same_machines ∙ bundle.seats;
      kept = bundle.kept ∙ ap (kept_in_view shown) (sym same_machines);
      slots = bundle.slots;
      of_heap = subst (AreOfHeap bundle.config) (sym same_machines) bundle.of_heap;
      greys = greys_as bundle.config _ bundle.machines.items _ _ same_machines c.in-Ok.ensures.left (greys_fewer bundle.config (λ number. not (is_dealt_to c.args.bundles c.args.bundle number)) bundle.machines.items bundle.greyed.items bundle.greys);
      hints_of_heap = bundle.hints_of_heap;
      thieves_of_heap = bundle.thieves_of_heap;
    }

pub invariant_of-self-2 : goal.invariant_of-self-2
invariant_of-self-2 c =
    let bundle = c.args.self.now in
    let bundle_left = c.in-Ok-deal_machines.ensures.left in
    record {
      same_sizes = bundle.same_sizes;
      seats = ap length bundle_left ∙ length-picked (λ number. not (is_dealt_to c.args.bundles c.args.bundle number)) bundle.machines.items ∙ bundle.seats;
      kept = ap (λ me. kept_in_view machine_in (uncounted_view me.0)) c.deal_bundle-seat.ensures.kept.1
          ∙ ap (kept_in_view machine_in) (kept-picked uncounted_machine (λ number. not (is_dealt_to c.args.bundles c.args.bundle number)) bundle.seat.me.0)
          ∙ kept-picked machine_in (λ number. not (is_dealt_to c.args.bundles c.args.bundle number)) (view_of bundle)
          ∙ ap (machines_left (is_dealt_to c.args.bundles c.args.bundle)) bundle.kept
          ∙ sym (ap (kept_in_view shown) bundle_left ∙ kept-picked shown (λ number. not (is_dealt_to c.args.bundles c.args.bundle number)) bundle.machines.items);
      slots = ap (λ me. me.1) c.deal_bundle-seat.ensures.kept.1 ∙ bundle.slots;
      of_heap = subst (AreOfHeap bundle.config) (sym bundle_left) (heap_picked bundle.config (λ number. not (is_dealt_to c.args.bundles c.args.bundle number)) bundle.machines.items bundle.of_heap);
      greys = greys_as bundle.config _ _ _ _ bundle_left c.in-Ok.ensures.left (greys_picked bundle.config (λ number. not (is_dealt_to c.args.bundles c.args.bundle number)) bundle.machines.items bundle.greyed.items bundle.greys);
      hints_of_heap = bundle.hints_of_heap;
      thieves_of_heap = bundle.thieves_of_heap;
    }

pub invariant_of-result-clause-seats : goal.invariant_of-result-clause-seats
invariant_of-result-clause-seats c =
    let bundle = c.args.self.now in
    ap length c.in-Ok-deal_machines.ensures.dealt ∙ length-picked (is_dealt_to c.args.bundles c.args.bundle) bundle.machines.items ∙ bundle.seats

pub invariant_of-result-clause-kept : goal.invariant_of-result-clause-kept
invariant_of-result-clause-kept c =
    let bundle = c.args.self.now in
    ap (λ me. kept_in_view machine_in (uncounted_view me.0)) c.deal_bundle-seat.ensures.dealt.1
    ∙ ap (kept_in_view machine_in) (kept-picked uncounted_machine (is_dealt_to c.args.bundles c.args.bundle) bundle.seat.me.0)
    ∙ kept-picked machine_in (is_dealt_to c.args.bundles c.args.bundle) (view_of bundle)
    ∙ ap (dealt_to c.args.bundles c.args.bundle) bundle.kept
    ∙ sym (ap (kept_in_view shown) c.in-Ok-deal_machines.ensures.dealt ∙ kept-picked shown (is_dealt_to c.args.bundles c.args.bundle) bundle.machines.items)

pub invariant_of-result-clause-slots : goal.invariant_of-result-clause-slots
invariant_of-result-clause-slots c = ap (λ me. me.1) c.deal_bundle-seat.ensures.dealt.1

pub invariant_of-result-clause-of_heap : goal.invariant_of-result-clause-of_heap
invariant_of-result-clause-of_heap c =
    let bundle = c.args.self.now in
    subst (AreOfHeap bundle.config) (sym c.in-Ok-deal_machines.ensures.dealt) (heap_picked bundle.config (is_dealt_to c.args.bundles c.args.bundle) bundle.machines.items bundle.of_heap)

pub invariant_of-result-clause-greys : goal.invariant_of-result-clause-greys
invariant_of-result-clause-greys c =
    let bundle = c.args.self.now in
    greys_as bundle.config _ _ _ _ c.in-Ok-deal_machines.ensures.dealt c.in-Ok.ensures.dealt (greys_picked bundle.config (is_dealt_to c.args.bundles c.args.bundle) bundle.machines.items bundle.greyed.items bundle.greys)

pub returns-clause-dealt : goal.returns-clause-dealt
returns-clause-dealt c = (
  record { table = c.deal_bundle-seat.ensures.dealt.0 ∙ c.requires.heap.table; config = c.requires.heap.config; key = c.of.ensures },
  ap (λ me. uncounted_view me.0) c.deal_bundle-seat.ensures.dealt.1 ∙ kept-picked uncounted_machine (is_dealt_to c.args.bundles c.args.bundle) c.args.self.now.seat.me.0,
  ap (kept_in_view order_of) c.in-Ok-deal_machines.ensures.dealt ∙ kept-picked order_of (is_dealt_to c.args.bundles c.args.bundle) c.args.self.now.machines.items,
  ap (λ me. steps_in_view me.0) c.deal_bundle-seat.ensures.dealt.1 ∙ kept-picked steps_made (is_dealt_to c.args.bundles c.args.bundle) c.args.self.now.seat.me.0,
  c.in-Ok.ensures.dealt,
)

pub returns-clause-left : goal.returns-clause-left
returns-clause-left c = (
  ap (λ me. uncounted_view me.0) c.deal_bundle-seat.ensures.kept.1 ∙ kept-picked uncounted_machine (λ number. not (is_dealt_to c.args.bundles c.args.bundle number)) c.args.self.now.seat.me.0,
  ap (kept_in_view order_of) c.in-Ok-deal_machines.ensures.left ∙ kept-picked order_of (λ number. not (is_dealt_to c.args.bundles c.args.bundle number)) c.args.self.now.machines.items,
  ap (λ me. steps_in_view me.0) c.deal_bundle-seat.ensures.kept.1 ∙ kept-picked steps_made (λ number. not (is_dealt_to c.args.bundles c.args.bundle number)) c.args.self.now.seat.me.0,
  c.in-Ok.ensures.left,
)
