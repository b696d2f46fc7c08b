use Rattle.std.proofs.Common.{◌+◌, not, [], ◌∷◌, length, sym, ap, ◌∙◌, arith}
use Rattle.std.specs.Prelude.{slice_get}
use Rattle.std.proofs.lemmas.List.{length-append}
use Rattle.shen_graph.proofs.Lists.{each_with}
use Rattle.shared_table.specs.Views.{View, machine_of, whole, machines_left, is_dealt_to, dealt_to}
use Rattle.step_core.specs.Actor.{Actor}
use Rattle.table_heap.specs.State.{start_of_heap, IsFresh, orders_of, steps_of, greyed_of}
use Rattle.table_heap.proofs.Opened.{picked_some, left_first, dealt_next, left_next}
use Rattle.table_heap.proofs.Thieves.{none_changed, config_still, in_more, fresh_still, more_shared}
use Rattle.table_heap.proofs.heap.Heap.dealt.Goals as goal

pub loop-bundle-init : goal.loop-bundle-init
loop-bundle-init c =
    let fresh = c.requires.fresh in
    record {
      of = fresh.of;
      view = fresh.machines ∙ sym (left_first c.args.workers (whole (start_of_heap c.args.heap).machines));
      orders = fresh.orders;
      steps = fresh.steps;
      greyed = fresh.greyed;
      count = ap length c.in-Ok.ensures.items;
      each = λ index dealt_bundle bundle_there. absurd (let no_bundle = ap (λ bundle_list. slice_get bundle_list index) c.in-Ok.ensures.items in cc);
    }

pub deal-requires-clause-heap : goal.deal-requires-clause-heap
deal-requires-clause-heap c = c.loop-bundle.invariant.of

pub loop-bundle-preserved : goal.loop-bundle-preserved
loop-bundle-preserved c =
    let loop_turn = c.loop-bundle in
    let dealt = c.in_ok-dealt.ensures in
    let whole_view : View Actor = whole (start_of_heap c.args.heap).machines in
    record {
      of = dealt.heap;
      view = dealt.left.0 ∙ ap (machines_left (is_dealt_to c.args.workers loop_turn.bundle)) loop_turn.invariant.view ∙ left_next c.args.workers whole_view loop_turn.bundle;
      orders = λ number order found_there.
          loop_turn.invariant.orders number order (picked_some (λ place. not (is_dealt_to c.args.workers loop_turn.bundle place)) (orders_of loop_turn.all) number order (ap (λ view. machine_of view number) (sym dealt.left.1) ∙ found_there));
      steps = λ number made found_there.
          loop_turn.invariant.steps number made (picked_some (λ place. not (is_dealt_to c.args.workers loop_turn.bundle place)) (steps_of loop_turn.all) number made (ap (λ view. machine_of view number) (sym dealt.left.2) ∙ found_there));
      greyed = λ number address found_there.
          loop_turn.invariant.greyed number address (picked_some (λ place. not (is_dealt_to c.args.workers loop_turn.bundle place)) (greyed_of loop_turn.all) number address (ap (λ view. machine_of view number) (sym dealt.left.3) ∙ found_there));
      count = ap length c.in-Ok-push.ensures.items ∙ length-append loop_turn.bundles.items (c.in_ok-dealt.dealt ∷ []) ∙ ap (λ dealt_count. dealt_count + 1) loop_turn.invariant.count;
      each = λ place dealt_bundle found_there.
          each_with (λ bundle_index bundle. IsFresh c.args.heap bundle (dealt_to c.args.workers bundle_index whole_view)) loop_turn.bundles.items c.in_ok-dealt.dealt loop_turn.bundle loop_turn.invariant.count loop_turn.invariant.each
          (record {
            of = dealt.dealt.0;
            machines = dealt.dealt.1 ∙ ap (dealt_to c.args.workers loop_turn.bundle) loop_turn.invariant.view ∙ dealt_next c.args.workers whole_view loop_turn.bundle;
            orders = λ number order found_there.
                loop_turn.invariant.orders number order (picked_some (is_dealt_to c.args.workers loop_turn.bundle) (orders_of loop_turn.all) number order (ap (λ view. machine_of view number) (sym dealt.dealt.2) ∙ found_there));
            steps = λ number made found_there.
                loop_turn.invariant.steps number made (picked_some (is_dealt_to c.args.workers loop_turn.bundle) (steps_of loop_turn.all) number made (ap (λ view. machine_of view number) (sym dealt.dealt.3) ∙ found_there));
            greyed = λ number address found_there.
                loop_turn.invariant.greyed number address (picked_some (is_dealt_to c.args.workers loop_turn.bundle) (greyed_of loop_turn.all) number address (ap (λ view. machine_of view number) (sym dealt.dealt.4) ∙ found_there));
          })
          place dealt_bundle (ap (λ bundle_list. slice_get bundle_list place) (sym c.in-Ok-push.ensures.items) ∙ found_there);
    }

pub loop-bundle-2-init : goal.loop-bundle-2-init
loop-bundle-2-init c = record { more = none_changed c.loop-bundle.bundles.items; steal = λ number number_below. absurd (omega (arith, number_below)) }

pub share_hints-requires-clause-heap : goal.share_hints-requires-clause-heap
share_hints-requires-clause-heap c = (
  c.args.heap.config,
  config_still c.args.heap.config c.loop-bundle.bundles.items c.loop-bundle-2.bundles.items c.loop-bundle-2.invariant.more (λ place bundle bundle_there. (c.loop-bundle.invariant.each place bundle bundle_there).of.config),
)

pub loop-bundle-2-preserved : goal.loop-bundle-2-preserved
loop-bundle-2-preserved c = record {
  more = in_more c.loop-bundle.bundles.items c.loop-bundle-2.bundles.items c.share_hints.new.bundles.items c.loop-bundle-2.invariant.more c.in_ok-share_hints.ensures.more;
  steal = more_shared c.loop-bundle-2.bundle c.loop-bundle-2.bundles.items c.share_hints.new.bundles.items c.in_ok-share_hints.ensures.more c.loop-bundle-2.invariant.steal c.in_ok-share_hints.ensures.steal;
}

pub returns-clause-stealing : goal.returns-clause-stealing
returns-clause-stealing c = λ number number_below.
    let first_loop = c.loop-bundle in
    let second_loop = c.loop-bundle-2 in
    second_loop.invariant.steal number (omega (arith, number_below, second_loop.invariant.more.count, first_loop.invariant.count, c.loop-bundle-test.false, first_loop.auto.bundle-end, c.loop-bundle-2-test.false, second_loop.auto.bundle-end))

pub returns-clause-bundles : goal.returns-clause-bundles
returns-clause-bundles c = λ place bundle bundle_there.
    let fresh_before = c.loop-bundle-2.invariant.more.each place bundle bundle_there in
    fresh_still c.args.heap fresh_before.0 bundle _ fresh_before.2.only (c.loop-bundle.invariant.each place fresh_before.0 fresh_before.1)
