use Rattle.std.proofs.Common.{◌<◌, List, length, sym, subst, ap, ◌∙◌, arith}
use Rattle.std.specs.Prelude.{slice_get}
use Rattle.arrayvec.specs.ArrayVec.{ArrayVec}
use Rattle.managed_queue.specs.Users.{Use}
use Rattle.table_heap.specs.Closed.{stage_of}
use Rattle.table_heap.specs.State.{config_of, view_of}
use Rattle.table_heap.proofs.Opened.{reached_from_opening}
use Rattle.trace_runs.specs.declared.parts.Part.{Part}
use Rattle.trace_runs.specs.DealtParts.{Assigned, AreReady, LoadIsDone, IsDone}
use Rattle.trace_runs.specs.DealtParts.Assigned.{users}
use Rattle.trace_runs.specs.Queued.{IsQueueHeap, queue_users, CanBeCrewed}
use Rattle.trace_runs.proofs.Coming.{has_all, control_idle}
use Rattle.trace_runs.proofs.Queued.{can_be_crewed, taker_there, small_items, small_sum, queued}
use Rattle.trace_runs.proofs.queues.got_of.Goals as goal

pub run_parts-requires-clause-some : goal.run_parts-requires-clause-some
run_parts-requires-clause-some g c κs within =
    let heap = c.in_ok-heap.heap in
    let count = c.args.count in
    let bundles = c.in_ok-heap.bundles.items in
    let parts = c.in_ok-parts.parts.items in
    let can_crew : CanBeCrewed heap bundles =
    can_be_crewed heap c.queue_heap-config.result bundles c.seats.result c.in_ok-heap.ensures.config c.queue_heap-config.ensures c.in_ok-heap.ensures.count c.seats.ensures c.in_ok-heap.ensures.bundles in
    let ready : AreReady heap (users (queue_users count)) (length parts) parts = subst (λ part_count. AreReady heap (users (queue_users count)) part_count parts) (sym c.in_ok-parts.ensures.count) (c.in_ok-parts.ensures.ready heap can_crew) in
    omega (arith, c.in_ok-parts.ensures.count, c.in_ok-heap.ensures.count, c.seats.ensures)

pub run_parts-requires-clause-ready : goal.run_parts-requires-clause-ready
run_parts-requires-clause-ready g c κs within =
    let heap = c.in_ok-heap.heap in
    let count = c.args.count in
    let bundles = c.in_ok-heap.bundles.items in
    let parts = c.in_ok-parts.parts.items in
    let can_crew : CanBeCrewed heap bundles =
    can_be_crewed heap c.queue_heap-config.result bundles c.seats.result c.in_ok-heap.ensures.config c.queue_heap-config.ensures c.in_ok-heap.ensures.count c.seats.ensures c.in_ok-heap.ensures.bundles in
    let ready : AreReady heap (users (queue_users count)) (length parts) parts = subst (λ part_count. AreReady heap (users (queue_users count)) part_count parts) (sym c.in_ok-parts.ensures.count) (c.in_ok-parts.ensures.ready heap can_crew) in
    let assigned_ready : (assigned : Assigned) × AreReady heap assigned (length parts) parts = (users (queue_users count), ready) in
    assigned_ready

pub close-closed-requires-clause-heap : goal.close-closed-requires-clause-heap
close-closed-requires-clause-heap g c =
    let heap = c.in_ok-heap.heap in
    let count = c.args.count in
    let bundles = c.in_ok-heap.bundles.items in
    let parts = c.in_ok-parts.parts.items in
    let can_crew : CanBeCrewed heap bundles =
    can_be_crewed heap c.queue_heap-config.result bundles c.seats.result c.in_ok-heap.ensures.config c.queue_heap-config.ensures c.in_ok-heap.ensures.count c.seats.ensures c.in_ok-heap.ensures.bundles in
    let ready : AreReady heap (users (queue_users count)) (length parts) parts = subst (λ part_count. AreReady heap (users (queue_users count)) part_count parts) (sym c.in_ok-parts.ensures.count) (c.in_ok-parts.ensures.ready heap can_crew) in
    let whole_part : Part = c.in_ok-bundle.field-0 in
    let all_done : IsDone heap (users (queue_users count)) (length parts) 0 (length parts) whole_part = c.in_ok-bundle.ensures (users (queue_users count)) ready in
    let some_parts : 0 < length parts = omega (arith, c.in_ok-parts.ensures.count, c.in_ok-heap.ensures.count, c.seats.ensures) in
    all_done.has.of

pub close-closed-requires-clause-all : goal.close-closed-requires-clause-all
close-closed-requires-clause-all g c =
    let heap = c.in_ok-heap.heap in
    let count = c.args.count in
    let bundles = c.in_ok-heap.bundles.items in
    let parts = c.in_ok-parts.parts.items in
    let can_crew : CanBeCrewed heap bundles =
    can_be_crewed heap c.queue_heap-config.result bundles c.seats.result c.in_ok-heap.ensures.config c.queue_heap-config.ensures c.in_ok-heap.ensures.count c.seats.ensures c.in_ok-heap.ensures.bundles in
    let ready : AreReady heap (users (queue_users count)) (length parts) parts = subst (λ part_count. AreReady heap (users (queue_users count)) part_count parts) (sym c.in_ok-parts.ensures.count) (c.in_ok-parts.ensures.ready heap can_crew) in
    let whole_part : Part = c.in_ok-bundle.field-0 in
    let all_done : IsDone heap (users (queue_users count)) (length parts) 0 (length parts) whole_part = c.in_ok-bundle.ensures (users (queue_users count)) ready in
    let some_parts : 0 < length parts = omega (arith, c.in_ok-parts.ensures.count, c.in_ok-heap.ensures.count, c.seats.ensures) in
    has_all heap (users (queue_users count)) (length parts) whole_part some_parts all_done

pub close-closed-requires-clause-control : goal.close-closed-requires-clause-control
close-closed-requires-clause-control g c =
    let heap = c.in_ok-heap.heap in
    let count = c.args.count in
    let bundles = c.in_ok-heap.bundles.items in
    let parts = c.in_ok-parts.parts.items in
    let can_crew : CanBeCrewed heap bundles =
    can_be_crewed heap c.queue_heap-config.result bundles c.seats.result c.in_ok-heap.ensures.config c.queue_heap-config.ensures c.in_ok-heap.ensures.count c.seats.ensures c.in_ok-heap.ensures.bundles in
    let ready : AreReady heap (users (queue_users count)) (length parts) parts = subst (λ part_count. AreReady heap (users (queue_users count)) part_count parts) (sym c.in_ok-parts.ensures.count) (c.in_ok-parts.ensures.ready heap can_crew) in
    let whole_part : Part = c.in_ok-bundle.field-0 in
    let all_done : IsDone heap (users (queue_users count)) (length parts) 0 (length parts) whole_part = c.in_ok-bundle.ensures (users (queue_users count)) ready in
    let some_parts : 0 < length parts = omega (arith, c.in_ok-parts.ensures.count, c.in_ok-heap.ensures.count, c.seats.ensures) in
    control_idle heap (users (queue_users count)) (length parts) whole_part some_parts all_done

pub unreachable-requires : goal.unreachable-requires
unreachable-requires g c =
    let heap = c.in_ok-heap.heap in
    let count = c.args.count in
    let bundles = c.in_ok-heap.bundles.items in
    let parts = c.in_ok-parts.parts.items in
    let can_crew : CanBeCrewed heap bundles =
    can_be_crewed heap c.queue_heap-config.result bundles c.seats.result c.in_ok-heap.ensures.config c.queue_heap-config.ensures c.in_ok-heap.ensures.count c.seats.ensures c.in_ok-heap.ensures.bundles in
    let ready : AreReady heap (users (queue_users count)) (length parts) parts = subst (λ part_count. AreReady heap (users (queue_users count)) part_count parts) (sym c.in_ok-parts.ensures.count) (c.in_ok-parts.ensures.ready heap can_crew) in
    let whole_part : Part = c.in_ok-bundle.field-0 in
    let all_done : IsDone heap (users (queue_users count)) (length parts) 0 (length parts) whole_part = c.in_ok-bundle.ensures (users (queue_users count)) ready in
    let some_parts : 0 < length parts = omega (arith, c.in_ok-parts.ensures.count, c.in_ok-heap.ensures.count, c.seats.ensures) in
    subst (λ load. LoadIsDone (config_of heap) (users (queue_users count)) (length parts) 0 (length parts) (view_of whole_part.bundle) load) c.in-Scripted.is all_done.load

pub taken_by-requires : goal.taken_by-requires
taken_by-requires g c =
    let heap = c.in_ok-heap.heap in
    let count = c.args.count in
    let bundles = c.in_ok-heap.bundles.items in
    let parts = c.in_ok-parts.parts.items in
    let can_crew : CanBeCrewed heap bundles =
    can_be_crewed heap c.queue_heap-config.result bundles c.seats.result c.in_ok-heap.ensures.config c.queue_heap-config.ensures c.in_ok-heap.ensures.count c.seats.ensures c.in_ok-heap.ensures.bundles in
    let ready : AreReady heap (users (queue_users count)) (length parts) parts = subst (λ part_count. AreReady heap (users (queue_users count)) part_count parts) (sym c.in_ok-parts.ensures.count) (c.in_ok-parts.ensures.ready heap can_crew) in
    let whole_part : Part = c.in_ok-bundle.field-0 in
    let all_done : IsDone heap (users (queue_users count)) (length parts) 0 (length parts) whole_part = c.in_ok-bundle.ensures (users (queue_users count)) ready in
    let some_parts : 0 < length parts = omega (arith, c.in_ok-parts.ensures.count, c.in_ok-heap.ensures.count, c.seats.ensures) in
    let crew : ArrayVec Use = c.in-Driven.crew in
    let sizes : IsQueueHeap (config_of heap) = can_crew.heap in
    let view = c.close-closed.ensures.machines in
    let leads = reached_from_opening heap c.queue_heap-config.result (stage_of c.close-closed.result) c.in_ok-heap.ensures.config c.in_ok-heap.ensures.opening c.close-closed.ensures.reached in
    let second_taker = taker_there heap count (length parts) whole_part crew some_parts all_done c.in-Driven.is sizes c.close-closed.result view leads 2 (omega arith) in
    let slice = c.as_slice.ensures.value in
    let third_taker = taker_there heap count (length parts) whole_part crew some_parts all_done c.in-Driven.is sizes c.close-closed.result view leads 3 (omega arith) in (
      _,
      _,
      ap (λ (uses : List Use). slice_get uses 2) slice ∙ second_taker,
      ap (λ (uses : List Use). slice_get uses 3) slice ∙ third_taker,
      small_items heap count (length parts) whole_part crew some_parts all_done c.in-Driven.is sizes c.close-closed.result view leads c.requires,
      small_sum heap count (length parts) whole_part crew some_parts all_done c.in-Driven.is sizes c.close-closed.result view leads c.requires,
    )

pub returns : goal.returns
returns g c =
    let heap = c.in_ok-heap.heap in
    let count = c.args.count in
    let bundles = c.in_ok-heap.bundles.items in
    let parts = c.in_ok-parts.parts.items in
    let can_crew : CanBeCrewed heap bundles =
    can_be_crewed heap c.queue_heap-config.result bundles c.seats.result c.in_ok-heap.ensures.config c.queue_heap-config.ensures c.in_ok-heap.ensures.count c.seats.ensures c.in_ok-heap.ensures.bundles in
    let ready : AreReady heap (users (queue_users count)) (length parts) parts = subst (λ part_count. AreReady heap (users (queue_users count)) part_count parts) (sym c.in_ok-parts.ensures.count) (c.in_ok-parts.ensures.ready heap can_crew) in
    let whole_part : Part = c.in_ok-bundle.field-0 in
    let all_done : IsDone heap (users (queue_users count)) (length parts) 0 (length parts) whole_part = c.in_ok-bundle.ensures (users (queue_users count)) ready in
    let some_parts : 0 < length parts = omega (arith, c.in_ok-parts.ensures.count, c.in_ok-heap.ensures.count, c.seats.ensures) in
    let crew : ArrayVec Use = c.in-Driven.crew in
    let sizes : IsQueueHeap (config_of heap) = can_crew.heap in
    let view = c.close-closed.ensures.machines in
    let leads = reached_from_opening heap c.queue_heap-config.result (stage_of c.close-closed.result) c.in_ok-heap.ensures.config c.in_ok-heap.ensures.opening c.close-closed.ensures.reached in
    let second_taker = taker_there heap count (length parts) whole_part crew some_parts all_done c.in-Driven.is sizes c.close-closed.result view leads 2 (omega arith) in
    let slice = c.as_slice.ensures.value in
    let third_taker = taker_there heap count (length parts) whole_part crew some_parts all_done c.in-Driven.is sizes c.close-closed.result view leads 3 (omega arith) in
    let takers_told = c.taken_by.ensures _ _ (ap (λ (uses : List Use). slice_get uses 2) slice ∙ second_taker) (ap (λ (uses : List Use). slice_get uses 3) slice ∙ third_taker) in
    queued heap count (length parts) whole_part crew some_parts all_done c.in-Driven.is sizes c.close-closed.result view leads c.requires c.taken_by.result.items c.taken_by.result.sum takers_told.0 takers_told.1
