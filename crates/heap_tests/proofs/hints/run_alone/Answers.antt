use Rattle.std.proofs.Common.{◌≤◌, length, arith}
use Rattle.table_heap.proofs.Ended.{idle_takes}
use Rattle.table_heap.proofs.Running.{still_of}
use Rattle.heap_tests.proofs.SharedHeap.{fresh_has_all, fresh_can_run}
use Rattle.heap_tests.proofs.hints.run_alone.Goals as goal

pub run-requires-clause-heap : goal.run-requires-clause-heap
run-requires-clause-heap g c κs within = c.in_ok-heap.ensures.fresh.of

pub run-requires-clause-start : goal.run-requires-clause-start
run-requires-clause-start g c κs within =
    let few : length c.args.scripts.now ≤ 8 = omega (arith, c.requires.count) in
    fresh_can_run c.args.config c.in_ok-heap.heap c.in_ok-heap.bundle c.args.scripts.now c.in_ok-work.work c.in_ok-heap.ensures.fresh c.requires.count few c.requires.runnable c.in_ok-work.ensures

pub close-requires-clause-heap : goal.close-requires-clause-heap
close-requires-clause-heap g c = still_of c.in_ok-heap.bundle c.run.new.self c.in_ok-heap.heap c.run.ensures.same c.in_ok-heap.ensures.fresh.of

pub close-requires-clause-all : goal.close-requires-clause-all
close-requires-clause-all g c = fresh_has_all c.args.config c.in_ok-heap.heap c.in_ok-heap.bundle c.run.new.self c.in_ok-heap.ensures.fresh c.in_ok-heap.ensures.config c.run.ensures.same

pub close-requires-clause-control : goal.close-requires-clause-control
close-requires-clause-control g c actor actor_there = idle_takes actor.machine (c.run.ensures.idle _ actor actor_there)
