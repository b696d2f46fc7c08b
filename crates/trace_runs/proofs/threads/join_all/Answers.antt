use Rattle.std.proofs.Common.{rules, ◌≡◌, ℕ, ◌+◌, ◌-◌, length, ap, ◌∙◌, subst, arith}
use Rattle.shen_graph.proofs.Lists.{length_with}
use Rattle.trace_runs.specs.DealtParts.{Assigned, IsDone}
use Rattle.trace_runs.specs.Started.{IsThread}
use Rattle.trace_runs.proofs.PartLaws.{apart_after}
use Rattle.trace_runs.proofs.Loops.{others_run, last_runs}
use Rattle.trace_runs.proofs.threads.join_all.Goals as goal

pub loop-thread-init : goal.loop-thread-init
loop-thread-init g c = record {
  fewer = omega arith;
  left = λ assigned workers run. run;
  done = λ assigned first is_done run.
      subst (λ limit. IsDone c.args.heap.now assigned (first + length c.args.threads.items) 0 limit c.args.own) (let same_count : first ≡ first + length c.args.threads.items - length c.args.threads.items = omega arith in same_count) is_done;
}

pub ended-part-requires-after_bounds : goal.ended-part-requires-after_bounds
ended-part-requires-after_bounds g c κs within =
    let required = c.requires in
    let thread_end = required.1 + length c.args.threads.items in
    let old = c.loop-thread.threads.items in
    let new = c.pop.new.self.items in
    let some_thread : (assigned : Assigned) × (workers : ℕ) × (number : ℕ) × IsThread c.args.heap.now assigned workers number c.in-Some.thread =
    (required.0, thread_end, thread_end - length old, last_runs c.args.heap.now required.0 thread_end old new c.in-Some.thread c.in-Some.ensures.items (c.loop-thread.invariant.left required.0 thread_end required.3)) in
    some_thread

pub join-own-requires-clause-this : goal.join-own-requires-clause-this
join-own-requires-clause-this g c =
    let required = c.requires in
    (c.loop-thread.invariant.done required.0 required.1 required.2 required.3).has.of

pub join-own-requires-clause-other : goal.join-own-requires-clause-other
join-own-requires-clause-other g c =
    let required = c.requires in
    let thread_end = required.1 + length c.args.threads.items in
    let old = c.loop-thread.threads.items in
    let new = c.pop.new.self.items in
    (c.ended-part.ensures required.0 thread_end (thread_end - length old) (last_runs c.args.heap.now required.0 thread_end old new c.in-Some.thread c.in-Some.ensures.items (c.loop-thread.invariant.left required.0 thread_end required.3))).has.of

pub join-own-requires-clause-apart : goal.join-own-requires-clause-apart
join-own-requires-clause-apart g c =
    let required = c.requires in
    let thread_end = required.1 + length c.args.threads.items in
    let old = c.loop-thread.threads.items in
    let new = c.pop.new.self.items in
    apart_after c.args.heap.now required.0 thread_end 0 (thread_end - length old) (thread_end - length old + 1) c.loop-thread.own c.ended-part.result (omega arith) (omega arith) (c.loop-thread.invariant.done required.0 required.1 required.2 required.3)
    (c.ended-part.ensures required.0 thread_end (thread_end - length old) (last_runs c.args.heap.now required.0 thread_end old new c.in-Some.thread c.in-Some.ensures.items (c.loop-thread.invariant.left required.0 thread_end required.3)))

pub loop-thread-preserved : goal.loop-thread-preserved
loop-thread-preserved g c =
    let heap = c.args.heap.now in
    let old = c.loop-thread.threads.items in
    let new = c.pop.new.self.items in
    let thread = c.in-Some.thread in
    let items_are = c.in-Some.ensures.items in
    let so_far = c.loop-thread.invariant in
    let count : length old ≡ length new + 1 = ap length items_are ∙ length_with new thread in
    record {
      fewer = omega (arith, count, so_far.fewer);
      left = λ assigned workers run. others_run heap assigned workers old new thread items_are (so_far.left assigned workers run);
      done = λ assigned first is_done run.
          let thread_end = first + length c.args.threads.items in
          let fewer = so_far.fewer in
          let next_count : thread_end - length old + 1 ≡ thread_end - length new = omega (arith, count, fewer) in
          subst (λ limit. IsDone heap assigned thread_end 0 limit c.join-own.result) next_count
          (c.join-own.ensures.done assigned thread_end 0 (thread_end - length old) (thread_end - length old + 1) (so_far.done assigned first is_done run)
          (c.ended-part.ensures assigned thread_end (thread_end - length old) (last_runs heap assigned thread_end old new thread items_are (so_far.left assigned thread_end run))) (omega arith) (omega arith));
    }

pub returns : goal.returns
returns g c = λ assigned first is_done run.
    let none_left : length c.loop-thread.threads.items ≡ 0 = search rules in
    let thread_end = first + length c.args.threads.items in
    subst (λ limit. IsDone c.args.heap.now assigned thread_end 0 limit c.loop-thread.own) (let same_end : thread_end - length c.loop-thread.threads.items ≡ thread_end = omega (arith, none_left) in same_end) (c.loop-thread.invariant.done assigned first is_done run)
