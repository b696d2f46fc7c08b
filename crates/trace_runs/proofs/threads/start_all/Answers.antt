use Rattle.std.proofs.Common.{rules, ◌≡◌, ◌+◌, ◌<◌, length, ap, ◌∙◌, arith}
use Rattle.shen_graph.proofs.Lists.{length_with}
use Rattle.trace_runs.specs.DealtParts.{PartCanRun}
use Rattle.trace_runs.proofs.Loops.{last_ready, next_split, same_split}
use Rattle.trace_runs.proofs.threads.start_all.Goals as goal

pub start-requires-after_bounds : goal.start-requires-after_bounds
start-requires-after_bounds g c κs within =
    let ready_facts = c.requires.ready in
    let part_count = length c.args.parts.now.items in
    let ready = last_ready c.args.heap.now ready_facts.0 part_count c.loop-parts.parts.items c.pop.new.self.items c.in-Some.part c.in-Some.ensures.items (c.loop-parts.invariant.split ready_facts.0 ready_facts.1).here in
    let can_run : PartCanRun c.args.heap.now c.in-Some.part = record { of = ready.has.of; start = ready.start } in
    can_run

pub loop-parts-preserved : goal.loop-parts-preserved
loop-parts-preserved g c =
    let heap = c.args.heap.now in
    let part_count = length c.args.parts.now.items in
    let so_far = c.loop-parts.invariant in
    let old = c.loop-parts.parts.items in
    let new = c.pop.new.self.items in
    let part = c.in-Some.part in
    let items_are = c.in-Some.ensures.items in
    let threads = c.loop-parts.threads.items in
    let more_threads = c.push.new.self.items in
    let grown = c.in-Ok-push.ensures.items in
    let two_left : 1 < length old = search rules in
    let one_less : length old ≡ length new + 1 = ap length items_are ∙ length_with new part in
    let count : length more_threads ≡ length threads + 1 = ap length grown ∙ length_with threads c.in-Ok.thread in
    record {
      some = omega (arith, two_left, one_less);
      count = omega (arith, so_far.count, one_less, count);
      room = search rules;
      split = λ assigned ready.
          let split = so_far.split assigned ready in
          next_split heap assigned part_count old new part threads more_threads c.in-Ok.thread two_left items_are grown
          (c.in-Ok.ensures.ok assigned part_count (length new) (last_ready heap assigned part_count old new part items_are split.here)) split;
    }

pub returns-in-Err : goal.returns-in-Err
returns-in-Err g c = λ assigned ready.
    same_split c.args.heap.now assigned (length c.args.parts.now.items) c.loop-parts.parts.items c.pop.new.self.items c.push-in-Err.new.self.items c.in-Some.part c.in-Err.part c.loop-parts.threads.items
    c.in-Some.ensures.items c.in-Ok-push-2.ensures.items c.in-Err.ensures.err (c.loop-parts.invariant.split assigned ready)
