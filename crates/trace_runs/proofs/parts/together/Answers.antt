use Rattle.std.proofs.Common.{rules, ◌≡◌, ◌+◌, length, ap, ◌∙◌, subst, arith}
use Rattle.shen_graph.proofs.Lists.{length_with}
use Rattle.trace_runs.specs.DealtParts.{PartIsReady}
use Rattle.trace_runs.proofs.PartLaws.{apart_before}
use Rattle.trace_runs.proofs.Loops.{others_ready, last_ready, to_length}
use Rattle.trace_runs.proofs.parts.together.Goals as goal

pub loop-part-init : goal.loop-part-init
loop-part-init c =
    let heap = c.args.heap.now in
    let old = c.args.parts.items in
    let new = c.pop.new.self.items in
    let own_part = c.in-Some.own in
    let items_are = c.in-Some.ensures.items in
    record {
      fewer = omega (arith, ap length items_are ∙ length_with new own_part);
      left = λ assigned workers ready. others_ready heap assigned workers old new own_part items_are ready;
      ready = λ assigned workers ready. to_length heap assigned workers old new own_part items_are (last_ready heap assigned workers old new own_part items_are ready);
    }

pub join-own-requires-clause-this : goal.join-own-requires-clause-this
join-own-requires-clause-this c =
    let ready = c.requires.ready in
    (last_ready c.args.heap.now ready.0 ready.1 c.loop-part.parts.items c.pop-in-loop-part.new.self.items c.in-Some-pop.part c.in-Some-pop.ensures.items (c.loop-part.invariant.left ready.0 ready.1 ready.2)).has.of

pub join-own-requires-clause-apart : goal.join-own-requires-clause-apart
join-own-requires-clause-apart c =
    let ready = c.requires.ready in
    let heap = c.args.heap.now in
    let old = c.loop-part.parts.items in
    let new = c.pop-in-loop-part.new.self.items in
    let part = c.in-Some-pop.part in
    let items_are = c.in-Some-pop.ensures.items in
    let count = ap length items_are ∙ length_with new part in
    let fewer = c.loop-part.invariant.fewer in
    apart_before heap ready.0 ready.1 (length new) (length old) (length c.args.parts.items) part c.loop-part.own (omega (arith, count)) (omega (arith, fewer))
    (to_length heap ready.0 ready.1 old new part items_are (last_ready heap ready.0 ready.1 old new part items_are (c.loop-part.invariant.left ready.0 ready.1 ready.2))) (c.loop-part.invariant.ready ready.0 ready.1 ready.2)

pub loop-part-preserved : goal.loop-part-preserved
loop-part-preserved c =
    let heap = c.args.heap.now in
    let old = c.loop-part.parts.items in
    let new = c.pop-in-loop-part.new.self.items in
    let part = c.in-Some-pop.part in
    let items_are = c.in-Some-pop.ensures.items in
    let old_loop = c.loop-part.invariant in
    let count : length old ≡ length new + 1 = ap length items_are ∙ length_with new part in
    record {
      fewer = omega (arith, count, old_loop.fewer);
      left = λ assigned workers ready. others_ready heap assigned workers old new part items_are (old_loop.left assigned workers ready);
      ready = λ assigned workers ready.
          c.join-own.ensures.ready assigned workers (length new) (length old) (length c.args.parts.items)
          (to_length heap assigned workers old new part items_are (last_ready heap assigned workers old new part items_are (old_loop.left assigned workers ready)))
          (old_loop.ready assigned workers ready) (omega (arith, count)) (omega (arith, old_loop.fewer));
    }

pub returns : goal.returns
returns c = λ assigned workers ready.
    let no_parts : length c.loop-part.parts.items ≡ 0 = search rules in
    subst (λ part_number. PartIsReady c.args.heap.now assigned workers part_number (length c.args.parts.items) c.loop-part.own) no_parts (c.loop-part.invariant.ready assigned workers ready)

pub join-own-requires-clause-other : goal.join-own-requires-clause-other
join-own-requires-clause-other c =
    let ready = c.requires.ready in
    (c.loop-part.invariant.ready ready.0 ready.1 ready.2).has.of
