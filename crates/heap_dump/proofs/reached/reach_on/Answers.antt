use Rattle.std.proofs.Common.{◌<◌, length, arith}
use Rattle.heap_dump.proofs.RowMarks.{few_reached, grows_both, listed_low, rows_more, closed_by}
use Rattle.heap_dump.proofs.reached.reach_on.Goals as goal

pub reach_fields-requires-clause-row : goal.reach_fields-requires-clause-row
reach_fields-requires-clause-row c =
    let next_below : c.rows.next < length c.rows.reached.order.items = omega (arith, c.rows-test.true, c.len.ensures, c.rows.reached.order.ok.0) in
    (listed_low c.args.graph.now c.rows.reached.marks.items c.rows.reached.order.items c.rows.next c.index-row.result.now c.rows.invariant.reached next_below c.index-row.ensures).0

pub rows-smaller : goal.rows-smaller
rows-smaller c =
    omega (arith, c.rows-test.true, c.len.ensures, c.rows.reached.order.ok.0, few_reached c.args.graph.now c.rows.reached.marks.items c.rows.reached.order.items c.rows.invariant.reached)

pub rows-preserved : goal.rows-preserved
rows-preserved c =
    let next_below : c.rows.next < length c.rows.reached.order.items = omega (arith, c.rows-test.true, c.len.ensures, c.rows.reached.order.ok.0) in
    let reach_done = rw c.if-not-branch.false at c.in_ok-reach_fields.ensures.ok in
    record {
      reached = reach_done.0;
      more = grows_both _ _ _ _ _ _ c.rows.invariant.more reach_done.1;
      next = omega (arith, next_below, reach_done.1.long);
      done = (rows_more c.args.graph.now c.rows.reached.marks.items c.reach_fields.new.reached.marks.items c.rows.reached.order.items c.reach_fields.new.reached.order.items c.rows.next c.index-row.result.now
          reach_done.1 next_below c.index-row.ensures c.rows.invariant.done reach_done.2);
    }

pub returns : goal.returns
returns c = record {
  ok = (
    c.rows.invariant.reached,
    c.rows.invariant.more,
    closed_by c.args.graph.now c.rows.reached.marks.items c.rows.reached.order.items c.rows.next c.rows.invariant.reached (omega (arith, c.rows-test.false, c.len.ensures, c.rows.reached.order.ok.0)) c.rows.invariant.done,
  );
}
