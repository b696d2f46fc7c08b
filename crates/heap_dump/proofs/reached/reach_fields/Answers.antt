use Rattle.std.proofs.Common.{arith}
use Rattle.heap_words.proofs.Lists.{index_in_range}
use Rattle.shen_graph.specs.GraphText.{row_of}
use Rattle.heap_dump.proofs.RowMarks.{field_at, fields_more, grows_both}
use Rattle.heap_dump.proofs.reached.reach_fields.Goals as goal

pub reach-requires-clause-led : goal.reach-requires-clause-led
reach-requires-clause-led c =
    field_at c.args.graph.now c.args.row c.loop-index.index c.reference_at.result c.requires.order c.requires.row c.requires.led (omega (arith, c.loop-index-test.true, c.refs_at-index-end.ensures)) c.reference_at.ensures

pub loop-index-preserved : goal.loop-index-preserved
loop-index-preserved c =
    let reach_done = rw c.if-not-branch.false at c.in_ok-reach.ensures.ok in
    record {
      reached = reach_done.0;
      more = grows_both _ _ _ _ _ _ c.loop-index.invariant.more reach_done.1;
      done = (fields_more c.args.graph.now c.loop-index.reached.marks.items c.reach.new.reached.marks.items c.args.row c.loop-index.index c.reference_at.result c.loop-index.invariant.done reach_done.1.kept
          (omega (arith, c.loop-index-test.true, c.refs_at-index-end.ensures)) c.reference_at.ensures reach_done.2);
    }

pub returns : goal.returns
returns c = record {
  ok = (
    c.loop-index.invariant.reached,
    c.loop-index.invariant.more,
    λ field reference reference_at. c.loop-index.invariant.done field reference (omega (arith, index_in_range (row_of c.args.graph.now c.args.row).refs field reference reference_at, c.refs_at-index-end.ensures, c.loop-index-test.false)) reference_at,
  );
}
