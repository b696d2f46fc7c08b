use Rattle.std.proofs.Common.{ℕ, ◌+◌, ◌<◌, below_more}
use Rattle.shen_graph.specs.GraphText.{root_of}
use Rattle.heap_dump.specs.RowsReached.{IsReachMarked}
use Rattle.heap_dump.proofs.RowMarks.{still_marked}
use Rattle.heap_dump.proofs.reached.reach_roots.Goals as goal

pub loop-mutator-preserved : goal.loop-mutator-preserved
loop-mutator-preserved c =
    let graph = c.args.graph.now in
    let reach_done = rw c.if-not-branch.false at c.in_ok-reach_roots_of.ensures.ok in
    let marks = c.reach_roots_of.new.reached.marks.items in
    record {
      reached = reach_done.0;
      done = (λ mutator index mutator_low index_few.
          below_more (λ (some_mutator : ℕ). (some_index : ℕ) → some_index < 16 → IsReachMarked graph marks (root_of graph (some_mutator + 1) some_index)) c.loop-mutator.mutator
          (λ some_mutator mutator_below some_index index_below. still_marked graph c.loop-mutator.reached.marks.items marks (root_of graph (some_mutator + 1) some_index) reach_done.1.kept (c.loop-mutator.invariant.done some_mutator some_index mutator_below index_below)) reach_done.2 mutator mutator_low index index_few);
    }
