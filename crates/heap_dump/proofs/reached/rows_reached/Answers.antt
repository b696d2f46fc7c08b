use Rattle.std.proofs.Common.{ℕ, ◌+◌, ◌<◌, false, List, [], length, replicate, subst, sym, ap, ◌∙◌}
use Rattle.std.specs.Prelude.{Bool}
use Rattle.shen_graph.specs.GraphText.{root_of}
use Rattle.heap_dump.specs.RowsReached.{RowsAreReached, IsReachMarked}
use Rattle.heap_dump.proofs.RowMarks.{none_reached, still_marked, marks_reached}
use Rattle.heap_dump.proofs.reached.rows_reached.Goals as goal

pub reach_roots-requires-clause-reached : goal.reach_roots-requires-clause-reached
reach_roots-requires-clause-reached c =
    let graph = c.args.graph.now in
    let marks = c.in_ok-no_marks.ensures ∙ ap (λ count. replicate count false) c.rows.ensures in
    subst (λ (xs : List ℕ). RowsAreReached graph c.in_ok-no_marks.field-0.items xs) (sym c.new.ensures.items)
    (subst (λ (flags : List Bool). RowsAreReached graph flags []) (sym marks) (none_reached graph))

pub returns : goal.returns
returns c =
    let graph = c.args.graph.now in
    let roots_reached = rw c.if-not-branch.false at c.in_ok-reach_roots.ensures.ok in
    let all_reached = rw c.if-not-branch-2.false at c.in_ok-reach_on.ensures.ok in
    let marks = c.reach_on.new.reached.marks.items in
    let order = c.reach_on.new.reached.order.items in
    let roots : (mutator index : ℕ) → mutator < length graph.roots → index < 16 → IsReachMarked graph marks (root_of graph (mutator + 1) index) = λ mutator index low few. still_marked graph c.reach_roots.new.reached.marks.items marks (root_of graph (mutator + 1) index) all_reached.1.kept (roots_reached.1 mutator index low few) in
    marks_reached graph marks order c.requires.order roots_reached.2 all_reached.0 roots all_reached.2
