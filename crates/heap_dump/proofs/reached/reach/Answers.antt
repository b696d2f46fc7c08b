use Rattle.std.proofs.Common.{ℕ, ◌<◌, true, false, List, length, set, sym, subst, ◌∙◌, arith}
use Rattle.std.proofs.lemmas.List.{get_or_default}
use Rattle.heap_dump.specs.RowsReached.{Grows, RowsAreReached, IsReachMarked}
use Rattle.heap_dump.proofs.RowMarks.{marked_now, reached_more, grows_more, names_marked}
use Rattle.heap_dump.proofs.reached.reach.Goals as goal

pub returns-in_ok-push : goal.returns-in_ok-push
returns-in_ok-push c =
    let graph = c.args.graph.now in
    let marks = c.args.reached.now.marks.items in
    let order = c.args.reached.now.order.items in
    let row = c.in-Some-row_named.row in
    let row_found = c.in-Some-row_named.ensures in
    let row_below : row < length marks = omega (arith, row_found.0, c.requires.reached.size) in
    let unset = get_or_default marks row false c.index.result.now row_below ∙ sym c.index.ensures ∙ c.if-not-index.true in
    let items = sym c.in_ok-push.ensures.items in
    record {
      ok = (
        subst (λ (xs : List ℕ). RowsAreReached graph (set marks row true) xs) items (reached_more graph marks order row c.in-Some.name c.requires.reached row_found.0 unset row_found.1 (c.requires.led c.in-Some.name c.in-Some.is)),
        subst (λ (xs : List ℕ). Grows marks order (set marks row true) xs) items (grows_more marks order row row_below),
        subst (IsReachMarked graph (set marks row true)) (sym c.in-Some.is) (names_marked graph (set marks row true) c.in-Some.name row row_found.0 row_found.1 (marked_now marks row row_below)),
      );
    }
