use Rattle.heap_dump.proofs.RowMarks.{whole_reach, not_all_reach}
use Rattle.heap_dump.proofs.whole.is_whole.Goals as goal

pub returns-in-Some : goal.returns-in-Some
returns-in-Some c =
    let graph = c.args.graph.now in
    let marks = c.in-Some.marks.items in
    let reached = rw c.in-Some.is at c.in_ok-marks.ensures in
    let all_told = rw c.deref.ensures.value at c.are_all.ensures in
    (λ result_true. whole_reach graph marks c.requires.order reached (all_told.0 result_true), λ reach. all_told.1 (not_all_reach graph marks c.requires.order reached reach))
