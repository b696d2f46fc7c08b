use Rattle.std.proofs.Common.{sym, ap, ◌∙◌}
use Rattle.shared_table.specs.Views.{merged}
use Rattle.shared_table.specs.Counted.{uncounted_machine, uncounted_view}
use Rattle.shared_table.proofs.Kept.{kept-merged}
use Rattle.table_heap.specs.Gathered.{view_of}
use Rattle.table_heap.proofs.gathered.Gathered.with.Goals as goal

pub returns-clause-view : goal.returns-clause-view
returns-clause-view c fits =
    let other_gathered = c.of-other in
    let same_heap = other_gathered.ensures.heap c.args.heap.now fits ∙ sym c.requires in
    ap uncounted_view (c.gather_seat.ensures.gathered same_heap) ∙ kept-merged uncounted_machine c.args.self.seat.me.0 other_gathered.result.seat.me.0 ∙ ap (merged (view_of c.args.self)) other_gathered.ensures.view
