use Rattle.std.proofs.Common.{ap, ◌∙◌, subst}
use Rattle.std.specs.Arc.{arc_value}
use Rattle.shared_table.specs.Views.{merged}
use Rattle.table_heap.specs.declared.bundle.Bundle.{Bundle}
use Rattle.table_heap.specs.State.{view_of, IsBundleOf}
use Rattle.heap_seats.proofs.Joined.{joined_more}
use Rattle.heap_seats.proofs.closing.Closing.with.Goals as goal

pub returns-clause-given : goal.returns-clause-given
returns-clause-given c before are_together absent =
    let closing = c.args.self in
    let new = c.join-together.result in
    joined_more (arc_value closing.heap) before c.args.seat closing.together new are_together absent (subst (IsBundleOf new) c.deref.ensures c.join-together.ensures.heap)
    (c.join-together.ensures.view ∙ ap (λ (bundle : Bundle). merged (view_of closing.together) (view_of bundle)) c.into_bundle.ensures)
