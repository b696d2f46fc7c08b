use Rattle.std.proofs.Common.{refl, sym, ap, ◌∙◌, subst}
use Rattle.shared_table.specs.Views.{merged}
use Rattle.table_heap.specs.declared.bundle.Bundle.{Bundle}
use Rattle.table_heap.specs.State.{view_of as bundle_view, IsBundleOf}
use Rattle.table_heap.specs.Gathered.{view_of}
use Rattle.heap_seats.proofs.Together.{together_more}
use Rattle.heap_seats.proofs.gathering.Begun.with.Goals as goal

pub returns-clause-given : goal.returns-clause-given
returns-clause-given c before are_together shares_begun absent =
    let begun_seats = c.args.self in
    let seat = c.args.seat in
    let bundle_fits : IsBundleOf seat.bundle c.deref.result.now = subst (IsBundleOf seat.bundle) (shares_begun ∙ sym c.deref.ensures) seat.fits in
    let bundle_moved : IsBundleOf c.into_bundle.result c.deref.result.now = subst (λ (bundle : Bundle). IsBundleOf bundle c.deref.result.now) (sym c.into_bundle.ensures) bundle_fits in
    together_more before seat begun_seats _ refl are_together shares_begun absent (c.with-machines.ensures.view bundle_moved ∙ ap (λ (bundle : Bundle). merged (view_of begun_seats.machines) (bundle_view bundle)) c.into_bundle.ensures)
