use Rattle.std.proofs.Common.{refl, sym, ap, ◌∙◌, subst}
use Rattle.std.specs.Arc.{arc_value}
use Rattle.heap_words.specs.Steps.{Stage}
use Rattle.step_core.specs.Actor.{Actor}
use Rattle.table_heap.specs.Core.{start_of_key}
use Rattle.table_heap.specs.State.{start_of_heap, IsBundleOf}
use Rattle.heap_seats.specs.Histories.{BeginsRenewable}
use Rattle.heap_seats.proofs.Opened.{fresh_here, fresh_only, fresh_run, fresh_machine, fresh_order, fresh_steps, fresh_calls}
use Rattle.heap_seats.proofs.seat.Seat.open.Goals as goal

pub invariant_of-result : goal.invariant_of-result
invariant_of-result c =
    let heap = arc_value c.args.heap.now in
    let config = c.args.config in
    let begins = c.requires.begins in
    let fresh = c.requires.fresh in
    record {
      fits = subst (IsBundleOf c.args.bundle) (sym c.in-Ok.ensures) fresh.of;
      here = fresh_here config (start_of_heap heap) begins heap c.args.bundle c.args.number fresh c.requires.inside;
      only = fresh_only config (start_of_heap heap) begins heap c.args.bundle c.args.number fresh;
      same_config = fresh.of.config ∙ c.requires.config;
      reached = fresh_run config heap c.args.bundle c.args.number fresh;
      renewable = subst (λ (stage : Stage Actor). ∥ BeginsRenewable config stage ∥₁) (sym (ap start_of_key fresh.of.key)) begins;
    }

pub returns : goal.returns
returns c =
    let heap = arc_value c.args.heap.now in
    let config = c.args.config in
    let begins = c.requires.begins in
    let fresh = c.requires.fresh in
    record {
      config = refl;
      heap = c.in-Ok.ensures;
      number = refl;
      machine = fresh_machine config (start_of_heap heap) begins heap c.args.bundle c.args.number fresh c.requires.inside;
      order = fresh_order config (start_of_heap heap) begins heap c.args.bundle c.args.number fresh c.requires.inside;
      steps = fresh_steps config (start_of_heap heap) begins heap c.args.bundle c.args.number fresh c.requires.inside;
      calls = fresh_calls config (start_of_heap heap) begins heap c.args.bundle c.args.number fresh c.requires.inside;
    }
