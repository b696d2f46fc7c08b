use Rattle.std.proofs.Common.{ℕ, ap, sym, ◌∙◌}
use Rattle.std.specs.Prelude.{◌==◌}
use Rattle.std.specs.List.{list_any}
use Rattle.shen_check.proofs.HeldFound.{region_again, region_added}
use Rattle.shen_check.proofs.crowd.pinned_regions.Goals as goal
use Rattle.shen_check.proofs.crowd.pinned_regions.Goals.{then-not-contains+in_ok-push, else-not-contains}

pub loop-pinned-preserved : goal.loop-pinned-preserved
loop-pinned-preserved c =
    let found_regions = c.loop-pinned.regions.items in
    let membership = c.contains.ensures.value ∙ ap (list_any (λ (region : ℕ). region == _)) c.deref.ensures.value in
    elim c.if-not-contains.branch [
      | then-not-contains+in_ok-push w ↦
          ap (λ numbers. numbers.items) w.regions-is ∙ w.in_ok-push.ensures.items
          ∙ region_added c.args.region_words c.args.held.now c.loop-pinned.pinned-index _ found_regions c.loop-pinned-test.true c.loop-pinned.invariant (sym membership ∙ w.if-not-contains.true)
      | else-not-contains w ↦
          ap (λ numbers. numbers.items) w.regions-is
          ∙ region_again c.args.region_words c.args.held.now c.loop-pinned.pinned-index _ found_regions c.loop-pinned-test.true c.loop-pinned.invariant (sym membership ∙ w.if-not-contains.false)
    ]
