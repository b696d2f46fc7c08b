use Rattle.std.proofs.Common.{◌≡◌, ◌<◌, true, subst, arith}
use Rattle.std.proofs.lemmas.Bool.{ltb-true}
use Rattle.shen_graph.specs.Valid.{most_objects}
use Rattle.mutator.specs.Fit.{can_count}
use Rattle.mutator.proofs.waits.WaitSpot.made_after.Goals as goal

pub overflow_add-result : goal.overflow_add-result
overflow_add-result c =
    let count_below : c.args.made < most_objects = ltb-true _ _ (subst (λ spot. can_count c.args.made spot ≡ true) c.in-StoreRoot.is c.requires) in
    omega arith
