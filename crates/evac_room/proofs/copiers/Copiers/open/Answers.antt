use Rattle.std.proofs.Common.{[], ◌∷◌, length, map, ap, ◌∙◌, subst, sym, refl, arith}
use Rattle.std.proofs.lemmas.List.{length-append}
use Rattle.evac_room.specs.declared.copier.Copier.TheVariants.{Outside}
use Rattle.evac_room.specs.Core.{IsFew}
use Rattle.evac_room.specs.Copier.{spot_of}
use Rattle.evac_room.proofs.Memory.{outside_more, opened_reached}
use Rattle.evac_room.proofs.copiers.Copiers.open.Goals as goal

pub loop-init : goal.loop-init
loop-init c = record { all = ap length c.new-copiers.ensures.items; are = ap (map spot_of) c.new-copiers.ensures.items }

pub loop-preserved : goal.loop-preserved
loop-preserved c = record {
  all = ap length c.in-Ok-push.ensures.items ∙ omega (arith, length-append c.loop.copiers.items (Outside ∷ []), c.loop.invariant.all);
  are = ap (map spot_of) c.in-Ok-push.ensures.items ∙ outside_more c.loop.copiers.items _ c.loop.counter c.loop.invariant.are refl;
}

pub invariant_of-result : goal.invariant_of-result
invariant_of-result c = record {
  few = subst IsFew (sym (c.loop.invariant.all ∙ omega arith)) c.requires;
  reached = ∣ opened_reached c.loop.copiers.items c.loop.counter c.loop.invariant.all c.loop.invariant.are ∣₁;
}
