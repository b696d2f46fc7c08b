use Rattle.std.proofs.Common.{◌≡◌, ◌↔◌, subst, sym}
use Rattle.heap_words.specs.declared.access.Unit.TheVariants.{Worked, NoneLeft}
use Rattle.unit_part.specs.declared.update_spot.UpdateSpot.{UpdateSpot}
use Rattle.unit_part.specs.declared.update_spot.UpdateSpot.TheVariants.{Ended}
use Rattle.unit_part.specs.UpdateSeen.{config_of, set_of, spot_of}
use Rattle.unit_part.specs.UpdateEnds.{HasNoneLeft, IsDoneAt}
use Rattle.unit_part.proofs.Endings.{worked_is, none_is}
use Rattle.unit_part.proofs.update_unit.UpdateUnit.took.Goals as goal

pub returns-clause-worked : goal.returns-clause-worked
returns-clause-worked c =
    subst (λ (spot : UpdateSpot). (spot ≡ Ended Worked) ↔ IsDoneAt (config_of c.args.self.now) (set_of c.args.self.now) (spot_of c.args.self.now) c.args.got) (sym c.after-self.ensures)
    (worked_is (config_of c.args.self.now) (set_of c.args.self.now) (spot_of c.args.self.now) c.args.got c.requires.busy)

pub returns-clause-none_left : goal.returns-clause-none_left
returns-clause-none_left c =
    subst (λ (spot : UpdateSpot). (spot ≡ Ended NoneLeft) ↔ HasNoneLeft (config_of c.args.self.now) (spot_of c.args.self.now) c.args.got) (sym c.after-self.ensures)
    (none_is (config_of c.args.self.now) (set_of c.args.self.now) (spot_of c.args.self.now) c.args.got c.requires.busy)
