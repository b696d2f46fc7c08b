use Rattle.std.proofs.Common.{◌≡◌, false}
use Rattle.shen_core.specs.State.{config_of}
use Rattle.shen_core.specs.Agendas.{agenda_in, weight_in, IsWalkOf}
use Rattle.shen_core.specs.Nexts.{HasSameNext}
use Rattle.shen_core.proofs.walk.Walk.find_in_items.Given as goal

abbrev pub invariant-loop-item : goal.invariant-loop-item
invariant-loop-item l = record {
  walk : IsWalkOf (config_of l.plain) l.self;
  control : l.self.control_due ≡ false;
  same : HasSameNext l.plain l.work (agenda_in l.initial.self) (agenda_in l.self);
}

abbrev pub decreases-loop-item : goal.decreases-loop-item
decreases-loop-item l = weight_in l.self
