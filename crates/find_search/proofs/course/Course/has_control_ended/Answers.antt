use Rattle.std.proofs.Common.{◌≡◌, ◌-◌, refl, subst, arith}
use Rattle.std.specs.Prelude.{None}
use Rattle.step_core.specs.Settled.{image_read, control_number}
use Rattle.shen_core.specs.State.{config_of, machine_at}
use Rattle.find_search.proofs.Handed.{stores_none}
use Rattle.find_search.proofs.course.Course.has_control_ended.Goals as goal

pub returns-in-None : goal.returns-in-None
returns-in-None c = λ _.
    let plain = c.args.self.now.plain in
    let last_seat : c.seats.result - 1 ≡ control_number (config_of plain) = omega (arith, c.seats.ensures) in
    subst (λ seat. image_read (machine_at plain seat) ≡ None) last_seat (stores_none plain c.args.self.now.work (c.seats.result - 1) c.args.self.now.can_run (c.in-None.ensures.none.0 refl))
