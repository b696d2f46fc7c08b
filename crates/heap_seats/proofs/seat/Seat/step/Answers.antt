use Rattle.std.proofs.Common.{◌≡◌, ◌≢◌, Bool, true, false, refl, ◌∙◌, subst}
use Rattle.std.specs.Arc.{arc_value}
use Rattle.heap_words.specs.declared.config.Config.{Config}
use Rattle.heap_machines.specs.declared.stepped.Stepped.{Stepped}
use Rattle.heap_machines.specs.declared.stepped.Stepped.TheVariants as stepped
use Rattle.table_heap.specs.State.{has_turn, machine_at, order_at}
use Rattle.heap_machines.specs.Pause.{pause_image}
use Rattle.step_core.specs.Machines.{machine_after}
use Rattle.heap_seats.specs.Going.{said_of_step}
use Rattle.heap_seats.proofs.Stepped.{calls_go, doing_goes, order_then, steps_then, machine_goes, answers_then}
use Rattle.heap_seats.proofs.Known.{stays_of, stays_here, stays_only, stays_renewable, goes_run}
use Rattle.heap_seats.proofs.seat.Seat.step.Goals as goal

has_one : (turn : Bool) (step_said : Stepped) → (turn ≡ false → step_said ≡ stepped.Idle) → step_said ≢ stepped.Idle → turn ≡ true
has_one true step_said idle step_moved = refl
has_one false step_said idle step_moved = absurd (step_moved (idle refl))

pub invariant_of-self : goal.invariant_of-self
invariant_of-self c =
    let seat = c.args.self.now in
    let bundle = c.step.new.self in
    let step_made = c.step.ensures in
    record {
      fits = stays_of (arc_value seat.heap) seat.bundle bundle step_made.same seat.fits;
      here = stays_here seat.bundle bundle seat.number step_made.same seat.here;
      only = stays_only seat.bundle bundle seat.number step_made.same seat.only;
      same_config = step_made.same.config ∙ seat.same_config;
      reached = goes_run seat.bundle bundle seat.number c.step.result step_made.same step_made.unchanged step_made.event seat.reached;
      renewable = stays_renewable seat.config seat.bundle bundle step_made.same seat.renewable;
    }

pub returns-clause-stepped : goal.returns-clause-stepped
returns-clause-stepped c moved =
    let seat = c.args.self.now in
    let bundle = c.step.new.self in
    let step = c.step.ensures.event (has_one (has_turn seat.bundle seat.number) c.step.result c.step.ensures.idle.1 moved) in
    let machine_before = machine_at seat.bundle seat.number in
    let order = order_at seat.bundle seat.number in
    record {
      got = step.got;
      machine = subst (λ (config : Config). machine_at bundle seat.number ≡ machine_after pause_image config order step.got machine_before) seat.same_config (machine_goes seat.bundle bundle seat.number c.step.result step);
      answers = subst (λ (config : Config). c.step.result ≡ said_of_step config order machine_before step.got) seat.same_config (answers_then seat.bundle bundle seat.number c.step.result step);
      calls = calls_go seat.bundle bundle seat.number c.step.result step;
      doing = doing_goes seat.bundle bundle seat.number c.step.result step;
      order = order_then seat.bundle bundle seat.number c.step.result step;
      steps = steps_then seat.bundle bundle seat.number c.step.result step;
    }
