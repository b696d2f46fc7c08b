use Rattle.std.proofs.Common.{◌<◌, sym, ap, ◌∙◌, subst, ⊎_elim, arith}
use Rattle.std.specs.Prelude.{slice_get, slice_set}
use Rattle.heap_words.proofs.Lists.{element_at}
use Rattle.shen_graph.specs.Valid.{most_objects}
use Rattle.step_core.specs.Machines.{made_of_machine}
use Rattle.table_heap.specs.State.{machine_at}
use Rattle.table_heap.specs.Driving.{mutators_below, AreDriving}
use Rattle.table_heap.proofs.AtWork.{idle_for_good}
use Rattle.table_heap.proofs.Driving.{name_there, given_fits, driven_on, driven_noted, driven_unchanged, can_take}
use Rattle.table_heap.proofs.Said.{done_not_idle, idle_or_not}
use Rattle.table_heap.proofs.bundle.Bundle.drive_turn.Goals as goal

pub go_on-stepped-requires-clause-orders : goal.go_on-stepped-requires-clause-orders
go_on-stepped-requires-clause-orders g c κs within = c.requires.driving.1.orders

pub go_on-stepped-requires-clause-fits : goal.go_on-stepped-requires-clause-fits
go_on-stepped-requires-clause-fits g c κs within = λ may_start.
    given_fits c.next_of_driver-next.result (made_of_machine (machine_at c.args.self.now c.args.number) < most_objects) c.next_of_driver-next.ensures.valid
    (name_there g.D.Driver.next_of g.D.Driver.replied g.D.Driver.to_come c.args.self.now c.requires.driving.0 c.args.drivers.now c.requires.driving.1 c.args.number c.requires.here may_start)

pub hand_reply-requires : goal.hand_reply-requires
hand_reply-requires g c =
    let place_below = can_take g.D.Driver.next_of g.D.Driver.replied g.D.Driver.to_come c.args.self.now c.go_on-stepped.new.self c.next_of_driver-next.result c.args.number c.go_on-stepped.result
    (c.go_on-stepped.ensures.turn (done_not_idle c.go_on-stepped.result c.in-Done.is)) c.go_on-stepped.ensures.same c.requires.driving.0 c.args.drivers.now c.next_of_driver-next.ensures.next c.requires.driving.1 c.in-Done.is in
    let place_known = c.requires.place in
    omega (arith, place_below, place_known)

pub returns-in-Done-clause-driving : goal.returns-in-Done-clause-driving
returns-in-Done-clause-driving g c = λ firsts before.
    let bundle = c.args.self.now in
    let drivers = c.args.drivers.now in
    let turn_made = c.go_on-stepped.ensures.turn (done_not_idle c.go_on-stepped.result c.in-Done.is) in
    let place_below = can_take g.D.Driver.next_of g.D.Driver.replied g.D.Driver.to_come bundle c.go_on-stepped.new.self c.next_of_driver-next.result c.args.number c.go_on-stepped.result
    turn_made c.go_on-stepped.ensures.same firsts drivers c.next_of_driver-next.ensures.next before c.in-Done.is in
    let driver_found = element_at drivers (mutators_below bundle c.args.number) place_below in
    let took = c.hand_reply.ensures driver_found.0 (ap (slice_get drivers) c.requires.place ∙ driver_found.1) in
    subst (λ some_drivers. AreDriving g.D.Driver.next_of g.D.Driver.replied g.D.Driver.to_come c.go_on-stepped.new.self firsts some_drivers) (sym (took.list ∙ ap (λ place. slice_set drivers place took.taken) c.requires.place))
    (driven_noted g.D.Driver.next_of g.D.Driver.replied g.D.Driver.to_come bundle c.go_on-stepped.new.self c.next_of_driver-next.result c.args.number c.go_on-stepped.result
    turn_made c.go_on-stepped.ensures.same firsts drivers c.next_of_driver-next.ensures.next before c.reply.result driver_found.0 took.taken c.in-Done.is c.reply.ensures driver_found.1
    took.replied_is took.falls took.pays)

pub returns-in_default-clause-driving : goal.returns-in_default-clause-driving
returns-in_default-clause-driving g c = λ firsts before. ⊎_elim
    (λ idle. driven_unchanged g.D.Driver.next_of g.D.Driver.replied g.D.Driver.to_come c.args.self.now c.go_on-stepped.new.self firsts c.args.drivers.now (c.go_on-stepped.ensures.unchanged idle) before)
    (λ machine_goes. driven_on g.D.Driver.next_of g.D.Driver.replied g.D.Driver.to_come c.args.self.now c.go_on-stepped.new.self c.next_of_driver-next.result c.args.number c.go_on-stepped.result
    (c.go_on-stepped.ensures.turn machine_goes) c.go_on-stepped.ensures.same firsts c.args.drivers.now c.next_of_driver-next.ensures.next before (λ said_done. c.in_default.not-Done said_done))
    (idle_or_not c.go_on-stepped.result)

pub returns-in_default-clause-same : goal.returns-in_default-clause-same
returns-in_default-clause-same g c = c.go_on-stepped.ensures.same

pub returns-in_default-clause-unchanged : goal.returns-in_default-clause-unchanged
returns-in_default-clause-unchanged g c = c.go_on-stepped.ensures.unchanged

pub returns-in_default-clause-idle : goal.returns-in_default-clause-idle
returns-in_default-clause-idle g c = λ machine_idle. idle_for_good (machine_at c.args.self.now c.args.number) c.next_of_driver-next.result (c.go_on-stepped.ensures.idle machine_idle)
