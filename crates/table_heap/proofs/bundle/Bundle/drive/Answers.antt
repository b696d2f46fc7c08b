use Rattle.table_heap.proofs.Inside.{gone_driving}
use Rattle.table_heap.proofs.Running.{same_bundle, same_bundle_more}
use Rattle.table_heap.proofs.Driving.{first_drivers, have_driven}
use Rattle.table_heap.proofs.bundle.Bundle.drive.Goals as goal

pub loop-init : goal.loop-init
loop-init g c = record {
  driving = first_drivers g.D.Driver.next_of g.D.Driver.replied g.D.Driver.to_come c.args.self.now c.args.drivers.now c.requires.start;
  same = same_bundle c.args.self.now;
}

pub returns-in-Idle-clause-orders : goal.returns-in-Idle-clause-orders
returns-in-Idle-clause-orders g c = (c.drive_round-said.ensures.driving c.args.drivers.now c.loop.invariant.driving).orders

pub returns-in-Idle-clause-driven : goal.returns-in-Idle-clause-driven
returns-in-Idle-clause-driven g c =
    have_driven g.D.Driver.next_of g.D.Driver.replied g.D.Driver.to_come c.drive_round-said.new.self c.args.drivers.now c.drive_round-said.new.drivers
    (c.drive_round-said.ensures.driving c.args.drivers.now c.loop.invariant.driving) (c.drive_round-said.ensures.idle c.in-Idle.is)

pub loop-preserved : goal.loop-preserved
loop-preserved g c =
    let mid = c.drive_round-said.new in
    let driving = c.drive_round-said.ensures.driving c.args.drivers.now c.loop.invariant.driving in
    let turns = c.go_through_image.ensures.turns in
    record {
      driving = gone_driving turns.0 g.D.Driver.next_of g.D.Driver.replied g.D.Driver.to_come c.args.drivers.now mid.drivers turns.1 mid.self c.go_through_image.new.self turns.2 driving;
      same = same_bundle_more c.args.self.now mid.self c.go_through_image.new.self (same_bundle_more c.args.self.now c.loop.self mid.self c.loop.invariant.same c.drive_round-said.ensures.same) c.go_through_image.ensures.same;
    }

pub go_through_image-requires-clause-orders : goal.go_through_image-requires-clause-orders
go_through_image-requires-clause-orders g c κs within = (c.drive_round-said.ensures.driving c.args.drivers.now c.loop.invariant.driving).orders

pub back_off-moving-requires : goal.back_off-moving-requires
back_off-moving-requires g c = (c.drive_round-said.ensures.driving c.args.drivers.now c.loop.invariant.driving).orders
