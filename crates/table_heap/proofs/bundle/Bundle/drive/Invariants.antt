use Rattle.table_heap.specs.State.{IsSameBundle}
use Rattle.table_heap.specs.Driving.{AreDriving}
use Rattle.table_heap.proofs.bundle.Bundle.drive.Given as goal

abbrev pub invariant-loop : goal.invariant-loop
invariant-loop g loop = record {
  driving : AreDriving g.D.Driver.next_of g.D.Driver.replied g.D.Driver.to_come loop.self loop.initial.drivers loop.drivers;
  same : IsSameBundle loop.initial.self loop.self;
}
