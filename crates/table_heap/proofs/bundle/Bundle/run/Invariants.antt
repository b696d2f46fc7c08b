use Rattle.table_heap.specs.State.{view_of, IsSameBundle}
use Rattle.table_heap.specs.Running.{AreAtWork, AreSameJobs}
use Rattle.table_heap.proofs.bundle.Bundle.run.Given as goal

abbrev pub invariant-loop : goal.invariant-loop
invariant-loop g locals = record {
  work : AreAtWork locals.self locals.work;
  same : IsSameBundle locals.initial.self locals.self;
  jobs : AreSameJobs (view_of locals.initial.self) locals.initial.work locals.work;
}
