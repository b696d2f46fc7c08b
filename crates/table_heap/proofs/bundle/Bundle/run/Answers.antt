use Rattle.table_heap.proofs.Inside.{gone_work}
use Rattle.table_heap.proofs.Running.{same_bundle, same_bundle_more, same_jobs, same_jobs_more, still_of}
use Rattle.table_heap.proofs.Rounds.{at_start, have_done}
use Rattle.table_heap.proofs.bundle.Bundle.run.Goals as goal

pub loop-init : goal.loop-init
loop-init g c = record { work = at_start c.args.self.now c.args.work.now c.requires.start; same = same_bundle c.args.self.now; jobs = same_jobs _ c.args.work.now }

pub round-said-requires-clause-heap : goal.round-said-requires-clause-heap
round-said-requires-clause-heap g c = λ _ _. still_of c.args.self.now c.loop.self c.args.heap.now c.loop.invariant.same c.requires.heap

pub returns-in-Idle-clause-same : goal.returns-in-Idle-clause-same
returns-in-Idle-clause-same g c = same_bundle_more c.args.self.now c.loop.self c.round-said.new.self c.loop.invariant.same c.round-said.ensures.same

pub returns-in-Idle-clause-done : goal.returns-in-Idle-clause-done
returns-in-Idle-clause-done g c =
    let loop_turn = c.loop in
    have_done c.args.self.now c.round-said.new.self c.args.work.now c.round-said.new.work
    (same_jobs_more c.args.self.now loop_turn.self c.args.work.now loop_turn.work c.round-said.new.work loop_turn.invariant.same loop_turn.invariant.jobs c.round-said.ensures.jobs)
    c.round-said.ensures.work (c.round-said.ensures.idle c.in-Idle.is)

pub returns-in-Idle-clause-jobs : goal.returns-in-Idle-clause-jobs
returns-in-Idle-clause-jobs g c =
    let loop_turn = c.loop in
    same_jobs_more c.args.self.now loop_turn.self c.args.work.now loop_turn.work c.round-said.new.work loop_turn.invariant.same loop_turn.invariant.jobs c.round-said.ensures.jobs

pub loop-preserved : goal.loop-preserved
loop-preserved g c =
    let loop_turn = c.loop in
    let mid = c.round-said.new in
    let same_so_far = same_bundle_more c.args.self.now loop_turn.self mid.self loop_turn.invariant.same c.round-said.ensures.same in
    let jobs = same_jobs_more c.args.self.now loop_turn.self c.args.work.now loop_turn.work mid.work loop_turn.invariant.same loop_turn.invariant.jobs c.round-said.ensures.jobs in
    record {
      work = gone_work c.go_through_image.ensures.turns.0 c.go_through_image.ensures.turns.1 mid.self c.go_through_image.new.self c.go_through_image.ensures.turns.2 mid.work c.round-said.ensures.work;
      same = same_bundle_more c.args.self.now mid.self c.go_through_image.new.self same_so_far c.go_through_image.ensures.same;
      jobs = jobs;
    }

pub go_through_image-requires-clause-orders : goal.go_through_image-requires-clause-orders
go_through_image-requires-clause-orders g c = λ _ _. c.round-said.ensures.work.orders

pub round-said-requires-clause-work : goal.round-said-requires-clause-work
round-said-requires-clause-work g c = λ _ _. c.loop.invariant.work

pub returns-in-Idle-clause-orders : goal.returns-in-Idle-clause-orders
returns-in-Idle-clause-orders g c = c.round-said.ensures.work.orders

pub returns-in-Idle-clause-idle : goal.returns-in-Idle-clause-idle
returns-in-Idle-clause-idle g c = c.round-said.ensures.idle c.in-Idle.is
