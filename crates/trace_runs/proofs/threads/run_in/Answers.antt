use Rattle.std.proofs.Common.{ℕ, ◌+◌, length, sym, subst, arith}
use Rattle.trace_runs.specs.DealtParts.{Assigned, PartCanRun, IsDone}
use Rattle.trace_runs.specs.Started.{AreThreads}
use Rattle.trace_runs.proofs.PartLaws.{ended_done}
use Rattle.trace_runs.proofs.threads.run_in.Goals as goal

pub together-own-requires-clause-ready : goal.together-own-requires-clause-ready
together-own-requires-clause-ready g c =
    let ready_facts = c.requires.ready in
    (ready_facts.0, length c.args.parts.items, (c.start_all.ensures ready_facts.0 ready_facts.1).here)

pub run-requires-after_bounds : goal.run-requires-after_bounds
run-requires-after_bounds g c κs within =
    let ready_facts = c.requires.ready in
    let part_count = length c.args.parts.items in
    let ready = c.together-own.ensures ready_facts.0 part_count (c.start_all.ensures ready_facts.0 ready_facts.1).here in
    let can_run : PartCanRun c.args.heap.now c.together-own.result = record { of = ready.has.of; start = ready.start } in
    can_run

pub join_all-requires-after_bounds : goal.join_all-requires-after_bounds
join_all-requires-after_bounds g c κs within =
    let heap = c.args.heap.now in
    let ready_facts = c.requires.ready in
    let part_count = length c.args.parts.items in
    let split = c.start_all.ensures ready_facts.0 ready_facts.1 in
    let left_count = length c.start_all.new.parts.items in
    let threads = c.start_all.new.threads.items in
    let is_done = ended_done heap ready_facts.0 part_count 0 left_count c.together-own.result c.run.new.self (omega arith) (c.together-own.ensures ready_facts.0 part_count split.here) c.run.ensures in
    let some_assigned : (assigned : Assigned) × (first : ℕ) × IsDone heap assigned (first + length threads) 0 first c.run.new.self × AreThreads heap assigned (first + length threads) threads =
    (ready_facts.0, left_count, subst (λ workers. IsDone heap ready_facts.0 workers 0 left_count c.run.new.self) (sym split.count) is_done, subst (λ thread_count. AreThreads heap ready_facts.0 thread_count threads) (sym split.count) split.there) in
    some_assigned

pub returns : goal.returns
returns g c = λ assigned all_ready.
    let heap = c.args.heap.now in
    let part_count = length c.args.parts.items in
    let split = c.start_all.ensures assigned all_ready in
    let left_count = length c.start_all.new.parts.items in
    let threads = c.start_all.new.threads.items in
    let is_done = ended_done heap assigned part_count 0 left_count c.together-own.result c.run.new.self (omega arith) (c.together-own.ensures assigned part_count split.here) c.run.ensures in
    subst (λ thread_count. IsDone heap assigned thread_count 0 thread_count c.join_all.result) split.count
    (c.join_all.ensures assigned left_count (subst (λ workers. IsDone heap assigned workers 0 left_count c.run.new.self) (sym split.count) is_done) (subst (λ thread_count. AreThreads heap assigned thread_count threads) (sym split.count) split.there))
