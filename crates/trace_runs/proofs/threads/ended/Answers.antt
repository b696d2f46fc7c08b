use Rattle.std.proofs.Common.{rules, ◌≡◌, ◌+◌, true, false, sym, subst, arith}
use Rattle.trace_runs.specs.DealtParts.{PartCanRun, PartIsReady, IsDone}
use Rattle.trace_runs.specs.Started.{IsThread}
use Rattle.trace_runs.proofs.PartLaws.{ended_done}
use Rattle.trace_runs.proofs.Loops.{ran_already, as_given}
use Rattle.trace_runs.proofs.threads.ended.Goals as goal

pub returns-then-not-ran : goal.returns-then-not-ran
returns-then-not-ran g c = λ assigned workers number thread_is.
    let heap = c.args.heap.now in
    let ready : PartIsReady heap assigned workers number (number + 1) c.in-Running.handle.promise.0.value = subst (IsThread heap assigned workers number) c.in-Running.is thread_is in
    let unran : c.join-part.result.ran ≡ false = search rules in
    ended_done heap assigned workers number (number + 1) c.join-part.result.part c.run.new.self (omega arith)
    (subst (PartIsReady heap assigned workers number (number + 1)) (sym (as_given c.in-Running.handle.promise.0.value c.join-part.result c.join-part.ensures unran)) ready) c.run.ensures

pub returns-else-not-ran : goal.returns-else-not-ran
returns-else-not-ran g c = λ assigned workers number thread_is.
    let heap = c.args.heap.now in
    let ready : PartIsReady heap assigned workers number (number + 1) c.in-Running.handle.promise.0.value = subst (IsThread heap assigned workers number) c.in-Running.is thread_is in
    let ran : c.join-part.result.ran ≡ true = search rules in
    ran_already heap assigned workers number (number + 1) c.in-Running.handle.promise.0.value c.join-part.result (omega arith) ready c.join-part.ensures ran

pub run-requires-after_bounds : goal.run-requires-after_bounds
run-requires-after_bounds g c κs within =
    let heap = c.args.heap.now in
    let required = c.requires in
    let ready : PartIsReady heap required.0 required.1 required.2 (required.2 + 1) c.in-Running.handle.promise.0.value = subst (IsThread heap required.0 required.1 required.2) c.in-Running.is required.3 in
    subst (PartCanRun heap) (sym (as_given c.in-Running.handle.promise.0.value c.join-part.result c.join-part.ensures c.if-not-ran.true)) (record { of = ready.has.of; start = ready.start })

pub returns-in-Over : goal.returns-in-Over
returns-in-Over g c = λ assigned workers number thread_is.
    let heap = c.args.heap.now in
    let is_done : IsDone heap assigned workers number (number + 1) c.in-Over.part = subst (IsThread heap assigned workers number) c.in-Over.is thread_is in
    is_done
