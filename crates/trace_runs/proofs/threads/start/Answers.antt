use denote.Param.{param}
use denote.Param.Send.{IsSync, sendable}
use Rattle.std.proofs.Common.{rules, ◌+◌, sym, subst, arith}
use Rattle.std.proofs.Crossing.{crosses}
use Rattle.trace_runs.proofs.Crossing.{heap_sync, part_send, returned_send}
use Rattle.trace_runs.specs.DealtParts.{IsGivenBack}
use Rattle.trace_runs.specs.declared.parts.Part.{Part}
use Rattle.trace_runs.proofs.Loops.{ran_already}
use Rattle.trace_runs.proofs.threads.start.Goals as goal

pub returns-then-ran-clause-ok : goal.returns-then-ran-clause-ok
returns-then-ran-clause-ok g c = λ assigned workers part_number ready.
    let kept_back : IsGivenBack c.args.part c.spawn_with-part.result = search rules in
    ran_already c.args.heap.now assigned workers part_number (part_number + 1) c.args.part c.spawn_with-part.result (omega arith) ready kept_back c.if-ran.true

pub spawn_with-started-requires-clause-keeps : goal.spawn_with-started-requires-clause-keeps
spawn_with-started-requires-clause-keeps g c κs within = λ given_back kept_back. subst (λ (any_part : Part). IsGivenBack any_part given_back) (sym c.of.ensures) kept_back

pub spawn_with-started-requires-send-F : goal.spawn_with-started-requires-send-F
spawn_with-started-requires-send-F g c κs within =
    let runtime : IsSync (param 1 g.row.R) = c.type_bounds.sync-R in
    let gate : IsSync (param 2 g.row.G) = c.type_bounds.sync-G in
    search (part_send, heap_sync, sendable, crosses) depth 20

pub spawn_with-started-requires-send-T : goal.spawn_with-started-requires-send-T
spawn_with-started-requires-send-T g c κs within = search (returned_send, sendable)
