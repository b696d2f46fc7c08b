use Rattle.trace_runs.proofs.PartLaws.{joined_ready, joined_done}
use Rattle.trace_runs.proofs.parts.Part.join.Goals as goal

pub returns-clause-ready : goal.returns-clause-ready
returns-clause-ready c = λ assigned workers first between beyond mine others low high.
    joined_ready c.args.heap.now assigned workers first between beyond c.args.self c.args.other (record { bundle = c.join.result; load = c.join-2.result }) c.join.ensures.heap c.join.ensures.view c.join-2.ensures low high mine.has others.has c.join.ensures.orders mine others

pub returns-clause-done : goal.returns-clause-done
returns-clause-done c = λ assigned workers first between beyond mine others low high.
    joined_done c.args.heap.now assigned workers first between beyond c.args.self c.args.other (record { bundle = c.join.result; load = c.join-2.result }) c.join.ensures.heap c.join.ensures.view c.join-2.ensures low high mine.has others.has mine others
