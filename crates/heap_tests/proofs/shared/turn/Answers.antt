use Rattle.std.proofs.Common.{sym, subst}
use Rattle.table_heap.specs.State.{machine_at}
use Rattle.table_heap.specs.Running.{AreAtWork}
use Rattle.table_heap.proofs.Running.{same_bundle_more, still_of}
use Rattle.heap_tests.proofs.TurnsAgain.{has_same, works_on, others_on, can_note, works_noted, replied_may}
use Rattle.heap_tests.proofs.shared.turn.Goals as goal

pub step-said-requires-clause-heap : goal.step-said-requires-clause-heap
step-said-requires-clause-heap c = still_of c.args.bundle.now c.order.new.bundle c.args.heap.now c.order.ensures.unmoved.same c.requires.heap

pub step-said-requires-clause-here : goal.step-said-requires-clause-here
step-said-requires-clause-here c = has_same c.args.bundle.now c.order.new.bundle c.args.number c.order.ensures.unmoved.same c.requires.here

pub reply-requires-clause-here : goal.reply-requires-clause-here
reply-requires-clause-here c =
    has_same c.order.new.bundle c.step-said.new.self c.args.number c.step-said.ensures.same (has_same c.args.bundle.now c.order.new.bundle c.args.number c.order.ensures.unmoved.same c.requires.here)

pub told-requires-clause-script : goal.told-requires-clause-script
told-requires-clause-script c =
    (can_note c.args.bundle.now c.order.new.bundle c.step-said.new.self c.args.work.now c.args.number c.step-said.result c.order.ensures c.step-said.ensures.event c.step-said.ensures.unchanged c.requires.work c.in-Done.is
    (c.step-said.ensures.done.0 c.in-Done.is).0).0

pub told-requires-clause-more : goal.told-requires-clause-more
told-requires-clause-more c =
    (can_note c.args.bundle.now c.order.new.bundle c.step-said.new.self c.args.work.now c.args.number c.step-said.result c.order.ensures c.step-said.ensures.event c.step-said.ensures.unchanged c.requires.work c.in-Done.is
    (c.step-said.ensures.done.0 c.in-Done.is).0).1

pub returns-in-Done-clause-same : goal.returns-in-Done-clause-same
returns-in-Done-clause-same c = same_bundle_more c.args.bundle.now c.order.new.bundle c.step-said.new.self c.order.ensures.unmoved.same c.step-said.ensures.same

pub returns-in-Done-clause-work : goal.returns-in-Done-clause-work
returns-in-Done-clause-work c =
    subst (λ jobs. AreAtWork c.step-said.new.self jobs) (sym c.told.ensures)
    (works_noted c.args.bundle.now c.order.new.bundle c.step-said.new.self c.args.work.now c.args.number c.step-said.result c.order.ensures c.step-said.ensures.event c.step-said.ensures.unchanged c.requires.work c.in-Done.is
    (c.step-said.ensures.done.0 c.in-Done.is).0 c.reply.result c.reply.ensures)

pub returns-in-Done-clause-others : goal.returns-in-Done-clause-others
returns-in-Done-clause-others c = others_on c.args.bundle.now c.order.new.bundle c.step-said.new.self c.args.work.now c.args.number c.step-said.result c.order.ensures c.step-said.ensures.event c.step-said.ensures.unchanged

pub returns-in-Done-clause-done : goal.returns-in-Done-clause-done
returns-in-Done-clause-done c = λ said_done. replied_may (machine_at c.step-said.new.self c.args.number) (c.step-said.ensures.replied said_done)

pub returns-in_default-clause-same : goal.returns-in_default-clause-same
returns-in_default-clause-same c = same_bundle_more c.args.bundle.now c.order.new.bundle c.step-said.new.self c.order.ensures.unmoved.same c.step-said.ensures.same

pub returns-in_default-clause-work : goal.returns-in_default-clause-work
returns-in_default-clause-work c =
    works_on c.args.bundle.now c.order.new.bundle c.step-said.new.self c.args.work.now c.args.number c.step-said.result c.order.ensures c.step-said.ensures.event c.step-said.ensures.unchanged c.requires.work (λ said_done. c.in_default.not-Done said_done)

pub returns-in_default-clause-others : goal.returns-in_default-clause-others
returns-in_default-clause-others c = others_on c.args.bundle.now c.order.new.bundle c.step-said.new.self c.args.work.now c.args.number c.step-said.result c.order.ensures c.step-said.ensures.event c.step-said.ensures.unchanged

pub returns-in_default-clause-done : goal.returns-in_default-clause-done
returns-in_default-clause-done c = λ said_done. absurd (c.in_default.not-Done said_done)
