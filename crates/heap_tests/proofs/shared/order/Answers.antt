use Rattle.std.proofs.Common.{Some, None, sym, ◌∙◌, subst}
use Rattle.table_heap.specs.Running.{next_for}
use Rattle.heap_tests.specs.Ordered.{IsOrdered}
use Rattle.heap_tests.proofs.TurnsAgain.{unordered, ordered, next_between, script_between, command_between}
use Rattle.heap_tests.proofs.shared.order.Goals as goal

pub next-requires : goal.next-requires
next-requires c = script_between c.args.bundle.now c.args.work.now c.args.number c.requires.work c.requires.here (c.requires.between c.if-not-between.false)

pub begin-requires-clause-valid : goal.begin-requires-clause-valid
begin-requires-clause-valid c =
    (command_between c.args.bundle.now c.args.work.now c.args.number c.in-Some.command c.requires.work c.requires.here (c.requires.between c.if-not-between.false) (sym c.next.ensures.next ∙ c.in-Some.is)).0

pub begin-requires-clause-made : goal.begin-requires-clause-made
begin-requires-clause-made c =
    (command_between c.args.bundle.now c.args.work.now c.args.number c.in-Some.command c.requires.work c.requires.here (c.requires.between c.if-not-between.false) (sym c.next.ensures.next ∙ c.in-Some.is)).1

pub returns-then-not-between : goal.returns-then-not-between
returns-then-not-between c = unordered c.args.bundle.now (next_for c.args.bundle.now.config c.args.work.now c.args.number) c.args.number c.requires.here c.requires.work.orders

pub returns-in-Some : goal.returns-in-Some
returns-in-Some c =
    let next_told = next_between c.args.bundle.now c.args.work.now c.args.number c.requires.here (c.requires.between c.if-not-between.false) ∙ sym c.next.ensures.next ∙ c.in-Some.is in
    subst (λ order. IsOrdered c.args.bundle.now c.begin.new.self order c.args.number) (sym next_told)
    (ordered c.args.bundle.now c.begin.new.self (Some c.in-Some.command) c.args.number c.requires.here (c.requires.between c.if-not-between.false) c.begin.ensures.unmoved c.begin.ensures.order c.begin.ensures.takes)

pub returns-in-None : goal.returns-in-None
returns-in-None c =
    let next_told = next_between c.args.bundle.now c.args.work.now c.args.number c.requires.here (c.requires.between c.if-not-between.false) ∙ sym c.next.ensures.next ∙ c.in-None.is in
    subst (λ order. IsOrdered c.args.bundle.now c.finish.new.self order c.args.number) (sym next_told)
    (ordered c.args.bundle.now c.finish.new.self None c.args.number c.requires.here (c.requires.between c.if-not-between.false) c.finish.ensures.unmoved c.finish.ensures.order c.finish.ensures.takes)
