use Rattle.std.proofs.lemmas.Bool.{true_from_ne_false}
use Rattle.std.proofs.Common.{sym, arith}
use Rattle.step_core.specs.Machines.{is_resting}
use Rattle.shen_core.specs.State.{machine_at}
use Rattle.find_search.proofs.Handed.{rests}
use Rattle.find_search.proofs.course.Course.is_resting.Goals as goal

pub next-requires : goal.next-requires
next-requires c = c.args.self.now.can_run.jobs_are c.args.mutator (omega (arith, c.if-mutator-mutators.false, c.mutators.ensures))

pub returns-in-None : goal.returns-in-None
returns-in-None c = λ _.
    true_from_ne_false (is_resting (machine_at c.args.self.now.plain c.args.mutator))
    (rests c.args.self.now.plain c.args.self.now.work c.args.mutator c.args.self.now.can_run (omega (arith, c.if-mutator-mutators.false, c.mutators.ensures)) (sym c.in-None.ensures.next))
