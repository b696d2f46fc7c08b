use Rattle.std.proofs.Common.{sym, arith}
use Rattle.find_search.specs.Courses.{short_script}
use Rattle.find_search.proofs.Handed.{can_run_on, script_valid, script_short}
use Rattle.find_search.proofs.course.Course.go_on.Goals as goal

pub next-requires : goal.next-requires
next-requires c = c.args.self.now.can_run.jobs_are c.args.mutator (omega (arith, c.if-mutator-mutators.false, c.mutators.ensures))

pub invariant_of-self-in-None : goal.invariant_of-self-in-None
invariant_of-self-in-None c =
    let plain = c.args.self.now.plain in
    let short = script_short c.next-next.result in
    record {
      can_run = can_run_on plain c.args.mutator (short_script c.next-next.result) c.args.self.now.work c.hand_over.new.work c.args.self.now.can_run plain.config.in_range.most_mutators
          (omega (arith, c.if-mutator-mutators.false, c.mutators.ensures)) (sym c.in-None.ensures.next) c.in_ok-hand_over-in-None.ensures.ok (script_valid c.next-next.result c.next-next.ensures.valid)
          (omega (arith, short, c.if-made-ge-MOST_MADE.false, c.made-made.ensures));
    }
