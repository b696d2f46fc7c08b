use Rattle.std.proofs.Common.{ℕ, ◌+◌, ap, sym, ◌∙◌, arith}
use Rattle.find_play.proofs.Jumps.{part_goes_on, part_ends, none_left, one_on, nothing_on}
use Rattle.find_play.proofs.thread.behind.Goals as goal

pub returns-in-None-clause-behind : goal.returns-in-None-clause-behind
returns-in-None-clause-behind c =
    let part_end = part_ends c.args.part c.statements.depth c.statements.at _ c.args.program.now c.statements-test.true (sym c.in-None.ensures.depth) in
    ap (λ (n : ℕ). c.statements.at + n) (sym part_end) ∙ c.statements.invariant.0

pub statements-preserved : goal.statements-preserved
statements-preserved c =
    let part_further = part_goes_on c.args.part c.statements.depth c.in-Some.inner c.statements.at _ c.args.program.now c.statements-test.true (sym c.in-Some.ensures.depth) in (
      one_on c.statements.at _ _ _ part_further c.statements.invariant.0,
      omega (arith, c.in-Some.ensures.near, c.statements.invariant.1),
      omega (arith, c.statements.invariant.2),
      omega (arith, c.statements-test.true),
    )

pub returns-clause-behind : goal.returns-clause-behind
returns-clause-behind c = nothing_on c.statements.at _ _ (none_left c.args.part c.statements.depth c.statements.at c.args.program.now c.statements-test.false) c.statements.invariant.0
