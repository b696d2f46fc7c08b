use Rattle.std.proofs.Common.{sym, ap, ◌∙◌}
use Rattle.mutator.specs.WaitRows.{call_says}
use Rattle.mutator.proofs.CallKnows.{says_again, part_ready, part_goes}
use Rattle.mutator.proofs.thread.Mutator.resolve.Goals as goal

pub after-at-requires-clause-ready : goal.after-at-requires-clause-ready
after-at-requires-clause-ready c =
    let mutator = c.args.self.now in
    part_ready mutator.config mutator.mutator mutator.made mutator.kept mutator.spot c.args.address c.args.at c.args.next c.requires.at mutator.ready

pub after-at-requires-clause-fit : goal.after-at-requires-clause-fit
after-at-requires-clause-fit c =
    let mutator = c.args.self.now in
    part_goes mutator.config mutator.mutator mutator.kept mutator.spot c.args.address c.args.at c.args.next c.args.got c.requires.at c.requires.fit.1

pub returns-clause-answer : goal.returns-clause-answer
returns-clause-answer c = c.call_says.ensures ∙ ap call_says c.after-at.ensures.says

pub returns-clause-again : goal.returns-clause-again
returns-clause-again c = (
  λ said_again. c.after-at.ensures.again.0 ((says_again _).0 (sym c.call_says.ensures ∙ said_again)),
  λ waits. c.call_says.ensures ∙ (says_again _).1 (c.after-at.ensures.again.1 waits),
)
