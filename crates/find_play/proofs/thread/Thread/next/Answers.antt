use Rattle.std.proofs.Common.{sym, arith}
use Rattle.find_play.specs.Meaning.{Gave, Went}
use Rattle.find_play.proofs.Steps.{stopped, returned}
use Rattle.find_play.proofs.thread.Thread.next.Goals as goal

pub moves-preserved-in-Goes : goal.moves-preserved-in-Goes
moves-preserved-in-Goes c = λ next end runs. c.moves.invariant next end (Went c.moves.self.at c.moves.self.left c.in-Goes.at next end (sym c.in-Goes.ensures.moves) runs)

pub returns-in-Gives : goal.returns-in-Gives
returns-in-Gives c =
    c.moves.invariant c.in-Gives.next (record { at = c.in-Gives.at; left = c.moves.self.left }) (Gave c.moves.self.at c.moves.self.left c.in-Gives.at c.in-Gives.next (sym c.in-Gives.ensures.moves))

pub returns-then-self-eq0 : goal.returns-then-self-eq0
returns-then-self-eq0 c =
    c.moves.invariant _ c.moves.self (stopped c.args.program.now c.args.reply c.moves.self.at c.moves.self.left c.in-Back.first (sym c.in-Back.ensures.moves) (omega (arith, c.if-self-eq0.true)))

pub moves-preserved : goal.moves-preserved
moves-preserved c = λ next end runs. c.moves.invariant next end (returned c.args.program.now c.args.reply c.moves.self.at c.moves.self.left c.in-Back.first (sym c.in-Back.ensures.moves) (omega (arith, c.if-self-eq0.false)) next end runs)
