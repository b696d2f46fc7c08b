use Rattle.std.proofs.Common.{◌≡◌, Bool, false, ap, sym, ◌∙◌}
use Rattle.shen_graph.specs.declared.command.Reply.{Reply}
use Rattle.shen_graph.specs.declared.command.Reply.TheVariants.{Full}
use Rattle.shen_graph.specs.contracts.command.ReplyPartialEq.TheImpl.{eq-value}
use Rattle.shen_graph.specs.Noting.{seen}
use Rattle.shen_graph.specs.PlainGraph.{graph_of}
use Rattle.shen_check.proofs.Accepted.{answered}
use Rattle.shen_check.proofs.judge.Judge.may_answer.Goals as goal

no_full : (reply : Reply) (told : Bool) → told ≡ eq-value.it reply Full → told ≡ false → reply ≡ Full → ⊥
no_full reply told told_is not_told reply_full = let not_full = sym not_told ∙ told_is ∙ ap (λ (reply : Reply). eq-value.it reply Full) reply_full in absurd cc

pub returns-clause-answer : goal.returns-clause-answer
returns-clause-answer c =
    answered c.args.config.now (graph_of c.args.self.now.graph) (graph_of c.accept.new.self) c.args.self.now.work (seen c.args.entry) c.regions.result c.region_words.result c.accept.result _ c.regions.ensures c.region_words.ensures
    (no_full c.args.entry.reply c.eq.result c.eq.ensures c.if-eq.false) c.accept.ensures.ok
