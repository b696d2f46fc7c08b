use Rattle.std.proofs.Common.{ℕ, ◌≡◌, ◌+◌, ◌<◌, length, get_or, ap, arith}
use Rattle.std.proofs.lemmas.Grind.{common_steps}
use Rattle.std.proofs.lemmas.List.{get_or_read}
use Rattle.shen_graph.specs.declared.command.Reply.{Reply}
use Rattle.shen_graph.specs.declared.command.Reply.TheVariants as reply
use Rattle.shen_graph.proofs.PlainLemmas.{count-graph_of}
use Rattle.shen_graph.proofs.plain_graph.PlainGraph.answer.Goals as goal

pub overflow_add-result : goal.overflow_add-result
overflow_add-result c =
    let within : c.args.thread < length c.self.inside.counts.items = grind (arith, common_steps) in
    let count : c.index.result.now ≡ get_or c.self.inside.counts.items c.args.thread 0 = get_or_read c.self.inside.counts.items c.args.thread c.index.result.now within c.index.ensures 0 in
    omega (arith, rw (count-graph_of, ← c.self.view_is) at c.requires.count)

pub returns-in-New : goal.returns-in-New
returns-in-New c =
    let within : c.args.thread < length c.self.inside.counts.items = grind (arith, common_steps) in
    let count : c.index.result.now ≡ get_or c.self.inside.counts.items c.args.thread 0 = get_or_read c.self.inside.counts.items c.args.thread c.index.result.now within c.index.ensures 0 in
    rw (c.in-New.is, count-graph_of, ← c.self.view_is) (ap (λ (number : ℕ). let told_reply : Reply = reply.Ref (record { thread = c.args.thread; count = number + 1 }) in told_reply) count)
