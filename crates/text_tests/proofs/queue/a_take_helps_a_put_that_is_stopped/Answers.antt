use Rattle.std.proofs.Common.{◌≤◌, ◌+◌, ◌∙◌, arith}
use Rattle.shen_graph.specs.PlainGraph.{graph_of}
use Rattle.text_tests.proofs.Counts.{answers_le}
use Rattle.text_tests.proofs.queue.a_take_helps_a_put_that_is_stopped.Goals as goal

pub loop-row-preserved : goal.loop-row-preserved
loop-row-preserved g c = record {
  threads = c.in_ok-reply.ensures.threads ∙ c.loop-row.invariant.threads;
  made = λ thread.
      let one_more : (graph_of c.apply.new.self).count thread ≤ (graph_of c.loop-row.plain).count thread + 1 =
      answers_le (graph_of c.loop-row.plain) (graph_of c.apply.new.self) c.thread_of.result _ c.in_ok-reply.reply c.in_ok-reply.ensures.ok thread in
      omega (arith, c.loop-row.invariant.made thread);
}
