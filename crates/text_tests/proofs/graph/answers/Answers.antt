use Rattle.std.proofs.Common.{◌≤◌, ◌+◌, ◌∙◌, arith, refl, sym, subst}
use Rattle.std.specs.Prelude.{ℕ}
use Rattle.shen_graph.specs.PlainGraph.{graph_of}
use Rattle.text_tests.proofs.Counts.{answers_le}
use Rattle.text_tests.proofs.graph.answers.Goals as goal

pub loop-command-init : goal.loop-command-init
loop-command-init g c = record { threads = refl; made = λ thread. omega arith }

pub apply-requires-clause-thread : goal.apply-requires-clause-thread
apply-requires-clause-thread g c = subst (λ (threads : ℕ). (1 ≤ c.args.thread) × (c.args.thread ≤ threads)) (sym c.loop-command.invariant.threads) c.requires.thread

pub apply-requires-clause-count : goal.apply-requires-clause-count
apply-requires-clause-count g c = omega (arith, c.loop-command.invariant.made c.args.thread)

pub loop-command-preserved : goal.loop-command-preserved
loop-command-preserved g c = record {
  threads = c.in_ok-reply.ensures.threads ∙ c.loop-command.invariant.threads;
  made = λ thread.
      let one_more : (graph_of c.apply.new.self).count thread ≤ (graph_of c.loop-command.plain).count thread + 1 =
      answers_le (graph_of c.loop-command.plain) (graph_of c.apply.new.self) c.args.thread _ c.in_ok-reply.reply c.in_ok-reply.ensures.ok thread in
      omega (arith, c.loop-command.invariant.made thread);
}

pub returns-in_err-reply-clause-threads : goal.returns-in_err-reply-clause-threads
returns-in_err-reply-clause-threads g c = c.in_err-reply.ensures.threads ∙ c.loop-command.invariant.threads

pub returns-in_err-push-clause-threads : goal.returns-in_err-push-clause-threads
returns-in_err-push-clause-threads g c = c.in_ok-reply.ensures.threads ∙ c.loop-command.invariant.threads

pub returns-clause-threads : goal.returns-clause-threads
returns-clause-threads g c = c.loop-command.invariant.threads

pub returns-clause-made : goal.returns-clause-made
returns-clause-made g c = λ thread. omega (arith, c.loop-command.invariant.made thread)
