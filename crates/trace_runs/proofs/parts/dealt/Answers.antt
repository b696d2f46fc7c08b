use Rattle.std.proofs.Common.{rules, ◌≡◌, suc, ◌+◌, length, ap, sym, ◌∙◌, subst, arith, Some}
use Rattle.std.specs.Prelude.{slice_get}
use Rattle.shen_graph.proofs.Lists.{length_with}
use Rattle.shen_graph.specs.Work.{left_over, parted}
use Rattle.trace_runs.specs.DealtParts.{PartIsReady, AreReady}
use Rattle.trace_runs.specs.declared.load.Load.TheVariants.{Scripted}
use Rattle.trace_runs.specs.DealtParts.Assigned.{scripts as by_scripts}
use Rattle.trace_runs.proofs.Dealing.{ready_part, left_after, one_less}
use Rattle.trace_runs.proofs.Loops.{more_ready}
use Rattle.trace_runs.proofs.parts.dealt.Goals as goal

pub loop-bundle-preserved : goal.loop-bundle-preserved
loop-bundle-preserved c =
    let heap = c.args.heap.now in
    let old_loop = c.loop-bundle.invariant in
    let old = c.loop-bundle.parts.items in
    let now_work = c.loop-bundle.work in
    let workers = c.len-workers.result in
    let bundle = c.in-Some.bundle in
    let step = c.in-Some.ensures.steps in
    let grown = c.in-Ok-push.ensures.items in
    let count = ap length grown ∙ length_with old _ in
    let place : c.len.result ≡ length old = search rules in
    let bundle_there : slice_get c.args.bundles.items (length old) ≡ Some bundle =
    ap (slice_get c.args.bundles.items) (let length_is : length old ≡ length old + 0 = omega arith in length_is) ∙ old_loop.left 0 bundle (ap (λ xs. slice_get xs 0) step.0) in
    record {
      workers_are = old_loop.workers_are;
      count = omega (arith, old_loop.count, step.1, count);
      left = λ index next_bundle next_there.
          ap (slice_get c.args.bundles.items) (let length_is : length c.push.new.self.items + index ≡ length old + suc index = omega (arith, count) in length_is)
          ∙ old_loop.left (suc index) next_bundle (ap (λ xs. slice_get xs (suc index)) step.0 ∙ next_there);
      work_left = λ scripts can_deal.
          c.part.ensures.left ∙ ap (λ number. left_over workers number now_work) place ∙ ap (left_over workers (length old)) (old_loop.work_left scripts can_deal)
          ∙ one_less workers (length old) scripts ∙ ap (λ number. left_after workers number scripts) (sym count);
      ready = λ scripts can_deal.
          more_ready heap (by_scripts scripts) workers old c.push.new.self.items _ grown (old_loop.ready scripts can_deal)
          (subst (λ work_there. PartIsReady heap (by_scripts scripts) workers (length old) (length old + 1) (record { bundle = bundle; load = Scripted work_there })) (sym (c.part.ensures.parted ∙ ap (λ number. parted workers number now_work) place))
          (ready_part heap scripts c.args.work c.args.bundles.items can_deal workers (length old) bundle now_work old_loop.workers_are bundle_there (old_loop.work_left scripts can_deal)));
    }

pub returns-clause-ready : goal.returns-clause-ready
returns-clause-ready c = λ scripts can_deal.
    subst (λ workers. AreReady c.args.heap.now (by_scripts scripts) workers c.loop-bundle.parts.items) c.loop-bundle.invariant.workers_are (c.loop-bundle.invariant.ready scripts can_deal)
