use Rattle.std.proofs.Common.{rules, ◌≡◌, suc, ◌+◌, length, ap, ◌∙◌, arith, refl, Some}
use Rattle.std.specs.Prelude.{slice_get}
use Rattle.shen_graph.proofs.Lists.{length_with}
use Rattle.trace_runs.specs.DealtParts.{crew_of}
use Rattle.trace_runs.specs.DealtParts.Assigned.{users}
use Rattle.trace_runs.specs.Queued.{queue_users}
use Rattle.trace_runs.proofs.Queued.{crewed_part}
use Rattle.trace_runs.proofs.Loops.{more_ready}
use Rattle.trace_runs.proofs.queues.crewed.Goals as goal

pub loop-bundle-preserved : goal.loop-bundle-preserved
loop-bundle-preserved c =
    let old_loop = c.loop-bundle.invariant in
    let all_bundles = c.args.bundles.items in
    let old = c.loop-bundle.parts.items in
    let bundle = c.in-Some.bundle in
    let step = c.in-Some.ensures.steps in
    let grown = c.in-Ok-push.ensures.items in
    let count = ap length grown ∙ length_with old _ in
    let place : c.len.result ≡ length old = search rules in
    let bundle_there : slice_get all_bundles (length old) ≡ Some bundle =
    ap (slice_get all_bundles) (let length_is : length old ≡ length old + 0 = omega arith in length_is) ∙ old_loop.left 0 bundle (ap (λ xs. slice_get xs 0) step.0) in
    record {
      count = omega (arith, old_loop.count, step.1, count);
      left = λ index next_bundle next_there.
          ap (slice_get all_bundles) (let length_is : length c.push.new.self.items + index ≡ length old + suc index = omega (arith, count) in length_is)
          ∙ old_loop.left (suc index) next_bundle (ap (λ xs. slice_get xs (suc index)) step.0 ∙ next_there);
      ready = λ heap can_crew.
          more_ready heap (users (queue_users c.args.count)) (length all_bundles) old c.push.new.self.items _ grown (old_loop.ready heap can_crew)
          (crewed_part heap c.args.count all_bundles (length all_bundles) (length old) bundle c.crew_at.result c.requires can_crew refl bundle_there (c.crew_at.ensures ∙ ap (λ number. crew_of (queue_users c.args.count) number (number + 1)) place));
    }
