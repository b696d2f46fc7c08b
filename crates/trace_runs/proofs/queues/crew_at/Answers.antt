use Rattle.std.proofs.Common.{◌≡◌, ◌+◌, suc, List, [], ◌∷◌, ◌++◌, sym, ap, ◌∙◌, arith}
use Rattle.managed_queue.specs.Users.{Use}
use Rattle.trace_runs.specs.Queued.{queue_users}
use Rattle.trace_runs.proofs.Crews.{crew_one}
use Rattle.trace_runs.proofs.queues.crew_at.Goals as goal

pub returns-in-Some : goal.returns-in-Some
returns-in-Some c =
    let next_bundle : c.args.bundle + 1 ≡ suc c.args.bundle = omega arith in
    c.push.ensures.items ∙ ap (λ (uses : List Use). uses ++ c.in-Some.user ∷ []) c.new-crew.ensures
    ∙ sym (crew_one (queue_users c.args.count) c.args.bundle (c.args.bundle + 1) c.in-Some.user next_bundle (sym c.user_of.ensures ∙ c.in-Some.is))
