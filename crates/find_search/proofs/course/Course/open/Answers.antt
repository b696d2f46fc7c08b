use Rattle.std.proofs.Common.{sym, ap, subst, ◌∙◌, arith}
use Rattle.heap_words.specs.declared.config.Config.{Config}
use Rattle.step_core.specs.Opening.{opening}
use Rattle.shen_core.specs.State.{Shows}
use Rattle.shen_core.specs.Progress.{CanRun, IsRunnable}
use Rattle.shen_core.proofs.Fresh.{can_run_first}
use Rattle.find_search.proofs.course.Course.open.Goals as goal

pub invariant_of-course-2 : goal.invariant_of-course-2
invariant_of-course-2 c =
    let plain = c.in_ok-open.field-0 in
    let scripts = c.in_ok-empty_scripts.field-0.items in
    let same_config = c.in_ok-open.ensures.config in
    let mutators = ap (λ (config : Config). config.mutators) same_config in
    let count = c.in_ok-empty_scripts.ensures.count in
    let few_mutators = c.args.test.now.config.in_range.most_mutators in
    let can_run = can_run_first plain scripts (subst (λ (config : Config). Shows plain (opening config)) (sym same_config) c.in_ok-open.ensures.opening) c.in_ok-open.ensures.orders
    (omega (arith, mutators, count, c.mutators-mutators.ensures)) (omega (arith, count, c.mutators-mutators.ensures, few_mutators))
    (λ place otherwise place_below. subst IsRunnable (sym (c.in_ok-empty_scripts.ensures.empty place otherwise place_below)) ((λ index fallback index_below. absurd (omega (arith, index_below))), omega arith)) in
    record { can_run = subst (CanRun plain) (sym (c.work.view_is ∙ c.in-Ok.ensures)) can_run }
