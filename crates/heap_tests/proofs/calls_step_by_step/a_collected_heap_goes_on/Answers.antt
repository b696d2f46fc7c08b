use Rattle.std.proofs.Common.{◌≡◌, sym, ◌∙◌, subst}
use Rattle.heap_words.specs.declared.config.Config.{Config}
use Rattle.step_core.specs.Actor.{fresh_control}
use Rattle.step_core.specs.Opening.{first_free}
use Rattle.shen_core.specs.State.{machines_of, machine_at}
use Rattle.heap_tests.proofs.LeftAtRest.{opened_begins, opened_control}
use Rattle.heap_tests.proofs.calls_step_by_step.a_collected_heap_goes_on.Goals as goal

pub make-requires-clause-rest : goal.make-requires-clause-rest
make-requires-clause-rest g c =
    let config = c.in_ok-config.config in
    opened_begins config (machines_of c.in_ok-plain.plain) c.in_ok-plain.ensures.opening.machines_are c.in_ok-config.ensures.mutators c.in_ok-config.ensures.helpers

pub collected-requires-clause-control : goal.collected-requires-clause-control
collected-requires-clause-control g c =
    let config = c.in_ok-config.config in
    c.make-2.ensures.others 1 (λ same_number. cc) ∙ c.make.ensures.others 1 (λ same_number. cc)
    ∙ subst (λ (config : Config). machine_at c.in_ok-plain.plain 1 ≡ fresh_control (first_free config.regions)) (sym (c.make-2.ensures.config ∙ c.make.ensures.config ∙ c.in_ok-plain.ensures.config))
    (opened_control config (machines_of c.in_ok-plain.plain) c.in_ok-plain.ensures.opening.machines_are c.in_ok-config.ensures.mutators c.in_ok-config.ensures.helpers)
