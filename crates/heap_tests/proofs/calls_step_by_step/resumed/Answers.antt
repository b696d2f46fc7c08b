use Rattle.std.proofs.Common.{◌≡◌, ℕ, sym, subst}
use Rattle.heap_words.specs.declared.config.Config.{Config}
use Rattle.image_graph.specs.State as images
use Rattle.step_core.specs.Actor.{fresh_control}
use Rattle.step_core.specs.Opening.{first_free}
use Rattle.shen_core.specs.State.{config_of, machines_of, machine_at}
use Rattle.heap_tests.proofs.LeftAtRest.{LeftGraph, opened_rests, opened_made, opened_control}
use Rattle.heap_tests.proofs.calls_step_by_step.resumed.Goals as goal

pub image_of-requires-clause-rest : goal.image_of-requires-clause-rest
image_of-requires-clause-rest c = opened_rests c.args.config (machines_of c.in_ok-plain.plain) c.in_ok-plain.ensures.opening.machines_are c.requires.seats.0 c.requires.seats.1

pub image_of-requires-clause-control : goal.image_of-requires-clause-control
image_of-requires-clause-control c = subst (λ (config : Config). machine_at c.in_ok-plain.plain 1 ≡ fresh_control (first_free config.regions)) (sym c.in_ok-plain.ensures.config)
    (opened_control c.args.config (machines_of c.in_ok-plain.plain) c.in_ok-plain.ensures.opening.machines_are c.requires.seats.0 c.requires.seats.1)

pub goes_on-requires-clause-stands : goal.goes_on-requires-clause-stands
goes_on-requires-clause-stands c =
    let image = c.in_ok-image.image in
    let made = opened_made c.args.config (machines_of c.in_ok-plain.plain) c.in_ok-plain.ensures.opening.machines_are c.requires.seats.0 c.requires.seats.1 in
    subst (λ (config : Config). ∥ LeftGraph config (images.memory_of image) 0 ∥₁) (sym c.in_ok-image.ensures.config)
    (subst (λ (n : ℕ). ∥ LeftGraph (config_of c.in_ok-plain.plain) (images.memory_of image) n ∥₁) made c.in_ok-image.ensures.stands)
