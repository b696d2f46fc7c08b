use Rattle.std.proofs.Common.{◌≡◌, ℕ, sym, subst}
use Rattle.std.proofs.Math.Logic.{∥∥₁_map, ∥∥₁_elim}
use Rattle.heap_words.specs.declared.config.Config.{Config}
use Rattle.heap_words.specs.Words.{Word}
use Rattle.image_graph.specs.Holds.{HoldsSized}
use Rattle.image_graph.specs.State as images
use Rattle.step_core.specs.Machines.{made_of_machine}
use Rattle.shen_core.specs.State.{config_of, machine_at}
use Rattle.heap_tests.proofs.LeftAtRest.{LeftGraph, left_holds, left_collected}
use Rattle.heap_tests.proofs.calls_step_by_step.collected.Goals as goal

pub full-requires : goal.full-requires
full-requires c =
    let image = c.in_ok-image.image in
    let made = made_of_machine (machine_at c.args.plain.now 0) in
    let before = subst (λ (config : Config). ∥ LeftGraph config (images.memory_of image) made ∥₁) (sym c.in_ok-image.ensures.config) c.in_ok-image.ensures.stands in
    let prop : IsProp (HoldsSized (images.config_of image) (images.memory_of image)) = hlevel in
    ∥∥₁_elim before prop (λ (left_graph : LeftGraph (images.config_of image) (images.memory_of image) made). left_holds (images.config_of image) (images.memory_of image) made left_graph)

pub goes_on-requires-clause-stands : goal.goes_on-requires-clause-stands
goes_on-requires-clause-stands c =
    let image = c.in_ok-image.image in
    let made = made_of_machine (machine_at c.args.plain.now 0) in
    let config : config_of c.args.plain.now ≡ images.config_of image = sym c.in_ok-image.ensures.config in
    let before = subst (λ (config : Config). ∥ LeftGraph config (images.memory_of image) made ∥₁) config c.in_ok-image.ensures.stands in
    let after = ∥∥₁_map before (λ (left_graph : LeftGraph (images.config_of image) (images.memory_of image) made). left_collected (images.config_of image) (images.memory_of image) made left_graph) in
    subst (λ (n : ℕ). ∥ LeftGraph (images.config_of c.full.new.image) (images.memory_of c.full.new.image) n ∥₁) (sym c.made.ensures)
    (subst (λ (config : Config). ∥ LeftGraph config (images.memory_of c.full.new.image) made ∥₁) (sym c.full.ensures.config)
    (subst (λ (memory : Word → ℕ). ∥ LeftGraph (images.config_of image) memory made ∥₁) (sym c.full.ensures.words) after))
