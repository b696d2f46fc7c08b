use Rattle.std.proofs.Common.{◌≡◌, ℕ, [], ap, ◌∙◌}
use Rattle.heap_words.specs.declared.config.Config.{Config}
use Rattle.heap_words.specs.Words.{Word}
use Rattle.heap_world.specs.Walk.{with_addresses}
use Rattle.image_graph.specs.Full.{roots_below, answers_below, root_words}
use Rattle.image_graph.specs.Pinned.{pins_below}
use Rattle.image_graph.proofs.FoundInTurn.{noted_both}
use Rattle.image_graph.specs.State.{config_of, memory_of, found_of}
use Rattle.image_graph.proofs.Same.{memory_same, both}
use Rattle.mark_core.proofs.begin.find_all_held.Goals as goal

pub returns-clause-held : goal.returns-clause-held
returns-clause-held c =
    let old = c.args.image.now in
    let config = config_of old in
    let memory : Word → ℕ = memory_of old in
    let emptied_image = c.forget_found.new.self in
    let roots_image = c.find_all_roots.new.image in
    let answers_image = c.find_answers.new.image in
    let to_one = c.forget_found.ensures.unchanged in
    let to_two = both old emptied_image roots_image to_one c.find_all_roots.ensures.unchanged in
    let to_three = both old roots_image answers_image to_two c.find_answers.ensures.unchanged in
    let roots : found_of roots_image ≡ with_addresses [] (roots_below memory config.mutators) =
    c.find_all_roots.ensures.noted
    ∙ ap (λ (memory : Word → ℕ). with_addresses (found_of emptied_image) (roots_below memory (config_of emptied_image).mutators)) (memory_same old emptied_image to_one)
    ∙ ap (λ (config : Config). with_addresses (found_of emptied_image) (roots_below memory config.mutators)) to_one.config
    ∙ ap (λ found_list. with_addresses found_list (roots_below memory config.mutators)) c.forget_found.ensures.none in
    let named : found_of answers_image ≡ with_addresses [] (root_words config memory) =
    c.find_answers.ensures.noted
    ∙ ap (λ (memory : Word → ℕ). with_addresses (found_of roots_image) (answers_below memory (config_of roots_image).mutators)) (memory_same old roots_image to_two)
    ∙ ap (λ (config : Config). with_addresses (found_of roots_image) (answers_below memory config.mutators)) to_two.config
    ∙ ap (λ found_list. with_addresses found_list (answers_below memory config.mutators)) roots
    ∙ noted_both [] (roots_below memory config.mutators) (answers_below memory config.mutators) in
    c.find_all_pins.ensures.noted
    ∙ ap (λ (memory : Word → ℕ). with_addresses (found_of answers_image) (pins_below memory (config_of answers_image).mutators)) (memory_same old answers_image to_three)
    ∙ ap (λ (config : Config). with_addresses (found_of answers_image) (pins_below memory config.mutators)) to_three.config
    ∙ ap (λ found_list. with_addresses found_list (pins_below memory config.mutators)) named
    ∙ noted_both [] (root_words config memory) (pins_below memory config.mutators)
