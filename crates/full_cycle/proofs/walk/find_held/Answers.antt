use Rattle.std.proofs.Common.{◌≡◌, ◌<◌, ℕ, [], slice_get, Some, None, sym, ap, ◌∙◌, arith}
use Rattle.std.proofs.lemmas.Option.{slice_get_within}
use Rattle.shen_graph.proofs.Lists.{index_past_end}
use Rattle.shen_graph.proofs.Options.{none_if_never}
use Rattle.heap_words.specs.declared.config.Config.{Config}
use Rattle.heap_words.specs.Words.{Word, heap_size}
use Rattle.heap_world.specs.Walk.{with_addresses}
use Rattle.heap_world.proofs.TakenDown as marks
use Rattle.image_graph.specs.Full.{copies_of, roots_below, answers_below, field_words, kept_in}
use Rattle.image_graph.specs.Pinned.{pins_below}
use Rattle.image_graph.specs.State.{config_of, memory_of, found_of, marks_of}
use Rattle.full_cycle.specs.Collect.{found_in_turns}
use Rattle.image_graph.proofs.Same.{memory_same, carried, both}
use Rattle.full_cycle.proofs.Listed.{no_turn, next_turn, last_turn}
use Rattle.full_cycle.proofs.walk.find_held.Goals as goal

pub loop-address-init : goal.loop-address-init
loop-address-init c =
    let old = c.args.image.now in
    let config = config_of old in
    let memory : Word → ℕ = memory_of old in
    let forgotten = c.forget_found.new.self in
    let roots_found = c.find_all_roots.new.image in
    let answers_found = c.find_answers.new.image in
    let four = c.find_all_pins.new.image in
    let to_one = c.forget_found.ensures.unchanged in
    let to_two = both old forgotten roots_found to_one c.find_all_roots.ensures.unchanged in
    let to_three = both old roots_found answers_found to_two c.find_answers.ensures.unchanged in
    let to_four = both old answers_found four to_three c.find_all_pins.ensures.unchanged in
    let roots : found_of roots_found ≡ with_addresses [] (copies_of memory (roots_below memory config.mutators)) =
    c.find_all_roots.ensures.noted
    ∙ ap (λ (memory : Word → ℕ). with_addresses (found_of forgotten) (copies_of memory (roots_below memory (config_of forgotten).mutators))) (memory_same old forgotten to_one)
    ∙ ap (λ (config : Config). with_addresses (found_of forgotten) (copies_of memory (roots_below memory config.mutators))) to_one.config
    ∙ ap (λ xs. with_addresses xs (copies_of memory (roots_below memory config.mutators))) c.forget_found.ensures.none in
    let answers : found_of answers_found ≡ with_addresses (with_addresses [] (copies_of memory (roots_below memory config.mutators))) (copies_of memory (answers_below memory config.mutators)) =
    c.find_answers.ensures.noted
    ∙ ap (λ (memory : Word → ℕ). with_addresses (found_of roots_found) (copies_of memory (answers_below memory (config_of roots_found).mutators))) (memory_same old roots_found to_two)
    ∙ ap (λ (config : Config). with_addresses (found_of roots_found) (copies_of memory (answers_below memory config.mutators))) to_two.config
    ∙ ap (λ xs. with_addresses xs (copies_of memory (answers_below memory config.mutators))) roots in
    record {
      unchanged = to_four;
      found = c.find_all_pins.ensures.found;
      turns = c.find_all_pins.ensures.noted
          ∙ ap (λ (memory : Word → ℕ). with_addresses (found_of answers_found) (copies_of memory (pins_below memory (config_of answers_found).mutators))) (memory_same old answers_found to_three)
          ∙ ap (λ (config : Config). with_addresses (found_of answers_found) (copies_of memory (pins_below memory config.mutators))) to_three.config
          ∙ ap (λ xs. with_addresses xs (copies_of memory (pins_below memory config.mutators))) answers
          ∙ no_turn config memory;
      few = omega arith;
    }

pub find_fields-requires-clause-kept : goal.find_fields-requires-clause-kept
find_fields-requires-clause-kept c =
    let old = c.args.image.now in
    let now = c.loop-address.image in
    let address = c.in-Some.address in
    let turn = c.loop-address.turn in
    let address_there : slice_get (found_in_turns (config_of old) (memory_of old) turn) turn ≡ Some address =
    sym (ap (λ xs. slice_get xs turn) c.loop-address.invariant.turns) ∙ sym c.in-Some.ensures in
    carried (λ config memory. 0 < kept_in config memory address) old now c.loop-address.invariant.unchanged (c.requires.found turn address address_there)

pub loop-address-smaller : goal.loop-address-smaller
loop-address-smaller c =
    let now = c.loop-address.image in
    let within = slice_get_within (found_of now) c.loop-address.turn c.in-Some.address (sym c.in-Some.ensures) in
    let few = marks.few (config_of now).region_words (marks_of now) (found_of now) c.loop-address.invariant.found in
    omega (arith, within, few, now.all_marks, ap heap_size c.loop-address.invariant.unchanged.config)

pub loop-address-preserved : goal.loop-address-preserved
loop-address-preserved c =
    let old = c.args.image.now in
    let now = c.loop-address.image in
    let address = c.in-Some.address in
    let turn = c.loop-address.turn in
    let memory : Word → ℕ = memory_of old in
    let unchanged = c.loop-address.invariant.unchanged in
    let address_there : slice_get (found_in_turns (config_of old) memory turn) turn ≡ Some address = sym (ap (λ xs. slice_get xs turn) c.loop-address.invariant.turns) ∙ sym c.in-Some.ensures in
    let within = slice_get_within (found_of now) turn address (sym c.in-Some.ensures) in
    let few = marks.few (config_of now).region_words (marks_of now) (found_of now) c.loop-address.invariant.found in
    record {
      unchanged = both old now c.find_fields.new.image unchanged c.find_fields.ensures.unchanged;
      found = c.find_fields.ensures.found;
      turns = c.find_fields.ensures.noted
          ∙ ap (λ (memory : Word → ℕ). with_addresses (found_of now) (copies_of memory (field_words memory address))) (memory_same old now unchanged)
          ∙ ap (λ xs. with_addresses xs (copies_of memory (field_words memory address))) c.loop-address.invariant.turns
          ∙ next_turn (config_of old) memory turn address address_there;
      few = omega (arith, within, few, now.all_marks, ap heap_size unchanged.config);
    }

pub returns-clause-held : goal.returns-clause-held
returns-clause-held c =
    let old = c.args.image.now in
    let memory : Word → ℕ = memory_of old in
    let turn = c.loop-address.turn in
    let turns = c.loop-address.invariant.turns in
    let none_left : slice_get (found_of c.loop-address.image) turn ≡ None = sym c.found_at.ensures ∙ none_if_never c.found_at.result c.in_default.not-Some in
    turns ∙ last_turn (config_of old) memory turn (index_past_end (found_in_turns (config_of old) memory turn) turn (ap (λ xs. slice_get xs turn) (sym turns) ∙ none_left)) c.loop-address.invariant.few
