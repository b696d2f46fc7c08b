use Rattle.std.proofs.Common.{◌≡◌, ◌<◌, map, sym, ap, ◌∙◌, subst, arith}
use Rattle.std.specs.List.{range_with_len}
use Rattle.heap_words.specs.declared.config.Config.{Config}
use Rattle.heap_words.specs.Words.{Pin, word_at}
use Rattle.heap_world.specs.Walk.{with_addresses}
use Rattle.image_graph.specs.Full.{copies_of}
use Rattle.image_graph.specs.State.{config_of, memory_of, found_of}
use Rattle.full_cycle.specs.Collect.{LeadsToHeld}
use Rattle.image_graph.proofs.Same.{memory_same, carried, both}
use Rattle.full_cycle.proofs.Kept.{noted_step}
use Rattle.full_cycle.proofs.walk.find_pins.Goals as goal

pub find_copy-requires-clause-leads : goal.find_copy-requires-clause-leads
find_copy-requires-clause-leads c =
    let mutator = c.args.mutator in
    let slot = c.loop-slot.slot in
    let old = c.args.image.now in
    let now = c.loop-slot.image in
    let unchanged = c.loop-slot.invariant.unchanged in
    let few : slot < 4 = c.loop-slot-test.true in
    let value : c.word-word.result ≡ memory_of now (Pin mutator slot) =
    c.word-word.ensures.named (Pin mutator slot) (omega (arith, c.requires.mutator, ap (λ (config : Config). config.mutators) unchanged.config), few)
    (ap (λ (config : Config). word_at config (Pin mutator slot)) (unchanged.config ∙ sym c.config-config.ensures) ∙ sym c.pin_at.ensures) in
    subst (LeadsToHeld (config_of now) (memory_of now)) (sym value)
    (carried (λ any_config memory. LeadsToHeld any_config memory (memory (Pin mutator slot))) old now unchanged (c.requires.can.pins mutator slot c.requires.mutator few))

pub loop-slot-preserved : goal.loop-slot-preserved
loop-slot-preserved c =
    let mutator = c.args.mutator in
    let slot = c.loop-slot.slot in
    let old = c.args.image.now in
    let now = c.loop-slot.image in
    let unchanged = c.loop-slot.invariant.unchanged in
    let few : slot < 4 = c.loop-slot-test.true in
    let value : c.word-word.result ≡ memory_of now (Pin mutator slot) =
    c.word-word.ensures.named (Pin mutator slot) (omega (arith, c.requires.mutator, ap (λ (config : Config). config.mutators) unchanged.config), few)
    (ap (λ (config : Config). word_at config (Pin mutator slot)) (unchanged.config ∙ sym c.config-config.ensures) ∙ sym c.pin_at.ensures) in
    let same_word : c.word-word.result ≡ memory_of old (Pin mutator slot) = value ∙ ap (λ memory. memory (Pin mutator slot)) (memory_same old now unchanged) in
    record {
      unchanged = both old now c.find_copy.new.image unchanged c.find_copy.ensures.unchanged;
      found = c.find_copy.ensures.found;
      noted = noted_step old now c.find_copy.new.image (λ slot. memory_of old (Pin mutator slot)) slot c.word-word.result unchanged c.loop-slot.invariant.noted same_word c.find_copy.ensures.noted;
    }

pub returns-clause-noted : goal.returns-clause-noted
returns-clause-noted c =
    let old = c.args.image.now in
    let all_slots : c.loop-slot.slot ≡ 4 = omega (arith, c.loop-slot-test.false, c.loop-slot.auto.slot-end) in
    c.loop-slot.invariant.noted
    ∙ ap (λ count. with_addresses (found_of old) (copies_of (memory_of old) (map (λ slot. memory_of old (Pin c.args.mutator slot)) (range_with_len 0 count)))) all_slots
