use Rattle.std.proofs.Common.{◌≡◌, ◌<◌, map, sym, ap, ◌∙◌, arith}
use Rattle.std.specs.List.{range_with_len}
use Rattle.heap_words.specs.declared.config.Config.{Config}
use Rattle.heap_words.specs.Words.{Pin, word_at}
use Rattle.heap_world.specs.Walk.{with_addresses}
use Rattle.image_graph.specs.State.{memory_of, found_of}
use Rattle.image_graph.proofs.Same.{memory_same, both}
use Rattle.mark_core.proofs.Listed.{noted_step}
use Rattle.mark_core.proofs.begin.find_pins.Goals as goal

pub loop-slot-preserved : goal.loop-slot-preserved
loop-slot-preserved c =
    let mutator = c.args.mutator in
    let slot = c.loop-slot.slot in
    let old = c.args.image.now in
    let image_now = c.loop-slot.image in
    let unchanged = c.loop-slot.invariant.unchanged in
    let slot_below : slot < 4 = c.loop-slot-test.true in
    let value : c.word-word.result ≡ memory_of image_now (Pin mutator slot) =
    c.word-word.ensures.named (Pin mutator slot) (omega (arith, c.requires.mutator, ap (λ (config : Config). config.mutators) unchanged.config), slot_below)
    (ap (λ (config : Config). word_at config (Pin mutator slot)) (unchanged.config ∙ sym c.config-config.ensures) ∙ sym c.pin_at.ensures) in
    record {
      unchanged = both old image_now c.find.new.self unchanged c.find.ensures.unchanged;
      found = c.find.ensures.found;
      noted = noted_step (found_of old) (found_of image_now) (found_of c.find.new.self) (λ slot. memory_of old (Pin mutator slot)) slot c.word-word.result c.loop-slot.invariant.noted
          (value ∙ ap (λ memory_then. memory_then (Pin mutator slot)) (memory_same old image_now unchanged)) c.find.ensures.noted;
    }

pub returns-clause-noted : goal.returns-clause-noted
returns-clause-noted c =
    let old = c.args.image.now in
    let all_slots : c.loop-slot.slot ≡ 4 = omega (arith, c.loop-slot-test.false, c.loop-slot.auto.slot-end) in
    c.loop-slot.invariant.noted ∙ ap (λ count. with_addresses (found_of old) (map (λ slot. memory_of old (Pin c.args.mutator slot)) (range_with_len 0 count))) all_slots
