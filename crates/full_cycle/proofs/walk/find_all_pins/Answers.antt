use Rattle.std.proofs.Common.{ℕ, map, ap, ◌∙◌}
use Rattle.std.specs.List.{range_with_len}
use Rattle.heap_words.specs.Words.{Word, Pin}
use Rattle.heap_world.specs.Walk.{with_addresses}
use Rattle.image_graph.specs.Full.{copies_of}
use Rattle.image_graph.specs.State.{memory_of, found_of}
use Rattle.image_graph.proofs.Same.{memory_same, both}
use Rattle.full_cycle.proofs.Listed.{pins_more}
use Rattle.full_cycle.proofs.walk.find_all_pins.Goals as goal

pub loop-mutator-preserved : goal.loop-mutator-preserved
loop-mutator-preserved c =
    let mutator = c.loop-mutator.mutator in
    let old = c.args.image.now in
    let now = c.loop-mutator.image in
    let unchanged = c.loop-mutator.invariant.unchanged in
    let memory : Word → ℕ = memory_of old in
    record {
      unchanged = both old now c.find_pins.new.image unchanged c.find_pins.ensures.unchanged;
      found = c.find_pins.ensures.found;
      noted = c.find_pins.ensures.noted
          ∙ ap (λ (memory : Word → ℕ). with_addresses (found_of now) (copies_of memory (map (λ slot. memory (Pin mutator slot)) (range_with_len 0 4)))) (memory_same old now unchanged)
          ∙ ap (λ xs. with_addresses xs (copies_of memory (map (λ slot. memory (Pin mutator slot)) (range_with_len 0 4)))) c.loop-mutator.invariant.noted
          ∙ pins_more memory mutator (found_of old);
    }
