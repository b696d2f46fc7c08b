use Rattle.std.proofs.Common.{ℕ, map, ap, ◌∙◌}
use Rattle.std.specs.List.{range_with_len}
use Rattle.heap_words.specs.Words.{Word, Pin}
use Rattle.heap_world.specs.Walk.{with_addresses}
use Rattle.image_graph.specs.State.{memory_of, found_of}
use Rattle.image_graph.proofs.Same.{memory_same, both}
use Rattle.mark_core.proofs.Listed.{pins_more}
use Rattle.mark_core.proofs.begin.find_all_pins.Goals as goal

pub loop-mutator-preserved : goal.loop-mutator-preserved
loop-mutator-preserved c =
    let mutator = c.loop-mutator.mutator in
    let old = c.args.image.now in
    let image_now = c.loop-mutator.image in
    let unchanged = c.loop-mutator.invariant.unchanged in
    let memory : Word → ℕ = memory_of old in
    record {
      unchanged = both old image_now c.find_pins.new.image unchanged c.find_pins.ensures.unchanged;
      found = c.find_pins.ensures.found;
      noted = c.find_pins.ensures.noted
          ∙ ap (λ (memory : Word → ℕ). with_addresses (found_of image_now) (map (λ slot. memory (Pin mutator slot)) (range_with_len 0 4))) (memory_same old image_now unchanged)
          ∙ ap (λ found_list. with_addresses found_list (map (λ slot. memory (Pin mutator slot)) (range_with_len 0 4))) c.loop-mutator.invariant.noted
          ∙ pins_more memory mutator (found_of old);
    }
