use Rattle.std.proofs.Common.{ℕ, map, ap, ◌∙◌}
use Rattle.std.specs.List.{range_with_len}
use Rattle.heap_words.specs.Words.{Word, Count, Buffer}
use Rattle.heap_world.specs.Walk.{with_addresses}
use Rattle.image_graph.specs.State.{memory_of, found_of}
use Rattle.image_graph.proofs.Same.{memory_same, both}
use Rattle.mark_core.proofs.Listed.{entries_more}
use Rattle.mark_core.proofs.trace.find_all_entries.Goals as goal

pub loop-mutator-preserved : goal.loop-mutator-preserved
loop-mutator-preserved c =
    let mutator = c.loop-mutator.mutator in
    let old = c.args.image.now in
    let current_image = c.loop-mutator.image in
    let unchanged_image = c.loop-mutator.invariant.unchanged in
    let memory : Word → ℕ = memory_of old in
    record {
      unchanged = both old current_image c.find_entries.new.image unchanged_image c.find_entries.ensures.unchanged;
      found = c.find_entries.ensures.found;
      noted = c.find_entries.ensures.noted
          ∙ ap (λ (memory : Word → ℕ). with_addresses (found_of current_image) (map (λ entry. memory (Buffer mutator entry)) (range_with_len 0 (memory (Count mutator))))) (memory_same old current_image unchanged_image)
          ∙ ap (λ addresses. with_addresses addresses (map (λ entry. memory (Buffer mutator entry)) (range_with_len 0 (memory (Count mutator))))) c.loop-mutator.invariant.noted
          ∙ entries_more memory mutator (found_of old);
    }
