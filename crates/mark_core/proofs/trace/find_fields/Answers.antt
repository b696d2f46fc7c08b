use Rattle.std.proofs.Common.{◌≡◌, ◌<◌, ◌+◌, ℕ, map, sym, ap, ◌∙◌, subst, arith}
use Rattle.std.specs.List.{range_with_len}
use Rattle.heap_words.specs.declared.config.Config.{Config}
use Rattle.heap_words.specs.Words.{Word, Heap, IsWord, word_at}
use Rattle.heap_words.specs.Encoding.{refs_in}
use Rattle.heap_world.specs.Walk.{with_addresses}
use Rattle.image_graph.specs.State.{config_of, memory_of, found_of}
use Rattle.mark_core.specs.Trace.{IsNullOrInside}
use Rattle.image_graph.proofs.Same.{memory_same, carried, both}
use Rattle.mark_core.proofs.Listed.{noted_step}
use Rattle.mark_core.proofs.Tracing.{part_inside, field_inside}
use Rattle.mark_core.proofs.trace.find_fields.Goals as goal

pub find-requires-clause-inside : goal.find-requires-clause-inside
find-requires-clause-inside c =
    let address = c.args.address in
    let field = c.loop-index.index in
    let old = c.args.image.now in
    let config = config_of old in
    let memory : Word → ℕ = memory_of old in
    let same_shape : c.word.result ≡ memory (Heap (address + 1)) =
    c.word.ensures.named (Heap (address + 1)) (part_inside config memory c.requires.can address 1 c.requires.traced (omega arith))
    (ap (λ (config : Config). word_at config (Heap (address + 1))) (sym c.config-config.ensures) ∙ sym c.heap_at.ensures) in
    let same_refs : c.refs_of-refs.result ≡ refs_in (memory (Heap (address + 1))) = c.refs_of-refs.ensures ∙ ap refs_in same_shape in
    let field_below : field < refs_in (memory (Heap (address + 1))) = omega (arith, same_refs, c.loop-index-test.true) in
    let same_place : address + (3 + field) ≡ address + 3 + field = omega arith in
    let field_word : IsWord config (Heap (address + 3 + field)) = subst (λ address. IsWord config (Heap address)) same_place (part_inside config memory c.requires.can address (3 + field) c.requires.traced (omega (arith, field_below))) in
    let current_image = c.loop-index.image in
    let unchanged_image = c.loop-index.invariant.unchanged in
    let value : c.word-word.result ≡ memory_of current_image (Heap (address + 3 + field)) =
    c.word-word.ensures.named (Heap (address + 3 + field)) (subst (λ given_config. IsWord given_config (Heap (address + 3 + field))) (sym unchanged_image.config) field_word)
    (ap (λ (config : Config). word_at config (Heap (address + 3 + field))) (unchanged_image.config ∙ sym c.config-config.ensures) ∙ sym c.heap_at-in-loop-index.ensures) in
    subst (IsNullOrInside (config_of current_image)) (sym value)
    (carried (λ given_config memory_then. IsNullOrInside given_config (memory_then (Heap (address + 3 + field)))) old current_image unchanged_image (field_inside config memory c.requires.can address field c.requires.traced c.requires.open field_below))

pub loop-index-preserved : goal.loop-index-preserved
loop-index-preserved c =
    let address = c.args.address in
    let field = c.loop-index.index in
    let old = c.args.image.now in
    let config = config_of old in
    let memory : Word → ℕ = memory_of old in
    let same_shape : c.word.result ≡ memory (Heap (address + 1)) =
    c.word.ensures.named (Heap (address + 1)) (part_inside config memory c.requires.can address 1 c.requires.traced (omega arith))
    (ap (λ (config : Config). word_at config (Heap (address + 1))) (sym c.config-config.ensures) ∙ sym c.heap_at.ensures) in
    let same_refs : c.refs_of-refs.result ≡ refs_in (memory (Heap (address + 1))) = c.refs_of-refs.ensures ∙ ap refs_in same_shape in
    let field_below : field < refs_in (memory (Heap (address + 1))) = omega (arith, same_refs, c.loop-index-test.true) in
    let same_place : address + (3 + field) ≡ address + 3 + field = omega arith in
    let field_word : IsWord config (Heap (address + 3 + field)) = subst (λ address. IsWord config (Heap address)) same_place (part_inside config memory c.requires.can address (3 + field) c.requires.traced (omega (arith, field_below))) in
    let current_image = c.loop-index.image in
    let unchanged_image = c.loop-index.invariant.unchanged in
    let value : c.word-word.result ≡ memory_of current_image (Heap (address + 3 + field)) =
    c.word-word.ensures.named (Heap (address + 3 + field)) (subst (λ given_config. IsWord given_config (Heap (address + 3 + field))) (sym unchanged_image.config) field_word)
    (ap (λ (config : Config). word_at config (Heap (address + 3 + field))) (unchanged_image.config ∙ sym c.config-config.ensures) ∙ sym c.heap_at-in-loop-index.ensures) in
    record {
      unchanged = both old current_image c.find.new.self unchanged_image c.find.ensures.unchanged;
      found = c.find.ensures.found;
      noted = noted_step (found_of old) (found_of current_image) (found_of c.find.new.self) (λ offset. memory (Heap (address + 3 + offset))) field c.word-word.result c.loop-index.invariant.noted
          (value ∙ ap (λ memory_then. memory_then (Heap (address + 3 + field))) (memory_same old current_image unchanged_image)) c.find.ensures.noted;
    }

pub returns-clause-noted : goal.returns-clause-noted
returns-clause-noted c =
    let address = c.args.address in
    let old = c.args.image.now in
    let config = config_of old in
    let memory : Word → ℕ = memory_of old in
    let same_shape : c.word.result ≡ memory (Heap (address + 1)) =
    c.word.ensures.named (Heap (address + 1)) (part_inside config memory c.requires.can address 1 c.requires.traced (omega arith))
    (ap (λ (config : Config). word_at config (Heap (address + 1))) (sym c.config-config.ensures) ∙ sym c.heap_at.ensures) in
    let same_refs : c.refs_of-refs.result ≡ refs_in (memory (Heap (address + 1))) = c.refs_of-refs.ensures ∙ ap refs_in same_shape in
    let all_fields : c.loop-index.index ≡ refs_in (memory (Heap (address + 1))) = omega (arith, same_refs, c.loop-index-test.false, c.loop-index.auto.index-end) in
    c.loop-index.invariant.noted ∙ ap (λ count. with_addresses (found_of old) (map (λ field. memory (Heap (address + 3 + field))) (range_with_len 0 count))) all_fields
