use Rattle.std.proofs.Common.{◌≡◌, ◌<◌, ◌+◌, ℕ, map, sym, ap, ◌∙◌, subst, arith}
use Rattle.std.specs.List.{range_with_len}
use Rattle.heap_words.specs.declared.config.Config.{Config}
use Rattle.heap_words.specs.Words.{Word, Heap, IsWord, word_at}
use Rattle.heap_words.specs.Encoding.{refs_in}
use Rattle.heap_world.specs.Walk.{with_addresses}
use Rattle.image_graph.specs.Full.{copies_of}
use Rattle.image_graph.specs.State.{config_of, memory_of, found_of}
use Rattle.image_graph.proofs.NamedStores.{placed_inside}
use Rattle.full_cycle.specs.Collect.{LeadsToHeld}
use Rattle.image_graph.proofs.Same.{memory_same, carried, both}
use Rattle.full_cycle.proofs.Kept.{field_word, noted_step}
use Rattle.full_cycle.proofs.walk.find_fields.Goals as goal

pub heap_at-requires : goal.heap_at-requires
heap_at-requires c =
    subst (λ config. IsWord config (Heap (c.args.address + 1))) (sym c.config-config.ensures)
    (field_word (config_of c.args.image.now) (memory_of c.args.image.now) c.requires.can c.args.address 1 c.requires.kept (omega arith))

pub word-requires : goal.word-requires
word-requires c =
    placed_inside (config_of c.args.image.now) (config_of c.args.image.now) (Heap (c.args.address + 1)) c.heap_at.result (λ i. config_of c.args.image.now)
    (field_word (config_of c.args.image.now) (memory_of c.args.image.now) c.requires.can c.args.address 1 c.requires.kept (omega arith))
    (c.heap_at.ensures ∙ ap (λ (config : Config). word_at config (Heap (c.args.address + 1))) c.config-config.ensures)

pub heap_at-requires-in-loop-index : goal.heap_at-requires-in-loop-index
heap_at-requires-in-loop-index c =
    let address = c.args.address in
    let i = c.loop-index.index in
    let old = c.args.image.now in
    let config = config_of old in
    let memory : Word → ℕ = memory_of old in
    let shape : c.word.result ≡ memory (Heap (address + 1)) =
    c.word.ensures.named (Heap (address + 1)) (field_word config memory c.requires.can address 1 c.requires.kept (omega arith))
    (ap (λ (config : Config). word_at config (Heap (address + 1))) (sym c.config-config.ensures) ∙ sym c.heap_at.ensures) in
    let refs : c.refs_of-refs.result ≡ refs_in (memory (Heap (address + 1))) = c.refs_of-refs.ensures ∙ ap refs_in shape in
    let few : i < refs_in (memory (Heap (address + 1))) = omega (arith, refs, c.loop-index-test.true) in
    let index : address + (3 + i) ≡ address + 3 + i = omega arith in
    let heap_word : IsWord config (Heap (address + 3 + i)) = subst (λ address. IsWord config (Heap address)) index (field_word config memory c.requires.can address (3 + i) c.requires.kept (omega (arith, few))) in
    subst (λ any_config. IsWord any_config (Heap (address + 3 + i))) (sym c.config-config.ensures) heap_word

pub word-word-requires : goal.word-word-requires
word-word-requires c =
    let address = c.args.address in
    let i = c.loop-index.index in
    let old = c.args.image.now in
    let config = config_of old in
    let memory : Word → ℕ = memory_of old in
    let shape : c.word.result ≡ memory (Heap (address + 1)) =
    c.word.ensures.named (Heap (address + 1)) (field_word config memory c.requires.can address 1 c.requires.kept (omega arith))
    (ap (λ (config : Config). word_at config (Heap (address + 1))) (sym c.config-config.ensures) ∙ sym c.heap_at.ensures) in
    let refs : c.refs_of-refs.result ≡ refs_in (memory (Heap (address + 1))) = c.refs_of-refs.ensures ∙ ap refs_in shape in
    let few : i < refs_in (memory (Heap (address + 1))) = omega (arith, refs, c.loop-index-test.true) in
    let index : address + (3 + i) ≡ address + 3 + i = omega arith in
    let heap_word : IsWord config (Heap (address + 3 + i)) = subst (λ address. IsWord config (Heap address)) index (field_word config memory c.requires.can address (3 + i) c.requires.kept (omega (arith, few))) in
    placed_inside (config_of c.loop-index.image) config (Heap (address + 3 + i)) c.heap_at-in-loop-index.result c.loop-index.invariant.unchanged.config heap_word
    (c.heap_at-in-loop-index.ensures ∙ ap (λ (config : Config). word_at config (Heap (address + 3 + i))) c.config-config.ensures)

pub find_copy-requires-clause-leads : goal.find_copy-requires-clause-leads
find_copy-requires-clause-leads c =
    let address = c.args.address in
    let i = c.loop-index.index in
    let old = c.args.image.now in
    let config = config_of old in
    let memory : Word → ℕ = memory_of old in
    let shape : c.word.result ≡ memory (Heap (address + 1)) =
    c.word.ensures.named (Heap (address + 1)) (field_word config memory c.requires.can address 1 c.requires.kept (omega arith))
    (ap (λ (config : Config). word_at config (Heap (address + 1))) (sym c.config-config.ensures) ∙ sym c.heap_at.ensures) in
    let refs : c.refs_of-refs.result ≡ refs_in (memory (Heap (address + 1))) = c.refs_of-refs.ensures ∙ ap refs_in shape in
    let few : i < refs_in (memory (Heap (address + 1))) = omega (arith, refs, c.loop-index-test.true) in
    let index : address + (3 + i) ≡ address + 3 + i = omega arith in
    let heap_word : IsWord config (Heap (address + 3 + i)) = subst (λ address. IsWord config (Heap address)) index (field_word config memory c.requires.can address (3 + i) c.requires.kept (omega (arith, few))) in
    let now = c.loop-index.image in
    let unchanged = c.loop-index.invariant.unchanged in
    let value : c.word-word.result ≡ memory_of now (Heap (address + 3 + i)) =
    c.word-word.ensures.named (Heap (address + 3 + i)) (subst (λ any_config. IsWord any_config (Heap (address + 3 + i))) (sym unchanged.config) heap_word)
    (ap (λ (config : Config). word_at config (Heap (address + 3 + i))) (unchanged.config ∙ sym c.config-config.ensures) ∙ sym c.heap_at-in-loop-index.ensures) in
    subst (LeadsToHeld (config_of now) (memory_of now)) (sym value)
    (carried (λ any_config any_memory. LeadsToHeld any_config any_memory (any_memory (Heap (address + 3 + i)))) old now unchanged (c.requires.can.fields address i c.requires.kept few))

pub loop-index-preserved : goal.loop-index-preserved
loop-index-preserved c =
    let address = c.args.address in
    let i = c.loop-index.index in
    let old = c.args.image.now in
    let config = config_of old in
    let memory : Word → ℕ = memory_of old in
    let shape : c.word.result ≡ memory (Heap (address + 1)) =
    c.word.ensures.named (Heap (address + 1)) (field_word config memory c.requires.can address 1 c.requires.kept (omega arith))
    (ap (λ (config : Config). word_at config (Heap (address + 1))) (sym c.config-config.ensures) ∙ sym c.heap_at.ensures) in
    let refs : c.refs_of-refs.result ≡ refs_in (memory (Heap (address + 1))) = c.refs_of-refs.ensures ∙ ap refs_in shape in
    let few : i < refs_in (memory (Heap (address + 1))) = omega (arith, refs, c.loop-index-test.true) in
    let index : address + (3 + i) ≡ address + 3 + i = omega arith in
    let heap_word : IsWord config (Heap (address + 3 + i)) = subst (λ address. IsWord config (Heap address)) index (field_word config memory c.requires.can address (3 + i) c.requires.kept (omega (arith, few))) in
    let now = c.loop-index.image in
    let unchanged = c.loop-index.invariant.unchanged in
    let value : c.word-word.result ≡ memory_of now (Heap (address + 3 + i)) =
    c.word-word.ensures.named (Heap (address + 3 + i)) (subst (λ given. IsWord given (Heap (address + 3 + i))) (sym unchanged.config) heap_word)
    (ap (λ (config : Config). word_at config (Heap (address + 3 + i))) (unchanged.config ∙ sym c.config-config.ensures) ∙ sym c.heap_at-in-loop-index.ensures) in
    let found : c.word-word.result ≡ memory (Heap (address + 3 + i)) = value ∙ ap (λ given. given (Heap (address + 3 + i))) (memory_same old now unchanged) in
    record {
      unchanged = both old now c.find_copy.new.image unchanged c.find_copy.ensures.unchanged;
      found = c.find_copy.ensures.found;
      noted = noted_step old now c.find_copy.new.image (λ field. memory (Heap (address + 3 + field))) i c.word-word.result unchanged c.loop-index.invariant.noted found c.find_copy.ensures.noted;
    }

pub returns-clause-noted : goal.returns-clause-noted
returns-clause-noted c =
    let address = c.args.address in
    let old = c.args.image.now in
    let config = config_of old in
    let memory : Word → ℕ = memory_of old in
    let shape : c.word.result ≡ memory (Heap (address + 1)) =
    c.word.ensures.named (Heap (address + 1)) (field_word config memory c.requires.can address 1 c.requires.kept (omega arith))
    (ap (λ (config : Config). word_at config (Heap (address + 1))) (sym c.config-config.ensures) ∙ sym c.heap_at.ensures) in
    let refs : c.refs_of-refs.result ≡ refs_in (memory (Heap (address + 1))) = c.refs_of-refs.ensures ∙ ap refs_in shape in
    let all_fields : c.loop-index.index ≡ refs_in (memory (Heap (address + 1))) = omega (arith, refs, c.loop-index-test.false, c.loop-index.auto.index-end) in
    c.loop-index.invariant.noted
    ∙ ap (λ count. with_addresses (found_of old) (copies_of memory (map (λ index. memory (Heap (address + 3 + index))) (range_with_len 0 count)))) all_fields
