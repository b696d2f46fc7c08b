use Rattle.std.proofs.Common.{◌≡◌, ◌<◌, map, sym, ap, ◌∙◌, subst, arith}
use Rattle.std.specs.List.{range_with_len}
use Rattle.heap_words.specs.declared.config.Config.{Config}
use Rattle.heap_words.specs.Words.{Root, word_at}
use Rattle.heap_world.specs.Walk.{with_addresses}
use Rattle.image_graph.specs.Full.{copies_of}
use Rattle.image_graph.specs.State.{config_of, memory_of, found_of}
use Rattle.full_cycle.specs.Collect.{LeadsToHeld}
use Rattle.image_graph.proofs.Same.{memory_same, carried, both}
use Rattle.full_cycle.proofs.Kept.{noted_step}
use Rattle.full_cycle.proofs.walk.find_roots.Goals as goal

pub find_copy-requires-clause-leads : goal.find_copy-requires-clause-leads
find_copy-requires-clause-leads c =
    let mutator = c.args.mutator in
    let index = c.loop-index.index in
    let old = c.args.image.now in
    let now = c.loop-index.image in
    let unchanged = c.loop-index.invariant.unchanged in
    let few : index < 16 = c.loop-index-test.true in
    let value : c.word-word.result ≡ memory_of now (Root mutator index) =
    c.word-word.ensures.named (Root mutator index) (omega (arith, c.requires.mutator, ap (λ (config : Config). config.mutators) unchanged.config), few)
    (ap (λ (config : Config). word_at config (Root mutator index)) (unchanged.config ∙ sym c.config-config.ensures) ∙ sym c.root_at.ensures) in
    subst (LeadsToHeld (config_of now) (memory_of now)) (sym value)
    (carried (λ any_config memory. LeadsToHeld any_config memory (memory (Root mutator index))) old now unchanged (c.requires.can.roots mutator index c.requires.mutator few))

pub loop-index-preserved : goal.loop-index-preserved
loop-index-preserved c =
    let mutator = c.args.mutator in
    let index = c.loop-index.index in
    let old = c.args.image.now in
    let now = c.loop-index.image in
    let unchanged = c.loop-index.invariant.unchanged in
    let few : index < 16 = c.loop-index-test.true in
    let value : c.word-word.result ≡ memory_of now (Root mutator index) =
    c.word-word.ensures.named (Root mutator index) (omega (arith, c.requires.mutator, ap (λ (config : Config). config.mutators) unchanged.config), few)
    (ap (λ (config : Config). word_at config (Root mutator index)) (unchanged.config ∙ sym c.config-config.ensures) ∙ sym c.root_at.ensures) in
    let same_word : c.word-word.result ≡ memory_of old (Root mutator index) = value ∙ ap (λ memory. memory (Root mutator index)) (memory_same old now unchanged) in
    record {
      unchanged = both old now c.find_copy.new.image unchanged c.find_copy.ensures.unchanged;
      found = c.find_copy.ensures.found;
      noted = noted_step old now c.find_copy.new.image (λ index. memory_of old (Root mutator index)) index c.word-word.result unchanged c.loop-index.invariant.noted same_word c.find_copy.ensures.noted;
    }

pub returns-clause-noted : goal.returns-clause-noted
returns-clause-noted c =
    let old = c.args.image.now in
    let all_roots : c.loop-index.index ≡ 16 = omega (arith, c.loop-index-test.false, c.loop-index.auto.index-end) in
    c.loop-index.invariant.noted
    ∙ ap (λ count. with_addresses (found_of old) (copies_of (memory_of old) (map (λ index. memory_of old (Root c.args.mutator index)) (range_with_len 0 count)))) all_roots
