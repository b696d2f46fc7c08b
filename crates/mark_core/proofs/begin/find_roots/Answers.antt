use Rattle.std.proofs.Common.{◌≡◌, ◌<◌, map, sym, ap, ◌∙◌, arith}
use Rattle.std.specs.List.{range_with_len}
use Rattle.heap_words.specs.declared.config.Config.{Config}
use Rattle.heap_words.specs.Words.{Root, word_at}
use Rattle.heap_world.specs.Walk.{with_addresses}
use Rattle.image_graph.specs.State.{memory_of, found_of}
use Rattle.image_graph.proofs.Same.{memory_same, both}
use Rattle.mark_core.proofs.Listed.{noted_step}
use Rattle.mark_core.proofs.begin.find_roots.Goals as goal

pub loop-index-preserved : goal.loop-index-preserved
loop-index-preserved c =
    let mutator = c.args.mutator in
    let index = c.loop-index.index in
    let old = c.args.image.now in
    let image_now = c.loop-index.image in
    let unchanged = c.loop-index.invariant.unchanged in
    let index_below : index < 16 = c.loop-index-test.true in
    let value : c.word-word.result ≡ memory_of image_now (Root mutator index) =
    c.word-word.ensures.named (Root mutator index) (omega (arith, c.requires.mutator, ap (λ (config : Config). config.mutators) unchanged.config), index_below)
    (ap (λ (config : Config). word_at config (Root mutator index)) (unchanged.config ∙ sym c.config-config.ensures) ∙ sym c.root_at.ensures) in
    record {
      unchanged = both old image_now c.find.new.self unchanged c.find.ensures.unchanged;
      found = c.find.ensures.found;
      noted = noted_step (found_of old) (found_of image_now) (found_of c.find.new.self) (λ index. memory_of old (Root mutator index)) index c.word-word.result c.loop-index.invariant.noted
          (value ∙ ap (λ memory_then. memory_then (Root mutator index)) (memory_same old image_now unchanged)) c.find.ensures.noted;
    }

pub returns-clause-noted : goal.returns-clause-noted
returns-clause-noted c =
    let old = c.args.image.now in
    let all_roots : c.loop-index.index ≡ 16 = omega (arith, c.loop-index-test.false, c.loop-index.auto.index-end) in
    c.loop-index.invariant.noted ∙ ap (λ count. with_addresses (found_of old) (map (λ index. memory_of old (Root c.args.mutator index)) (range_with_len 0 count))) all_roots
