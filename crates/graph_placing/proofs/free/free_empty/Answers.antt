use Rattle.std.proofs.Common.{◌≡◌, ◌≤◌, ◌+◌, ◌^◌, ℕ, sym, ap, ◌∙◌, arith}
use Rattle.std.proofs.Math.Nat.{pow-le-pow_right}
use Rattle.heap_words.specs.declared.config.Config.{Config}
use Rattle.heap_words.specs.Words.{Top, Free, write}
use Rattle.image_graph.specs.Full.{empty_regions}
use Rattle.image_graph.proofs.FreeWord.{empty_small}
use Rattle.image_graph.specs.State.{config_of, memory_of}
use Rattle.image_graph.proofs.NamedStores.{stored}
use Rattle.graph_placing.proofs.FreeRegions.{empty_none, empty_more}
use Rattle.graph_placing.proofs.free.free_empty.Goals as goal

pub loop-region-init : goal.loop-region-init
loop-region-init c = empty_none (λ region. memory_of c.args.image.now (Top region))

pub overflow_add-free : goal.overflow_add-free
overflow_add-free c =
    let top : ℕ → ℕ = λ other_region. memory_of c.args.image.now (Top other_region) in
    let region = c.loop-region.region in
    let sum = empty_more top region c.set_if_empty-free.result c.loop-region.free c.top.result c.top.ensures c.set_if_empty-free.ensures c.loop-region.invariant in
    let set_small = empty_small top (region + 1) in
    let few_regions : region + 1 ≤ 64 = omega (arith, c.loop-region-test.true, c.regions-region-end.ensures, ap (λ (config : Config). config.regions) c.config-config.ensures, (config_of c.args.image.now).in_range.most_regions) in
    let power : 2 ^ (region + 1) ≤ 2 ^ 64 = pow-le-pow_right (omega arith) few_regions in
    omega (arith, sum, set_small, power)

pub loop-region-preserved : goal.loop-region-preserved
loop-region-preserved c =
    empty_more (λ region. memory_of c.args.image.now (Top region)) c.loop-region.region c.set_if_empty-free.result c.loop-region.free c.top.result c.top.ensures
    c.set_if_empty-free.ensures c.loop-region.invariant

pub returns-clause-words : goal.returns-clause-words
returns-clause-words c =
    let old = c.args.image.now in
    let config = config_of old in
    let top : ℕ → ℕ = λ region. memory_of old (Top region) in
    let all_regions : c.loop-region.region ≡ config.regions =
    omega (arith, c.loop-region-test.false, c.loop-region.auto.region-end, c.regions-region-end.ensures, ap (λ (config : Config). config.regions) c.config-config.ensures) in
    let free_words : c.loop-region.free ≡ empty_regions top config.regions = c.loop-region.invariant ∙ ap (empty_regions top) all_regions in
    stored config c.config-config.result (memory_of old) (memory_of c.set_word.new.self) Free c.free_at.result c.loop-region.free (sym c.config-config.ensures) tt c.free_at.ensures c.set_word.ensures.named
    ∙ ap (write (memory_of old) Free) free_words
