use Rattle.std.proofs.Common.{◌≡◌, ℕ, ◌+◌, sym, subst, arith}
use borrow.Author.Count.{below_more}
use Rattle.heap_words.specs.declared.config.Config.{Config}
use Rattle.heap_words.specs.Words.{Word, Heap, IsWord}
use Rattle.image_graph.specs.State.{config_of, memory_of}
use Rattle.image_graph.specs.Laid.{IsReference}
use Rattle.image_graph.proofs.ObjectAddresses.{read, placed}
use Rattle.image_graph.proofs.objects.are_fields_right.Goals as goal

pub heap_at-requires : goal.heap_at-requires
heap_at-requires c =
    subst (λ (config : Config). IsWord config (Heap (c.args.address + 3 + c.loop-index.index))) (sym c.config-config.ensures) (c.requires.inside c.loop-index.index c.loop-index-test.true)

pub word-requires : goal.word-requires
word-requires c =
    placed _ _ (Heap (c.args.address + 3 + c.loop-index.index)) _ c.config-config.ensures (c.requires.inside c.loop-index.index c.loop-index-test.true) c.heap_at.ensures

pub loop-index-preserved : goal.loop-index-preserved
loop-index-preserved c =
    let memory : Word → ℕ = memory_of c.args.image.now in
    let index = c.loop-index.index in
    let word : c.word.result ≡ memory (Heap (c.args.address + 3 + index)) =
    read (config_of c.args.image.now) _ memory (Heap (c.args.address + 3 + index)) _ _ c.config-config.ensures (c.requires.inside index c.loop-index-test.true) c.heap_at.ensures c.word.ensures.named in
    below_more (λ (field : ℕ). IsReference c.args.objects.now (memory (Heap (c.args.address + 3 + field)))) index c.loop-index.invariant
    (subst (IsReference c.args.objects.now) word (c.is_reference.ensures c.if-not-is_reference.false))

pub returns : goal.returns
returns c = λ _ index index_below. c.loop-index.invariant index (omega (arith, index_below, c.loop-index-test.false))
