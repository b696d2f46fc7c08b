use Rattle.std.proofs.Common.{◌≡◌, ℕ, ◌<◌, sym, subst, arith}
use borrow.Author.Count.{below_more}
use Rattle.heap_words.specs.declared.config.Config.{Config}
use Rattle.heap_words.specs.Words.{Word, Root}
use Rattle.image_graph.specs.State.{config_of, memory_of}
use Rattle.image_graph.specs.Laid.{IsReference}
use Rattle.image_graph.proofs.ObjectAddresses.{read, placed}
use Rattle.image_graph.proofs.rest.are_roots_right.Goals as goal

pub root_at-requires : goal.root_at-requires
root_at-requires c = (subst (λ (config : Config). c.args.mutator < config.mutators) (sym c.config-config.ensures) c.requires, c.loop-index-test.true)

pub word-requires : goal.word-requires
word-requires c = placed _ _ (Root c.args.mutator c.loop-index.index) _ c.config-config.ensures (c.requires, c.loop-index-test.true) c.root_at.ensures

pub loop-index-preserved : goal.loop-index-preserved
loop-index-preserved c =
    let memory : Word → ℕ = memory_of c.args.image.now in
    let index = c.loop-index.index in
    let word : c.word.result ≡ memory (Root c.args.mutator index) =
    read (config_of c.args.image.now) _ memory (Root c.args.mutator index) _ _ c.config-config.ensures (c.requires, c.loop-index-test.true) c.root_at.ensures c.word.ensures.named in
    below_more (λ (index : ℕ). IsReference c.args.objects.now (memory (Root c.args.mutator index))) index c.loop-index.invariant
    (subst (IsReference c.args.objects.now) word (c.is_reference.ensures c.if-not-is_reference.false))

pub returns : goal.returns
returns c = λ _ index index_below. c.loop-index.invariant index (omega (arith, index_below, c.loop-index-test.false))
