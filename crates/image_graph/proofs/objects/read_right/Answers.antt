use Rattle.std.proofs.Common.{ℕ, get_or, arith}
use borrow.Author.Count.{below_more}
use Rattle.image_graph.specs.State.{config_of, memory_of}
use Rattle.image_graph.specs.Laid.{ReadsRight}
use Rattle.image_graph.proofs.ObjectAddresses.{inside}
use Rattle.image_graph.proofs.objects.read_right.Goals as goal

pub reads_right-requires-clause-lies : goal.reads_right-requires-clause-lies
reads_right-requires-clause-lies c = c.requires.lie c.loop-address.address-index c.loop-address-test.true

pub reads_right-requires-clause-inside : goal.reads_right-requires-clause-inside
reads_right-requires-clause-inside c =
    inside (config_of c.args.image.now) (memory_of c.args.image.now) _ _ c.requires.tops (c.requires.lie c.loop-address.address-index c.loop-address-test.true)

pub loop-address-preserved : goal.loop-address-preserved
loop-address-preserved c =
    below_more (λ (index : ℕ). ReadsRight (config_of c.args.image.now) (memory_of c.args.image.now) c.args.objects.now (get_or c.args.objects.now index 0)) c.loop-address.address-index
    c.loop-address.invariant (c.reads_right.ensures c.if-not-reads_right.false)

pub returns : goal.returns
returns c = λ _ index index_below. c.loop-address.invariant index (omega (arith, index_below, c.loop-address-test.false))
