use Rattle.std.proofs.Common.{ℕ, get_or, arith}
use borrow.Author.Count.{below_more}
use Rattle.image_graph.specs.State.{config_of, memory_of}
use Rattle.image_graph.specs.Laid.{LiesRight}
use Rattle.image_graph.proofs.objects.lie_right.Goals as goal

pub lies_right-requires : goal.lies_right-requires
lies_right-requires c = c.requires

pub loop-address-preserved : goal.loop-address-preserved
loop-address-preserved c =
    below_more (λ (index : ℕ). LiesRight (config_of c.args.image.now) (memory_of c.args.image.now) c.args.objects.now (get_or c.args.objects.now index 0)) c.loop-address.address-index
    c.loop-address.invariant (c.lies_right.ensures c.if-not-lies_right.false)

pub returns : goal.returns
returns c = λ _ index index_below. c.loop-address.invariant index (omega (arith, index_below, c.loop-address-test.false))
