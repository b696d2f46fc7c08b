use Rattle.find_play.proofs.Blocks.{loop_found, loop_goes_on, loops_end}
use Rattle.find_play.proofs.draft.has_loop.Goals as goal

pub returns-then-is_loop : goal.returns-then-is_loop
returns-then-is_loop c = loop_found _ c.args.blocks.now c.loop-block.block-index _ c.loop-block-test.true c.if-is_loop.ensures c.loop-block.invariant

pub loop-block-preserved : goal.loop-block-preserved
loop-block-preserved c = loop_goes_on _ c.args.blocks.now c.loop-block.block-index _ c.loop-block-test.true c.if-is_loop.ensures c.loop-block.invariant

pub returns : goal.returns
returns c = loops_end c.args.blocks.now c.loop-block.block-index _ c.loop-block-test.false c.loop-block.invariant
