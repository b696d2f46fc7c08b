use Rattle.std.proofs.Common.{refl, arith}
use Rattle.trace_reading.specs.Spelling.{spaced_item}
use Rattle.trace_text.proofs.AnswerLemmas.{puts_next, puts_all}
use Rattle.trace_text.proofs.CanonicalLemmas.{each_fits}
use Rattle.trace_text.proofs.trace.put_items.Goals as goal

pub put_item-requires : goal.put_item-requires
put_item-requires g c = each_fits c.args.config.now c.args.items.now c.loop-item.item-index _ (omega arith) c.requires

pub loop-item-preserved : goal.loop-item-preserved
loop-item-preserved g c =
    puts_next spaced_item c.args.items.now c.loop-item.item-index _ _ (omega arith) refl c.loop-item.invariant c.put_item.ensures

pub returns : goal.returns
returns g c = puts_all spaced_item c.args.items.now c.loop-item.item-index c.loop-item-test.false c.loop-item.invariant
