use Rattle.std.proofs.Common.{arith}
use Rattle.table_heap.proofs.Thieves.{none_changed, in_more, config_still, steal_still, one_steals}
use Rattle.table_heap.proofs.sharing.share_hints.Goals as goal

pub loop-other-init : goal.loop-other-init
loop-other-init c = record { more = none_changed c.args.bundles.now.items; steal = λ place stealing_bundle own_bundle bundle_under other_bundle bundle_there place_read. absurd (omega (arith, bundle_under)) }

pub share_with-requires-clause-heap : goal.share_with-requires-clause-heap
share_with-requires-clause-heap c = (c.requires.heap.0, config_still c.requires.heap.0 c.args.bundles.now.items c.loop-other.bundles.items c.loop-other.invariant.more c.requires.heap.1)

pub returns-in_err-share_with-clause-more : goal.returns-in_err-share_with-clause-more
returns-in_err-share_with-clause-more c = in_more c.args.bundles.now.items c.loop-other.bundles.items c.share_with.new.bundles.items c.loop-other.invariant.more c.share_with.ensures.more

pub loop-other-preserved : goal.loop-other-preserved
loop-other-preserved c = record {
  more = in_more c.args.bundles.now.items c.loop-other.bundles.items c.share_with.new.bundles.items c.loop-other.invariant.more c.share_with.ensures.more;
  steal = one_steals c.loop-other.other c.args.bundle c.share_with.new.bundles.items
      (steal_still c.loop-other.other c.args.bundle c.loop-other.bundles.items c.share_with.new.bundles.items c.share_with.ensures.more c.loop-other.invariant.steal) c.in_ok-share_with.ensures.steals;
}
