use Rattle.std.proofs.Common.{◌<◌, sym, arith}
use Rattle.regions.proofs.Sums.{sum_none}
use Rattle.cset_choice.specs.Tables.{adds, most_live}
use Rattle.cset_choice.proofs.Objects.{sum_more}
use Rattle.cset_choice.proofs.Choosing.{adds_few}
use Rattle.cset_choice.proofs.choice.live_up_to.Goals as goal

pub loop-other-init : goal.loop-other-init
loop-other-init c = record { value = sym (sum_none (adds c.args.live.now c.args.candidates c.args.region)); bound = omega arith }

pub loop-other-preserved : goal.loop-other-preserved
loop-other-preserved c =
    let live = c.args.live.now in
    let earlier_region = c.loop-other.other in
    let few_regions = c.args.config.in_range.most_regions in
    let region_few : earlier_region < 64 = omega (arith, c.loop-other-test.true, c.regions-other-end.ensures, few_regions) in
    let sum_small = adds_few live c.args.candidates c.args.region earlier_region most_live (c.requires.small earlier_region region_few) in
    record {
      value = sum_more (adds live c.args.candidates c.args.region) earlier_region c.loop-other.words c.added-words.result c.loop-other.invariant.value c.added-words.ensures;
      bound = omega (arith, c.loop-other.invariant.bound, sum_small, c.added-words.ensures);
    }
