use Rattle.std.proofs.Common.{◌+◌, ◌*◌, ◌^◌, if◌then◌else◌, sym, ap, ◌∙◌}
use Rattle.image_graph.proofs.RegionSets.{bit_joined}
use Rattle.image_graph.proofs.sets.with_if.Goals as goal

pub returns-then-member : goal.returns-then-member
returns-then-member c =
    bit_joined c.args.set c.args.region c.requires.region c.requires.below ∙ ap (λ member. (if member then 1 else 0) * 2 ^ c.args.region + c.args.set) (sym c.if-member.true)
