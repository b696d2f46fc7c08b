use Rattle.std.proofs.Common.{◌<◌, length, ap, arith}
use Rattle.std.proofs.lemmas.List.{length-append}
use Rattle.trace_runs.proofs.load.gathered.Goals as goal

pub push-requires : goal.push-requires
push-requires c =
    let now_length = length-append c.loop-others.crew.items c.loop-others.others.items in
    let first_length = length-append c.args.crew.items c.args.others.items in
    let same_length = ap length c.loop-others.invariant in
    let length_low = c.requires in
    let one_removed = c.remove.ensures.len in
    let room : length c.loop-others.crew.items < 8 = omega (arith, now_length, first_length, same_length, length_low, one_removed) in
    (omega arith, room)
