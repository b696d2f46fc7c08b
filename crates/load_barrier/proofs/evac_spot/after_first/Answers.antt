use Rattle.std.proofs.Common.{arith, sym}
use Rattle.load_barrier.proofs.SmallAddresses.{address_small, filler_small}
use Rattle.load_barrier.proofs.evac_spot.after_first.Goals as goal

pub overflow_add-address : goal.overflow_add-address
overflow_add-address c =
    let address_fits = address_small c.args.config c.args.address c.requires in
    let words_small = filler_small c.args.header c.in-Some.words (omega (arith, c.ranges.header)) (sym c.in-Some.ensures) in
    omega (arith, address_fits, words_small)
