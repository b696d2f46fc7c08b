use Rattle.std.proofs.Common.{arith}
use Rattle.heap_world.proofs.TakenDown.{room_left, IsMarked-push}
use Rattle.heap_world.proofs.walk.take_down.Goals as goal

pub overflow_cast-taken : goal.overflow_cast-taken
overflow_cast-taken c =
    let address_among = c.requires.among c.if-address-eq0.false in
    omega (arith, address_among.1, c.requires.small)

pub push_reserved-requires : goal.push_reserved-requires
push_reserved-requires c =
    let address_among = c.requires.among c.if-address-eq0.false in
    omega (arith, room_left _ _ _ _ c.requires.marked address_among.0 address_among.1 c.if-not-marks-index.true)

pub returns-then-not-marks-index-clause-marked : goal.returns-then-not-marks-index-clause-marked
returns-then-not-marks-index-clause-marked c =
    let address_among = c.requires.among c.if-address-eq0.false in
    rw c.push_reserved.ensures.items (IsMarked-push _ _ _ _ c.requires.marked address_among.0 address_among.1 c.if-not-marks-index.true)
