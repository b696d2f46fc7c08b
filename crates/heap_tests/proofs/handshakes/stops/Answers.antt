use Rattle.heap_tests.proofs.handshakes.stops.Goals as goal

pub place-place-requires : goal.place-place-requires
place-place-requires g c = cc

pub plan-requires : goal.plan-requires
plan-requires g c = cc

pub took-requires : goal.took-requires
took-requires g c = cc
