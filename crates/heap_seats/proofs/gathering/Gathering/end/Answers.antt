use Rattle.std.proofs.Common.{subst}
use Rattle.heap_seats.specs.Gathered.{heap_begun, AreBegun, AreGatheredIn}
use Rattle.heap_seats.proofs.Together.{all_seats, all_over}
use Rattle.heap_seats.proofs.gathering.Gathering.end.Goals as goal

pub returns-in-Some : goal.returns-in-Some
returns-in-Some c seats are_gathered make_up =
    let begun_heap = c.in-Some.begun in
    let seats_begun : AreBegun seats begun_heap = subst (AreGatheredIn seats) c.in-Some.is are_gathered in
    c.end.ensures seats (seats_begun.together make_up.heap make_up.number) (all_seats (heap_begun begun_heap) seats seats_begun.first seats_begun.there seats_begun.heap make_up) (all_over (heap_begun begun_heap) seats seats_begun.first seats_begun.there seats_begun.heap make_up)
