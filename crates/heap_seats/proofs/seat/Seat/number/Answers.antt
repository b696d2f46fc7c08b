use Rattle.std.proofs.Common.{ap, ◌∙◌, arith}
use Rattle.heap_words.specs.Ranges.{seat_count}
use Rattle.heap_machines.specs.Shown.{shown}
use Rattle.table_heap.proofs.MachineUnder.{within}
use Rattle.heap_seats.proofs.seat.Seat.number.Goals as goal

pub returns-clause-inside : goal.returns-clause-inside
returns-clause-inside c =
    let seat = c.args.self.now in
    let number_below = within shown seat.bundle.machines.items seat.number seat.here in
    let count = seat.bundle.seats ∙ ap (λ config. seat_count config.mutators config.helpers) seat.same_config in
    omega (arith, number_below, count)
