use Rattle.std.proofs.Common.{◌≡◌, arith}
use Rattle.heap_words.specs.Ranges.{seat_count}
use Rattle.trace_reading.proofs.ReadItems.{number_read, no_number, no_machine, machine_found}
use Rattle.trace_reading.proofs.items.item_at.Goals as goal

pub returns-in_err-machine : goal.returns-in_err-machine
returns-in_err-machine c =
    let limit : c.seats.result ≡ seat_count c.args.config.now.mutators c.args.config.now.helpers = c.seats.ensures in
    rw c.from_residual.ensures (no_machine c.args.config.now c.args.bytes.now (no_number _ c.args.bytes.now (omega arith) (rw (← limit) c.in_err-machine.ensures)))

pub overflow_sub-machine : goal.overflow_sub-machine
overflow_sub-machine c = (number_read c.seats.result c.args.bytes.now c.in_ok-machine.machine c.in_ok-machine.rest.now (omega arith) c.in_ok-machine.ensures).good.0

pub aim_at-requires : goal.aim_at-requires
aim_at-requires c = let read = number_read c.seats.result c.args.bytes.now c.in_ok-machine.machine c.in_ok-machine.rest.now (omega arith) c.in_ok-machine.ensures in omega (arith, read.good, c.seats.ensures)

pub returns : goal.returns
returns c =
    let limit : c.seats.result ≡ seat_count c.args.config.now.mutators c.args.config.now.helpers = c.seats.ensures in
    let read = number_read _ c.args.bytes.now c.in_ok-machine.machine c.in_ok-machine.rest.now (omega arith) (rw (← limit) c.in_ok-machine.ensures) in
    machine_found c.args.config.now c.args.bytes.now c.in_ok-machine.rest.now c.in_ok-machine.machine (λ borrow. borrow.now) c.aim_at.result read c.aim_at.ensures
