use Rattle.std.proofs.Common.{Err, refl, sym, take, arith}
use Rattle.trace_reading.proofs.HeadLaws.{these_numbers, sizes_take, no_head, no_configuration, head_read}
use Rattle.trace_reading.proofs.read.head_at.Goals as goal

pub overflow_cast-result : goal.overflow_cast-result
overflow_cast-result c =
    let numbers = c.in_ok-numbers.numbers in
    let sizes_known = (sizes_take c.args.bytes.now (these_numbers numbers.version (take 3 numbers.heap) (take 2 numbers.threads), c.in_ok-numbers.rest.now) (sym c.in_ok-numbers.ensures)).1 in
    omega (arith, sizes_known.1)

pub returns-in_err-numbers-clause-none : goal.returns-in_err-numbers-clause-none
returns-in_err-numbers-clause-none c = rw c.from_residual.ensures (no_head c.args.bytes.now c.in_err-numbers.ensures)

pub returns-in-Err-clause-none : goal.returns-in-Err-clause-none
returns-in-Err-clause-none c =
    let numbers = c.in_ok-numbers.numbers in
    no_configuration c.args.bytes.now numbers.version numbers.heap numbers.threads c.in_ok-numbers.rest.now (Err c.in-Err.field-0) c.in_ok-numbers.ensures c.in-Err.ensures.fault refl

pub returns-in-Ok-clause-found : goal.returns-in-Ok-clause-found
returns-in-Ok-clause-found c =
    let numbers = c.in_ok-numbers.numbers in
    (head_read c.args.bytes.now numbers.version numbers.heap numbers.threads c.in_ok-numbers.rest.now c.in-Ok.config c.in_ok-numbers.ensures
    c.in-Ok.ensures.regions c.in-Ok.ensures.region_words c.in-Ok.ensures.reserve c.in-Ok.ensures.mutators c.in-Ok.ensures.helpers).0

pub returns-in-Ok-clause-known : goal.returns-in-Ok-clause-known
returns-in-Ok-clause-known c =
    let numbers = c.in_ok-numbers.numbers in
    (head_read c.args.bytes.now numbers.version numbers.heap numbers.threads c.in_ok-numbers.rest.now c.in-Ok.config c.in_ok-numbers.ensures
    c.in-Ok.ensures.regions c.in-Ok.ensures.region_words c.in-Ok.ensures.reserve c.in-Ok.ensures.mutators c.in-Ok.ensures.helpers).1
