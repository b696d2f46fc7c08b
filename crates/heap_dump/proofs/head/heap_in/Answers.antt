use Rattle.std.proofs.Common.{ℕ, List, ap, codes}
use Rattle.heap_dump.proofs.HeadLines.{title_there, rest_is, numbers_are, numbers_there, heap_limits, heap_numbers, heap_small, heap_within, heap_refused, heap_read, empty_is, empty_not}
use Rattle.heap_dump.proofs.head.heap_in.Goals as goal

pub returns-in_err-rest : goal.returns-in_err-rest
returns-in_err-rest c = rw c.from_residual.ensures (λ config narrow spelled. title_there (codes "heap") (heap_numbers config) c.args.text.now c.in_err-rest.ensures spelled)

pub returns-in_err-sizes : goal.returns-in_err-sizes
returns-in_err-sizes c =
    rw c.from_residual-in_err-sizes.ensures
    (λ config narrow spelled. numbers_there heap_limits (heap_numbers config) c.in_ok-rest.rest.now c.in_err-sizes.ensures (rest_is (codes "heap") (heap_numbers config) c.args.text.now c.in_ok-rest.rest.now c.in_ok-rest.ensures spelled) (heap_within config narrow) heap_small)

pub returns-in-Ok : goal.returns-in-Ok
returns-in-Ok c = (
  c.in-Ok.ensures.narrow,
  heap_read c.args.text.now c.in_ok-rest.rest.now c.in_ok-sizes.rest.now c.in_ok-sizes.sizes c.in-Ok.heap c.in_ok-rest.ensures c.in_ok-sizes.ensures (empty_is c.in_ok-sizes.rest.now c.if-is_empty.ensures)
      c.in-Ok.ensures.regions c.in-Ok.ensures.region_words c.in-Ok.ensures.reserve,
)

pub returns-in_default : goal.returns-in_default
returns-in_default c = λ config narrow spelled.
    let numbers_told = numbers_are heap_limits (heap_numbers config) c.in_ok-rest.rest.now _ c.in_ok-sizes.ensures (rest_is (codes "heap") (heap_numbers config) c.args.text.now c.in_ok-rest.rest.now c.in_ok-rest.ensures spelled) (heap_within config narrow) heap_small in
    empty_not c.in_ok-sizes.rest.now c.if-is_empty.ensures (ap (λ (pair : List ℕ × List ℕ). pair.1) numbers_told)

pub returns-in_default-2 : goal.returns-in_default-2
returns-in_default-2 c = λ config narrow spelled.
    heap_refused c.args.text.now c.in_ok-rest.rest.now c.in_ok-sizes.rest.now c.in_ok-sizes.sizes _ c.in_ok-rest.ensures c.in_ok-sizes.ensures c.in_default.ensures.fault (λ fault_told. let spelled = fault_told in cc) config narrow spelled
