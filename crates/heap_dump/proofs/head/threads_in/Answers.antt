use Rattle.std.proofs.Common.{ℕ, List, ap, codes, ◌∙◌}
use Rattle.heap_dump.proofs.HeadLines.{title_there, rest_is, numbers_are, numbers_there, threads_limits, threads_numbers, threads_small, threads_within, threads_refused, threads_read, empty_is, empty_not}
use Rattle.heap_dump.proofs.head.threads_in.Goals as goal

pub returns-in_err-rest : goal.returns-in_err-rest
returns-in_err-rest c = rw c.from_residual.ensures (λ config same_heap spelled. title_there (codes "threads") (threads_numbers config) c.args.text.now c.in_err-rest.ensures spelled)

pub returns-in_err-threads : goal.returns-in_err-threads
returns-in_err-threads c =
    rw c.from_residual-in_err-threads.ensures
    (λ config same_heap spelled. numbers_there threads_limits (threads_numbers config) c.in_ok-rest.rest.now c.in_err-threads.ensures (rest_is (codes "threads") (threads_numbers config) c.args.text.now c.in_ok-rest.rest.now c.in_ok-rest.ensures spelled) (threads_within config) threads_small)

pub returns-in-Ok : goal.returns-in-Ok
returns-in-Ok c = (
  record { regions = c.in-Ok.ensures.regions ∙ c.regions.ensures; region_words = c.in-Ok.ensures.region_words ∙ c.region_words.ensures; reserve = c.in-Ok.ensures.reserve ∙ c.reserve.ensures },
  threads_read c.args.text.now c.in_ok-rest.rest.now c.in_ok-threads.rest.now c.in_ok-threads.threads c.in-Ok.config c.in_ok-rest.ensures c.in_ok-threads.ensures (empty_is c.in_ok-threads.rest.now c.if-is_empty.ensures)
      c.in-Ok.ensures.mutators c.in-Ok.ensures.helpers,
)

pub returns-in_default : goal.returns-in_default
returns-in_default c = λ config same_heap spelled.
    let numbers_told = numbers_are threads_limits (threads_numbers config) c.in_ok-rest.rest.now _ c.in_ok-threads.ensures (rest_is (codes "threads") (threads_numbers config) c.args.text.now c.in_ok-rest.rest.now c.in_ok-rest.ensures spelled) (threads_within config) threads_small in
    empty_not c.in_ok-threads.rest.now c.if-is_empty.ensures (ap (λ (pair : List ℕ × List ℕ). pair.1) numbers_told)

pub returns-in_default-2 : goal.returns-in_default-2
returns-in_default-2 c = λ config same_heap spelled.
    let fault = rw (c.regions.ensures, c.region_words.ensures, c.reserve.ensures) at c.in_default.ensures.fault in
    threads_refused c.args.heap.now c.args.text.now c.in_ok-rest.rest.now c.in_ok-threads.rest.now c.in_ok-threads.threads _ c.in_ok-rest.ensures c.in_ok-threads.ensures fault (λ fault_told. let spelled = fault_told in cc) c.requires config same_heap spelled
