use Rattle.std.proofs.Common.{take, sym, lit<, arith}
use Rattle.std.proofs.lemmas.List.{get_or-take}
use Rattle.trace_reading.proofs.GrammarNumbers.{numbers_take}
use Rattle.trace_reading.proofs.GrammarLines.{within_at}
use Rattle.heap_dump.proofs.CountsLine.{count_limits, count_small}
use Rattle.heap_dump.proofs.head.count_at.Goals as goal

pub overflow_cast-result : goal.overflow_cast-result
overflow_cast-result c =
    let numbers = c.in_ok-numbers.numbers in
    let read = numbers_take count_limits c.args.bytes.now (take 1 numbers, c.in_ok-numbers.rest.now) count_small (sym c.in_ok-numbers.ensures) in
    let count_within = within_at count_limits (take 1 numbers) 0 read.1 (lit< tt) in
    omega (arith, count_within, get_or-take 1 numbers 0 0 (lit< tt))
