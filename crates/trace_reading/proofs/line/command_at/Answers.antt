use Rattle.std.proofs.Common.{ℕ, List, length, take, sym}
use Rattle.trace_reading.proofs.GrammarLines.{limits_small, suits}
use Rattle.trace_reading.proofs.GrammarNumbers.{numbers_take}
use Rattle.trace_reading.proofs.line.command_at.Goals as goal

pub command-requires : goal.command-requires
command-requires c =
    let bounds = c.limits.result.now in
    let read : List ℕ × List ℕ = (take (length bounds) c.in_ok-numbers.numbers, c.in_ok-numbers.rest.now) in
    suits c.in_ok-kind.kind c.in_ok-numbers.numbers
    (rw (← c.limits.ensures) ((numbers_take bounds c.in_ok-kind.rest.now read (rw c.limits.ensures (limits_small c.in_ok-kind.kind)) (sym c.in_ok-numbers.ensures)).1))
