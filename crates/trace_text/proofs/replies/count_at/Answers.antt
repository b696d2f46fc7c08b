use Rattle.std.proofs.Common.{ℕ, List, sym, lit<, arith}
use Rattle.trace_reading.proofs.GrammarNumbers.{number_takes}
use Rattle.trace_text.proofs.replies.count_at.Goals as goal

pub overflow_cast-name : goal.overflow_cast-name
overflow_cast-name c =
    let read : ℕ × List ℕ = (c.in_ok-count.count, c.in_ok-count.rest.now) in
    let small = (number_takes 4294967295 c.args.bytes.now read (lit< tt) (sym c.in_ok-count.ensures)).1 in
    omega (arith, small)
