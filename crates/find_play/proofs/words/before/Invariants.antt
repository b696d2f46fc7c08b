use Rattle.std.proofs.Common.{◌≡◌, ◌+◌, drop}
use Rattle.trace_reading.proofs.Cuts.{count_before}
use Rattle.find_play.proofs.words.before.Given as goal

abbrev pub invariant-loop-count : goal.invariant-loop-count
invariant-loop-count locals = locals.count + count_before locals.separator (drop locals.count locals.bytes) ≡ count_before locals.separator locals.bytes
