use Rattle.std.proofs.Common.{ℕ, ◌≡◌, ◌<◌, true, false, get_or}
use Rattle.heap_dump.proofs.whole.are_all.Given as goal

abbrev pub invariant-loop-mark : goal.invariant-loop-mark
invariant-loop-mark loop = (row : ℕ) → row < loop.mark-index → get_or loop.marks row false ≡ true
