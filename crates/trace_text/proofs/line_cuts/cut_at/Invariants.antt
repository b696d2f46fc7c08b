use Rattle.std.proofs.Common.{length}
use Rattle.trace_text.proofs.CutLines.{HasPassed}
use Rattle.trace_text.proofs.line_cuts.cut_at.Given as goal

abbrev pub invariant-lines : goal.invariant-lines
invariant-lines loop = HasPassed loop.text loop.bytes loop.rest

abbrev pub decreases-lines : goal.decreases-lines
decreases-lines loop = length loop.rest
