use Rattle.std.proofs.Common.{◌≡◌, take, sum_by}
use Rattle.heap_dump.specs.Dumped.{row_words}
use Rattle.heap_dump.proofs.dump.words_in.Given as goal

abbrev pub invariant-loop-row : goal.invariant-loop-row
invariant-loop-row loop = loop.words ≡ sum_by row_words (take loop.row loop.graph.rows)
