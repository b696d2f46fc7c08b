use Rattle.heap_dump.proofs.CountsLine.{TakenCounts}
use Rattle.heap_dump.proofs.head.take_counts.Given as goal

abbrev pub invariant-counts : goal.invariant-counts
invariant-counts loop = TakenCounts loop.initial.rest loop.rest loop.counter loop.counts
