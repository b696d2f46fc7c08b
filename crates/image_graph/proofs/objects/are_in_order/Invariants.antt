use Rattle.std.proofs.Common.{ℕ, ◌+◌, ◌<◌, ◌≤◌, get_or}
use Rattle.heap_words.specs.Words.{Heap}
use Rattle.image_graph.specs.State.{memory_of}
use Rattle.image_graph.specs.Laid.{laid_words}
use Rattle.image_graph.proofs.objects.are_in_order.Given as goal

abbrev pub invariant-loop-index : goal.invariant-loop-index
invariant-loop-index loop = record {
  apart : (index : ℕ) → index + 1 < loop.index → get_or loop.objects index 0 + laid_words (memory_of loop.image) (get_or loop.objects index 0) ≤ get_or loop.objects (index + 1) 0;
  named : (index : ℕ) → index + 1 < loop.index → memory_of loop.image (Heap (get_or loop.objects index 0 + 2)) < memory_of loop.image (Heap (get_or loop.objects (index + 1) 0 + 2));
}
